-- Every kernel that fits types gives items of them.
use Rattle.std.proofs.Common.{◌≡◌, ℕ, zero, suc, ℤ, pos, ◌+◌, ◌<◌, Bool, true, false, ◌&&◌, Option, Some, None, List, [], ◌∷◌, ◌++◌, length, map, take, drop}
use Rattle.std.proofs.Common.{refl, sym, ap, ◌∙◌, subst, arith, ⊎_elim, nat_lt, nat_eq, replicate}
use Rattle.std.specs.Prelude.{if◌then◌else◌, nat_le, All, slice_get}
use Rattle.std.specs.List.{list_all}
use Rattle.std.proofs.lemmas.Bool.{cases_lt, cases_eq, and_parts, true≢false}
use Rattle.std.proofs.lemmas.List.{length-map, take_at, drop_at}
use Rattle.std.proofs.lemmas.List.Elements.{All-head, All-tail, All-cons, All-nil, All-append, All-map}
use Rattle.std.proofs.lemmas.Option.{slice_get_within}
use Rattle.river_base.proofs.Tests.{eq_by}
use Rattle.river_base.proofs.PlaceLemmas.{if_lt, if_ge, if_eq, if_ne}
use Rattle.river_base.specs.declared.item.Item as item
use Rattle.river_base.specs.declared.item.Item.TheVariants.{Flat, Pack}
use Rattle.river_base.specs.declared.item.Flat.TheVariants.{One}
use Rattle.river_base.specs.declared.kind.FlatType.{FlatType}
use Rattle.river_base.specs.declared.kind.QueueType.{QueueType}
use Rattle.river_base.specs.declared.kind.QueueType.TheVariants.{Flat as FlatOf, Pack as PackOf}
use Rattle.river_base.specs.Drain.{drain, pass_on}
use Rattle.river_base.specs.Held.{HasType, HasFlatType, items_of, flats}
use Rattle.river_base.specs.Number.{count_of}
use Rattle.river_base.specs.Places.{only, none, list_at, append_at}
use Rattle.work_code.specs.Steps.{Step, Steps, Set, Push, If, Done, Then, BodyForm}
use Rattle.work_code.specs.Ran.{Ran, ran, ran_once}
use Rattle.work_code.specs.Value.{val, is_true}
use Rattle.kern_rows.specs.Forms.{CodeForm, FilterForm, RunForm}
use Rattle.kern_rows.specs.Runs.{slots_from, run_kept, pushed_to, Filtering, Filtered, filter_one, filter_turns, next_run, after_run, received, run_at}
use Rattle.kern_rows.specs.Runs.{run_or, usual_run, needs, buffer_of}
use Rattle.kern_rows.specs.Turns.{Turns, shares, ones, front_in, rest_in, front_at, rest_at, front_of, passed, put, waiting, itself}
use Rattle.river_kernels.specs.declared.types.VarKind.{VarKind}
use Rattle.river_kernels.specs.Formed.{is_width, is_term, is_step, is_steps, has_port, is_code, has_rates, is_filter, is_usual, is_first, is_number, pushes}
use Rattle.river_kernels.specs.Fits.{Fits, rows, stream, relation, is_sized, is_bag, width_of, ports, are_widths, spliced}
use Rattle.river_kernels.specs.Types.{types_of}
use Rattle.river_kernels.specs.Kern.{Kern, code, filter, duplicate, deal, collect, packed, unpack, window, select, project, cross, streamer, tally, fused}
use Rattle.river_kernels.proofs.FitsLaw.{fits_types}
use Rattle.brooklet_model.specs.Firings.{Kept, Slots, Buffered, Turn, Joining, Received, Crossing, Fired, feed, splice}
use Rattle.brooklet_model.specs.Fire.{fire, outs, privates, first_kept, code_one, filter_firing, deal_one, join_one, received_one, cross_one, values_of}
use Rattle.brooklet_model.specs.Fire.{value_of}
use Rattle.brooklet_model.specs.Shapes.{IsOne, HasSlots, IsDealing, IsJoining, IsReceived, IsCrossing, HasShape, IsShaped}
use Rattle.brooklet_model.specs.Typed.{IsTyped, IsOf, AreOf, AreWaiting, AreReceived, WaitAsTyped, one_type, between, Holds}
use Rattle.brooklet_model.proofs.BagTypes.{window_typed, select_typed, project_typed, streamer_typed, PairTyped, cross_typed_left, cross_typed_right}
use Rattle.kern_bags.specs.Steps.{Pairing, window_one, select_one, project_one, streamer_one, crosses}
use Rattle.brooklet_model.proofs.Ports.{counts as numbers, shaped}
use Rattle.brooklet_model.proofs.Shapes.{fire_shape, first_shape, shape_length}
use Rattle.brooklet_model.proofs.Spliced.{spliced_all}

-- ITEMS AT PORTS

only_of : (P : ℕ → item.Item → Type 0) (port : ℕ) (xs : List item.Item) → All (P port) xs → (q : ℕ) → All (P q) (only port xs q)
only_of P zero xs h zero = h
only_of P zero xs h (suc q) = All-nil (P (suc q))
only_of P (suc p) xs h zero = All-nil (P 0)
only_of P (suc p) xs h (suc q) = only_of (λ i. P (suc i)) p xs h q

none_of : (types : List QueueType) → AreOf types none
none_of types q = All-nil (IsOf types q)

one_of : (t : QueueType) (os : List QueueType) (xs : List item.Item) → os ≡ t ∷ [] → All (HasType t) xs → AreOf os (only 0 xs)
one_of t os xs e h = only_of (IsOf os) 0 xs (subst (λ (l : List QueueType). All (IsOf l 0) xs) (sym e) h)

at_one : (t : QueueType) (p : ℕ) (x : item.Item) → IsOf (t ∷ []) p x → HasType t x
at_one t zero x h = h
at_one t (suc p) x h = absurd h

of_one : (t : QueueType) (is : List QueueType) (p : ℕ) (x : item.Item) → is ≡ t ∷ [] → IsOf is p x → HasType t x
of_one t is p x e h = at_one t p x (subst (λ (l : List QueueType). IsOf l p x) e h)

at_many : (n : ℕ) (t : QueueType) (p : ℕ) (x : item.Item) → IsOf (replicate n t) p x → HasType t x
at_many zero t p x h = absurd h
at_many (suc n) t zero x h = h
at_many (suc n) t (suc p) x h = at_many n t p x h

of_many : (n : ℕ) (t : QueueType) (is : List QueueType) (p : ℕ) (x : item.Item) → is ≡ replicate n t → IsOf is p x → HasType t x
of_many n t is p x e h = at_many n t p x (subst (λ (l : List QueueType). IsOf l p x) e h)

to_many : (n : ℕ) (t : QueueType) (p : ℕ) (x : item.Item) → p < n → HasType t x → IsOf (replicate n t) p x
to_many zero t p x lt h = absurd (omega (arith, lt))
to_many (suc n) t zero x lt h = h
to_many (suc n) t (suc p) x lt h = to_many n t p x (omega (arith, lt)) h

one_item : (P : item.Item → Type 0) (x : item.Item) → P x → All P (x ∷ [])
one_item P x h = All-cons P x [] h (All-nil P)

copies_of : (P : item.Item → Type 0) (x : item.Item) (q n : ℕ) → (q < n → P x) → All P (if nat_lt q n then x ∷ [] else [])
copies_of P x q n h = ⊎_elim
    (λ lt. subst (All P) (sym (if_lt q n (x ∷ []) [] lt)) (one_item P x (h lt)))
    (λ ge. subst (All P) (sym (if_ge q n (x ∷ []) [] ge)) (All-nil P))
    (cases_lt q n)

-- BODIES

abbrev IsPushed : List ℤ → ℕ × List ℤ → Type 0
IsPushed outs e = has_port outs e.0 (length e.1) ≡ true

either_well : (outs : List ℤ) (b : Bool) (r s : Ran) → All (IsPushed outs) r.pushes → All (IsPushed outs) s.pushes
    → All (IsPushed outs) (if b then r else s).pushes
either_well outs true r s h k = h
either_well outs false r s h k = k

mutual
  once_well : (inputs slots : ℕ) (outs : List ℤ) (s : Step) (input kept : List ℤ) → is_step inputs slots outs s ≡ true
      → All (IsPushed outs) (ran_once s input kept).pushes
  once_well inputs slots outs (Set slot t) input kept h = All-nil (IsPushed outs)
  once_well inputs slots outs (Push port ts) input kept h =
      let p = and_parts (has_port outs port (length ts)) (list_all (is_term inputs slots) ts) h in
      All-cons (IsPushed outs) (port, map (λ t. val t input kept) ts) []
      (ap (has_port outs port) (length-map ts (λ t. val t input kept)) ∙ p.0)
      (All-nil (IsPushed outs))
  once_well inputs slots outs (If cond when otherwise) input kept h =
      let p = and_parts (is_term inputs slots cond) (is_steps inputs slots outs when && is_steps inputs slots outs otherwise) h in
      let q = and_parts (is_steps inputs slots outs when) (is_steps inputs slots outs otherwise) p.1 in
      either_well outs (is_true (val cond input kept)) (ran when input kept) (ran otherwise input kept) (ran_well inputs slots outs when input kept q.0)
      (ran_well inputs slots outs otherwise input kept q.1)

  ran_well : (inputs slots : ℕ) (outs : List ℤ) (ss : Steps) (input kept : List ℤ) → is_steps inputs slots outs ss ≡ true
      → All (IsPushed outs) (ran ss input kept).pushes
  ran_well inputs slots outs Done input kept h = All-nil (IsPushed outs)
  ran_well inputs slots outs (Then s ss) input kept h =
      let p = and_parts (is_step inputs slots outs s) (is_steps inputs slots outs ss) h in
      let first = ran_once s input kept in
      All-append (IsPushed outs) first.pushes (ran ss input first.slots).pushes (once_well inputs slots outs s input kept p.0)
      (ran_well inputs slots outs ss input first.slots p.1)

port_of : (outs : List ℤ) (port : ℕ) (row : List ℤ) → has_port outs port (length row) ≡ true → IsOf (ports outs) port (Flat (One row))
port_of [] port row h = absurd (true≢false (sym h))
port_of (w ∷ ws) zero row h = grind (arith, h)
port_of (w ∷ ws) (suc p) row h = port_of ws p row h

pushes_of : (outs : List ℤ) (ps : List (ℕ × List ℤ)) → All (IsPushed outs) ps → AreOf (ports outs) (λ q. pushed_to q ps)
pushes_of outs [] h q = All-nil (IsOf (ports outs) q)
pushes_of outs (e ∷ es) h q =
    let P = IsOf (ports outs) q in
    let rest = pushes_of outs es (All-tail (IsPushed outs) e es h) q in
    ⊎_elim
    (λ eq. subst (All P) (sym (if_eq e.0 q (Flat (One e.1) ∷ pushed_to q es) (pushed_to q es) eq))
    (All-cons P (Flat (One e.1)) (pushed_to q es)
    (subst (λ j. IsOf (ports outs) j (Flat (One e.1))) eq (port_of outs e.0 e.1 (All-head (IsPushed outs) e es h))) rest))
    (λ ne. subst (All P) (sym (if_ne e.0 q (Flat (One e.1) ∷ pushed_to q es) (pushed_to q es) ne)) rest)
    (cases_eq e.0 q)

kept_of : (b : BodyForm) (inputs : ℕ) (outs : List ℤ) (kept input : List ℤ) → is_steps inputs b.slots outs b.steps ≡ true
    → AreOf (ports outs) (λ q. pushed_to q (run_kept b kept input).pushes)
kept_of b inputs outs kept input h = pushes_of outs (run_kept b kept input).pushes (ran_well inputs b.slots outs b.steps input (slots_from b.slots kept) h)

code_of : (k : CodeForm) (x : item.Item) (ss : List Kept) → is_steps k.body.inputs k.body.slots k.outs k.body.steps ≡ true → HasSlots k.starts ss
    → AreOf (ports k.outs) (code_one k x ss).outs
code_of k x [] f h = kept_of k.body k.body.inputs k.outs [] (values_of x) f
code_of k x (Slots kept ∷ ss) f h = kept_of k.body k.body.inputs k.outs kept (values_of x) f
code_of k x ss f h = only_of (IsOf (ports k.outs)) 0 [] (All-nil (IsOf (ports k.outs) 0))

nothing_of : (types : List QueueType) → AreOf types (only 0 [])
nothing_of types = only_of (IsOf types) 0 [] (All-nil (IsOf types 0))

-- each run of a well-formed filter is well formed
abbrev RunsWell : FilterForm → Type 0
RunsWell f = (k : ℕ) → is_steps (run_at f k).peek (run_at f k).body.slots (pos 1 ∷ []) (run_at f k).body.steps ≡ true

first_well : (f : FilterForm) (o : Option RunForm) → is_steps f.peek f.body.slots (pos 1 ∷ []) f.body.steps ≡ true → is_first f.body.slots o ≡ true
    → is_steps (run_or (usual_run f) o).peek (run_or (usual_run f) o).body.slots (pos 1 ∷ []) (run_or (usual_run f) o).body.steps ≡ true
first_well f None h g = h
first_well f (Some r) h g =
    let steps = is_steps r.peek f.body.slots (pos 1 ∷ []) r.body.steps in
    let a = and_parts (nat_eq r.body.inputs r.peek)
    (nat_eq r.body.slots f.body.slots && (nat_le r.pop r.peek && (steps && is_number (pushes r.body.steps) r.push))) g in
    let b = and_parts (nat_eq r.body.slots f.body.slots) (nat_le r.pop r.peek && (steps && is_number (pushes r.body.steps) r.push)) a.1 in
    let c = and_parts (nat_le r.pop r.peek) (steps && is_number (pushes r.body.steps) r.push) b.1 in
    let d = and_parts steps (is_number (pushes r.body.steps) r.push) c.1 in
    subst (λ k. is_steps r.peek k (pos 1 ∷ []) r.body.steps ≡ true) (sym (eq_by r.body.slots f.body.slots b.0)) d.0

runs_well : (f : FilterForm) → is_filter f ≡ true → RunsWell f
runs_well f h k = go k
  where
    usual : is_steps f.peek f.body.slots (pos 1 ∷ []) f.body.steps ≡ true
    usual =
        let a = and_parts (is_usual f) (is_first f.body.slots f.first) h in
        let c = and_parts (has_rates f)
        (is_steps f.peek f.body.slots (pos 1 ∷ []) f.body.steps && (nat_le (length f.starts) f.body.slots && is_number (pushes f.body.steps) f.push)) a.0 in
        (and_parts (is_steps f.peek f.body.slots (pos 1 ∷ []) f.body.steps)
        (nat_le (length f.starts) f.body.slots && is_number (pushes f.body.steps) f.push) c.1).0

    go : (k : ℕ) → is_steps (run_at f k).peek (run_at f k).body.slots (pos 1 ∷ []) (run_at f k).body.steps ≡ true
    go zero = first_well f f.first usual (and_parts (is_usual f) (is_first f.body.slots f.first) h).1
    go (suc k) = usual

either_pushed : (b : Bool) (x y : Filtered) → All (IsPushed (pos 1 ∷ [])) x.pushes → All (IsPushed (pos 1 ∷ [])) y.pushes
    → All (IsPushed (pos 1 ∷ [])) (if b then x else y).pushes
either_pushed true x y h g = h
either_pushed false x y h g = g

turns_well : (f : FilterForm) → RunsWell f → (n : ℕ) (s : Filtering) → All (IsPushed (pos 1 ∷ [])) (filter_turns f n s).pushes
turns_well f well zero s = All-nil (IsPushed (pos 1 ∷ []))
turns_well f well (suc n) s =
    let r = run_at f s.fired in
    either_pushed (nat_le (needs f s.fired) (length (buffer_of f s))) _ _
    (All-append (IsPushed (pos 1 ∷ [])) (next_run f s).pushes (filter_turns f n (after_run s (next_run f s))).pushes
    (ran_well r.peek r.body.slots (pos 1 ∷ []) r.body.steps (take r.peek (buffer_of f s)) (slots_from r.body.slots s.kept) (well s.fired))
    (turns_well f well n (after_run s (next_run f s))))
    (All-nil (IsPushed (pos 1 ∷ [])))

turn_of : (f : FilterForm) (v : ℤ) (s : Filtering) → RunsWell f → AreOf (rows 1 ∷ []) (λ q. pushed_to q (filter_one f v s).pushes)
turn_of f v s well = pushes_of (pos 1 ∷ []) (filter_one f v s).pushes (turns_well f well (suc (length (received v s).seen)) (received v s))

filter_of : (f : FilterForm) (x : item.Item) (ss : List Kept) → RunsWell f
    → AreOf (rows 1 ∷ []) (filter_firing f x ss).outs
filter_of f x (Buffered s ∷ ss) h = turn_of f (value_of x) s h
filter_of f x ss h = nothing_of (rows 1 ∷ [])

-- SPLITTERS AND JOINERS

deal_of : (ws : List ℕ) (t : QueueType) (x : item.Item) (ss : List Kept) → HasType t x → IsOne (IsDealing ws) ss
    → AreOf (replicate (length ws) t) (deal_one ws x ss).outs
deal_of ws t x (s ∷ u ∷ us) i h = absurd h
deal_of ws t x (Turn port had ∷ []) i h =
    only_of (IsOf (replicate (length ws) t)) port (x ∷ []) (one_item (IsOf (replicate (length ws) t) port) x (to_many (length ws) t port x h.0 i))
deal_of ws t x ss i h = absurd h

-- at each place what this says
abbrev EachPlace : (ℕ → item.Item → Type 0) → List (List item.Item) → Type 0
EachPlace P ls = (q : ℕ) → All (P q) (list_at ls q)

rest_all : (P : item.Item → Type 0) (l : List item.Item) → All P l → All P (rest_in l)
rest_all P [] h = h
rest_all P (x ∷ xs) h = All-tail P x xs h

rest_each : (P : ℕ → item.Item → Type 0) (ls : List (List item.Item)) (p : ℕ) → EachPlace P ls → EachPlace P (rest_at ls p)
rest_each P [] p h q = h q
rest_each P (l ∷ ls) zero h zero = rest_all (P 0) l (h 0)
rest_each P (l ∷ ls) zero h (suc q) = h (suc q)
rest_each P (l ∷ ls) (suc p) h zero = h 0
rest_each P (l ∷ ls) (suc p) h (suc q) = rest_each (λ i. P (suc i)) ls p (λ i. h (suc i)) q

put_each : (P : ℕ → item.Item → Type 0) (ls : List (List item.Item)) (p : ℕ) (x : item.Item) → EachPlace P ls → P p x → EachPlace P (append_at ls p (x ∷ []))
put_each P [] p x h k q = h q
put_each P (l ∷ ls) zero x h k zero = All-append (P 0) l (x ∷ []) (h 0) (one_item (P 0) x k)
put_each P (l ∷ ls) zero x h k (suc q) = h (suc q)
put_each P (l ∷ ls) (suc p) x h k zero = h 0
put_each P (l ∷ ls) (suc p) x h k (suc q) = put_each (λ i. P (suc i)) ls p x (λ i. h (suc i)) k q

front_in_all : (P Q : item.Item → Type 0) (give : item.Item → List item.Item) → ((x : item.Item) → P x → All Q (give x)) → (l o : List item.Item) → All P l
    → front_in give l ≡ Some o → All Q o
front_in_all P Q give f [] o h e = absurd (cc e)
front_in_all P Q give f (x ∷ xs) o h e = let g : give x ≡ o = cc in subst (All Q) g (f x (All-head P x xs h))

front_all : (P : ℕ → item.Item → Type 0) (Q : item.Item → Type 0) (give : item.Item → List item.Item) → ((p : ℕ) (x : item.Item) → P p x → All Q (give x))
    → (ls : List (List item.Item)) (p : ℕ) (o : List item.Item) → EachPlace P ls → front_at give ls p ≡ Some o → All Q o
front_all P Q give f [] p o h e = absurd (cc e)
front_all P Q give f (l ∷ ls) zero o h e = front_in_all (P 0) Q give (f 0) l o (h 0) e
front_all P Q give f (l ∷ ls) (suc p) o h e = front_all (λ i. P (suc i)) Q give (λ i. f (suc i)) ls p o (λ i. h (suc i)) e

drain_all : (P : ℕ → item.Item → Type 0) (Q : item.Item → Type 0) (give : item.Item → List item.Item) (ws : List ℕ)
    → ((p : ℕ) (x : item.Item) → P p x → All Q (give x)) → (n : ℕ) (s : Turns) → EachPlace P s.lists
    → All Q (drain (front_of give) (passed ws) n s).0 × EachPlace P (drain (front_of give) (passed ws) n s).1.lists
drain_all P Q give ws f zero s h = (All-nil Q, h)
drain_all P Q give ws f (suc n) s h = go (front_of give s) refl (drain_all P Q give ws f n (passed ws s) (rest_each P s.lists s.port h))
  where
    go : (o : Option (List item.Item)) → front_of give s ≡ o
        → All Q (drain (front_of give) (passed ws) n (passed ws s)).0 × EachPlace P (drain (front_of give) (passed ws) n (passed ws s)).1.lists
        → All Q (pass_on (passed ws) s (drain (front_of give) (passed ws) n) o).0
        × EachPlace P (pass_on (passed ws) s (drain (front_of give) (passed ws) n) o).1.lists
    go None e r = (All-nil Q, h)
    go (Some o) e r = (All-append Q o _ (front_all P Q give f s.lists s.port o h e) r.0, r.1)

join_of : (give : item.Item → List item.Item) (ws : List ℕ) (is os : List QueueType) (t : QueueType) (p : ℕ) (x : item.Item) (ss : List Kept)
    → ((q : ℕ) (y : item.Item) → IsOf is q y → All (HasType t) (give y)) → os ≡ t ∷ [] → IsOf is p x → IsOne (IsJoining ws) ss → AreWaiting is ss
    → AreOf os (join_one give ws p x ss).outs × AreWaiting is (join_one give ws p x ss).states
join_of give ws is os t p x (s ∷ u ∷ us) f e i h a = absurd h
join_of give ws is os t p x (Joining s ∷ []) f e i h a =
    let d = drain_all (IsOf is) (HasType t) give ws f (waiting (put p x s).lists) (put p x s) (put_each (IsOf is) s.lists p x a i) in
    (one_of t os (drain (front_of give) (passed ws) (waiting (put p x s).lists) (put p x s)).0 e d.0, d.1)
join_of give ws is os t p x ss f e i h a = absurd h

-- PACKS

pub flats_of : (t : FlatType) (xs : List item.Item) → All (HasType (FlatOf t)) xs → All (HasFlatType t) (flats xs)
flats_of t [] h = All-nil (HasFlatType t)
flats_of t (Flat f ∷ xs) h =
    All-cons (HasFlatType t) f (flats xs) (All-head (HasType (FlatOf t)) (Flat f) xs h) (flats_of t xs (All-tail (HasType (FlatOf t)) (Flat f) xs h))
flats_of t (Pack fs ∷ xs) h = flats_of t xs (All-tail (HasType (FlatOf t)) (Pack fs) xs h)

opened_of : (t : FlatType) (x : item.Item) → HasType (PackOf t) x → All (HasType (FlatOf t)) (items_of x)
opened_of t (Flat f) h = absurd h
opened_of t (Pack fs) h = All-map (HasType (FlatOf t)) (λ f. Flat f) fs h

-- TWO KERNELS

feed_of : (P : List Kept → Type 0) (m : QueueType) (bs : List QueueType) (f : item.Item → List Kept → Fired)
    → ((x : item.Item) (ss : List Kept) → HasType m x → P ss → AreOf bs (f x ss).outs × P (f x ss).states)
    → (xs : List item.Item) (ss : List Kept) → All (HasType m) xs → P ss → AreOf bs (feed f xs ss).outs × P (feed f xs ss).states
feed_of P m bs f step [] ss a h = ((λ j. All-nil (IsOf bs j)), h)
feed_of P m bs f step (x ∷ xs) ss a h =
    let one = step x ss (All-head (HasType m) x xs a) h in
    let rest = feed_of P m bs f step xs (f x ss).states (All-tail (HasType m) x xs a) one.1 in
    ((λ j. All-append (IsOf bs j) ((f x ss).outs j) ((feed f xs (f x ss).states).outs j) (one.0 j) (rest.0 j)), rest.1)

-- the port between two kernels has the type that it is said to have
pub between_is : (a : Kern) (is ms : List QueueType) (m : QueueType) (us : List VarKind) (at : ℕ) → Fits a is ms us → slice_get ms at ≡ Some m
    → between at (types_of a is) ≡ m ∷ []
between_is a is ms m us at f g = ap (between at) (fits_types a is ms us f) ∙ ap one_type g

-- BAGS

received_of : (i o : QueueType) (one : List item.Item → item.Item → List item.Item) (is os : List QueueType) (p : ℕ) (x : item.Item) (ss : List Kept)
    → is ≡ i ∷ [] → os ≡ o ∷ []
    → ((past : List item.Item) (y : item.Item) → All (HasType i) past → HasType i y → All (HasType o) (one past y))
    → IsOne IsReceived ss → AreReceived is ss → IsOf is p x → AreOf os (received_one one x ss).outs × AreReceived is (received_one one x ss).states
received_of i o one is os p x (s ∷ u ∷ us) e g f h t k = absurd h
received_of i o one is os p x (Received past ∷ []) e g f h t k =
    let typed : HasType i x = of_one i is p x e k in
    let all : All (HasType i) past = subst (λ (l : List QueueType). All (IsOf l 0) past) e t in (
      one_of o os (one past x) g (f past x all typed),
      subst (λ (l : List QueueType). All (IsOf l 0) (past ++ x ∷ [])) (sym e) (All-append (HasType i) past (x ∷ []) all (one_item (HasType i) x typed)),
    )
received_of i o one is os p x ss e g f h t k = absurd h

pair_of : (a b p : ℕ) (x : item.Item) (s : Pairing) → PairTyped a b s → IsOf (relation a ∷ relation b ∷ []) p x
    → All (HasType (relation (a + b))) (crosses p x s).0 × PairTyped a b (crosses p x s).1
pair_of a b zero x s t k = cross_typed_left a b x s t k
pair_of a b (suc zero) x s t k = cross_typed_right a b 0 x s t k
pair_of a b (suc (suc p)) x s t k = absurd k

cross_of : (a b : ℕ) (is os : List QueueType) (p : ℕ) (x : item.Item) (ss : List Kept) → is ≡ relation a ∷ relation b ∷ [] → os ≡ relation (a + b) ∷ []
    → IsOne IsCrossing ss → WaitAsTyped is ss → IsOf is p x → AreOf os (cross_one p x ss).outs × WaitAsTyped is (cross_one p x ss).states
cross_of a b is os p x (s ∷ u ∷ us) e g h t k = absurd h
cross_of a b is os p x (Crossing s ∷ []) e g h t k =
    let d = pair_of a b p x s (subst (λ (l : List QueueType). All (IsOf l 0) s.left × All (IsOf l 1) s.right) e t)
    (subst (λ (l : List QueueType). IsOf l p x) e k) in (
      one_of (relation (a + b)) os (crosses p x s).0 g d.0,
      subst (λ (l : List QueueType). All (IsOf l 0) (crosses p x s).1.left × All (IsOf l 1) (crosses p x s).1.right) (sym e) d.1,
    )
cross_of a b is os p x ss e g h t k = absurd h

-- a firing of a kernel on an item of its port's type gives items of its ports' types, and so are those that its states keep
pub fire_typed : (k : Kern) (is os : List QueueType) (vs : List VarKind) (p : ℕ) (x : item.Item) (ss : List Kept) → Fits k is os vs → HasShape k ss
    → Holds k is ss → IsOf is p x
    → AreOf os (fire k p x ss).outs × Holds k is (fire k p x ss).states
fire_typed (code k) is os vs p x ss f h t i =
    let c = and_parts (is_width k.body.inputs) (are_widths k.outs && is_code k) f.3 in
    let d = and_parts (are_widths k.outs) (is_code k) c.1 in
    let e = and_parts (is_steps k.body.inputs k.body.slots k.outs k.body.steps) (nat_le (length k.starts) k.body.slots) d.1 in
    (subst (λ (l : List QueueType). AreOf l (code_one k x ss).outs) (sym f.1) (code_of k x ss e.0 h), tt)
fire_typed (filter g) is os vs p x ss f h t i =
    (subst (λ (l : List QueueType). AreOf l (filter_firing g x ss).outs) (sym f.1) (filter_of g x ss (runs_well g f.3)), tt)
fire_typed (duplicate n) is os vs p x ss f h t i = (
  (λ q. subst (λ (l : List QueueType). All (IsOf l q) (if nat_lt q n then x ∷ [] else [])) (sym f.2)
      (copies_of (IsOf (replicate n (FlatOf f.0)) q) x q n (λ lt. to_many n (FlatOf f.0) q x lt (of_one (FlatOf f.0) is p x f.1 i)))),
  tt,
)
fire_typed (deal ws) is os vs p x ss f h t i = (
  subst (λ (l : List QueueType). AreOf l (deal_one (shares ws) x ss).outs) (ap (λ n. replicate n (FlatOf f.0)) (length-map ws count_of) ∙ sym f.2)
      (deal_of (shares ws) (FlatOf f.0) x ss (of_one (FlatOf f.0) is p x f.1 i) h),
  tt,
)
fire_typed (collect ws) is os vs p x ss f h t i =
    join_of itself (shares ws) is os (FlatOf f.0) p x ss (λ q y j. one_item (HasType (FlatOf f.0)) y (of_many (length ws) (FlatOf f.0) is q y f.1 j)) f.2 i h t
fire_typed (packed k) is os vs p x ss f h t i =
    let ft : Fits k is (FlatOf f.1 ∷ []) [] = subst (λ (l : List QueueType). Fits k l (FlatOf f.1 ∷ []) []) (sym f.2) f.5 in
    let one = fire_typed k is (FlatOf f.1 ∷ []) [] p x ss ft h t i in
    let xs = (fire k p x ss).outs 0 in
    (one_of (PackOf f.1) os (Pack (flats xs) ∷ []) f.3 (one_item (HasType (PackOf f.1)) (Pack (flats xs)) (flats_of f.1 xs (one.0 0))), one.1)
fire_typed (unpack n) is os vs p x ss f h t i =
    join_of items_of (ones n) is os (FlatOf f.0) p x ss (λ q y j. opened_of f.0 y (of_many n (PackOf f.0) is q y f.1 j)) f.2 i h t
fire_typed (window w) is os vs p x ss f h t i =
    received_of (stream f.0) (relation f.0) (window_one w) is os p x ss f.1 f.2 (λ past y a b. window_typed f.0 w past y a b) h t i
fire_typed (select e) is os vs p x ss f h t i =
    let c = and_parts (is_sized f.0) (is_bag f.0 && is_term (width_of f.0) 0 e) f.4 in
    let d = and_parts (is_bag f.0) (is_term (width_of f.0) 0 e) c.1 in
    (one_of (FlatOf f.0) os (select_one e x) f.2 (select_typed f.0 e x d.0 (of_one (FlatOf f.0) is p x f.1 i)), tt)
fire_typed (project es) is os vs p x ss f h t i =
    (one_of (relation (length es)) os (project_one es x) f.2 (project_typed f.0 es x (of_one (relation f.0) is p x f.1 i)), tt)
fire_typed cross is os vs p x ss f h t i = cross_of f.0 f.1 is os p x ss f.2 f.3 h t i
fire_typed (streamer s) is os vs p x ss f h t i =
    received_of (relation f.0) (stream f.0) (streamer_one s) is os p x ss f.1 f.2 (λ past y a b. streamer_typed f.0 s past y a b) h t i
fire_typed tally is os vs p x ss f h t i = (none_of os, tt)
fire_typed (fused a b at) is os vs p x ss f h t i =
    let ms = f.0 in
    let m = f.1 in
    let bs = f.2 in
    let us = f.3 in
    let ws = f.4 in
    let fa : Fits a is ms us = f.5 in
    let fb : Fits b (m ∷ []) bs ws = f.7 in
    let here : IsShaped a = shaped a is ms us fa in
    let there : IsShaped b = shaped b (m ∷ []) bs ws fb in
    let mid : between at (types_of a is) ≡ m ∷ [] = between_is a is ms m us at fa f.6 in
    let sa = take (privates a) ss in
    let sb = drop (privates a) ss in
    let ra = fire a p x sa in
    let ia = fire_typed a is ms us p x sa fa h.0 t.0 i in
    let rb = feed (fire b 0) (ra.outs at) sb in
    let items : All (HasType m) (ra.outs at) = subst (λ o. All (IsTyped o) (ra.outs at)) f.6 (ia.0 at) in
    let ib = feed_of (λ (u : List Kept). HasShape b u × Holds b (m ∷ []) u) m bs (fire b 0)
    (λ y u iy hy. let o = fire_typed b (m ∷ []) bs ws 0 y u fb hy.0 hy.1 iy in (o.0, (fire_shape b 0 y u there hy.0, o.1)))
    (ra.outs at) sb items (h.1, subst (λ (l : List QueueType). Holds b l sb) mid t.1) in
    let la = shape_length a ra.states (fire_shape a p x sa here h.0) in
    let cb = numbers b (m ∷ []) bs ws fb in (
      subst (λ (l : List QueueType). AreOf l (splice at (outs b) ra.outs rb.outs)) (sym f.8)
          (subst (λ n. AreOf (spliced at ms bs) (splice at n ra.outs rb.outs)) cb.outs
          (λ q. spliced_all IsTyped ms bs at q ra.outs rb.outs (slice_get_within ms at m f.6) ia.0 ib.0)),
      (
        subst (Holds a is) (sym (take_at ra.states rb.states (privates a) la)) ia.1,
        subst (λ (l : List QueueType). Holds b l (drop (privates a) (ra.states ++ rb.states))) (sym mid)
            (subst (Holds b (m ∷ [])) (sym (drop_at ra.states rb.states (privates a) la)) ib.1.1),
      ),
    )

-- the first states keep nothing
waits_none : (is : List QueueType) (n p : ℕ) → All (IsOf is p) (list_at (replicate n []) p)
waits_none is zero p = All-nil (IsOf is p)
waits_none is (suc n) zero = All-nil (IsOf is 0)
waits_none is (suc n) (suc p) = go n p
  where
    go : (n q : ℕ) → All (IsOf is (suc p)) (list_at (replicate n []) q)
    go zero q = All-nil (IsOf is (suc p))
    go (suc n) zero = All-nil (IsOf is (suc p))
    go (suc n) (suc q) = go n q

-- the first states of a kernel keep items of the types that it reads
pub first_holds : (k : Kern) (is : List QueueType) → IsShaped k → Holds k is (first_kept k)
first_holds (collect ws) is f = λ p. waits_none is (length ws) p
first_holds (packed k) is f = first_holds k is f.0
first_holds (unpack n) is f = λ p. waits_none is n p
first_holds (window w) is f = All-nil (IsOf is 0)
first_holds cross is f = (All-nil (IsOf is 0), All-nil (IsOf is 1))
first_holds (streamer s) is f = All-nil (IsOf is 0)
first_holds (fused a b at) is f =
    let la = shape_length a (first_kept a) (first_shape a f.0) in (
      subst (Holds a is) (sym (take_at (first_kept a) (first_kept b) (privates a) la)) (first_holds a is f.0),
      subst (Holds b (between at (types_of a is))) (sym (drop_at (first_kept a) (first_kept b) (privates a) la))
          (first_holds b (between at (types_of a is)) f.1),
    )
first_holds kernel is f = tt
