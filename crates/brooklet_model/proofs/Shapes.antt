-- States keep their kernel's shape.
use Rattle.std.proofs.Common.{◌≡◌, ℕ, zero, suc, ℤ, ◌+◌, ◌<◌, Bool, true, false, Some, None, List, [], ◌∷◌, length, take, drop, refl, sym, ◌∙◌, subst}
use Rattle.std.proofs.Common.{arith, length-drop, nat_lt, ⊎_elim}
use Rattle.std.specs.Prelude.{if◌then◌else◌, nat_le, slice_index_or}
use Rattle.std.specs.List.{AllByRecursion}
use Rattle.std.proofs.lemmas.List.{length-map, length-take, length-replicate, take_at, drop_at}
use Rattle.std.proofs.lemmas.Bool.{cases_lt}
use Rattle.kern_rows.proofs.Passed.{length-rest_at, turn_by}
use Rattle.river_base.proofs.PlaceLemmas.{if_lt, if_ge, length-append_at}
use Rattle.river_base.specs.declared.item.Item as item
use Rattle.river_base.specs.Held.{items_of}
use Rattle.river_base.specs.Number.{count_of}
use Rattle.river_base.specs.Drain.{drain, pass_on}
use Rattle.kern_rows.specs.Forms.{CodeForm, FilterForm}
use Rattle.kern_rows.specs.Runs.{Filtering, Filtered, filter_turns, next_run, after_run, received, run_at, needs, buffer_of}
use Rattle.kern_rows.specs.Needs.{HaveShares, IsJoiner}
use Rattle.kern_rows.specs.Turns.{Turns, IsTurn, shares, ones, next_port, next_had, front_of, passed, waiting, put, itself}
use Rattle.kern_bags.specs.Steps.{window_one, streamer_one}
use Rattle.river_kernels.specs.Kern.{Kern, code, filter, duplicate, deal, collect, packed, unpack, window, select, project, cross, streamer, tally, fused}
use Rattle.kern_rows.proofs.Lengths.{run_kept_length}
use Rattle.brooklet_model.specs.Firings.{Kept, Slots, Buffered, Turn, Joining, Received, Crossing, feed}
use Rattle.brooklet_model.specs.Fire.{fire, privates, kept_vars, first_kept, first_slots, code_one, filter_firing, join_one, received_one, cross_one, values_of}
use Rattle.brooklet_model.specs.Fire.{value_of}
use Rattle.brooklet_model.specs.Shapes.{IsShaped, AreSlots, IsFiltering, IsDealing, IsJoining, IsReceived, IsCrossing, IsNone, IsOne, HasSlots, HasShape}
use Rattle.brooklet_model.proofs.Lists.{feed_kept}

one_length : (P : Kept → Type 0) (ss : List Kept) → IsOne P ss → length ss ≡ 1
one_length P [] h = absurd h
one_length P (s ∷ []) h = refl
one_length P (s ∷ t ∷ ts) h = absurd h

none_length : (ss : List Kept) → IsNone ss → length ss ≡ 0
none_length [] h = refl
none_length (s ∷ ss) h = absurd h

slots_length : (zs : List ℤ) (ss : List Kept) → HasSlots zs ss → length ss ≡ kept_vars zs
slots_length [] ss h = none_length ss h
slots_length (z ∷ zs) ss h = one_length (AreSlots (length (z ∷ zs))) ss h

-- a state for each private variable
pub shape_length : (k : Kern) (ss : List Kept) → HasShape k ss → length ss ≡ privates k
shape_length (code k) ss h = slots_length k.starts ss h
shape_length (filter f) ss h = one_length (IsFiltering (length f.starts)) ss h
shape_length (duplicate n) ss h = none_length ss h
shape_length (deal ws) ss h = one_length (IsDealing (shares ws)) ss h
shape_length (collect ws) ss h = one_length (IsJoining (shares ws)) ss h
shape_length (packed k) ss h = shape_length k ss h
shape_length (unpack n) ss h = one_length (IsJoining (ones n)) ss h
shape_length (window w) ss h = one_length IsReceived ss h
shape_length (select e) ss h = none_length ss h
shape_length (project es) ss h = none_length ss h
shape_length cross ss h = one_length IsCrossing ss h
shape_length (streamer s) ss h = one_length IsReceived ss h
shape_length tally ss h = none_length ss h
shape_length (fused a b at) ss h =
    let la = shape_length a (take (privates a) ss) h.0 in
    let lb = shape_length b (drop (privates a) ss) h.1 in
    omega (arith, length-take (privates a) ss, length-drop (privates a) ss, la, lb)

-- the turn after one more is a turn
weight_at : (ws : List ℕ) (p : ℕ) → AllByRecursion (λ w. 0 < w) ws → p < length ws → 0 < slice_index_or ws p 0
weight_at [] p h lt = absurd (omega arith)
weight_at (w ∷ ws) zero h lt = h.0
weight_at (w ∷ ws) (suc p) h lt = weight_at ws p h.1 (omega arith)

-- the turn behind a turn is one
pub next_turn : (ws : List ℕ) (port had : ℕ) → HaveShares ws → IsTurn ws port had → IsTurn ws (next_port ws port had) (next_had ws port had)
next_turn ws port had all h =
    let other : ℕ = if nat_lt (port + 1) (length ws) then port + 1 else 0 in
    ⊎_elim
    (λ lt. turn_by ws _ _ port (had + 1) (if_lt (had + 1) (slice_index_or ws port 0) port other lt) (if_lt (had + 1) (slice_index_or ws port 0) (had + 1) 0 lt)
    (h.0, lt))
    (λ ge. turn_by ws _ _ other 0 (if_ge (had + 1) (slice_index_or ws port 0) port other ge) (if_ge (had + 1) (slice_index_or ws port 0) (had + 1) 0 ge) (⊎_elim
    (λ lt. turn_by ws other 0 (port + 1) 0 (if_lt (port + 1) (length ws) (port + 1) 0 lt) refl (lt, weight_at ws (port + 1) all.1 lt))
    (λ le. turn_by ws other 0 0 0 (if_ge (port + 1) (length ws) (port + 1) 0 le) refl (all.0, weight_at ws 0 all.1 all.0))
    (cases_lt (port + 1) (length ws))))
    (cases_lt (had + 1) (slice_index_or ws port 0))

-- the first turn is one
pub first_turn : (ws : List ℕ) → HaveShares ws → IsTurn ws 0 0
first_turn ws all = (all.0, weight_at ws 0 all.1 all.0)

-- a joiner that drains keeps its shape
pub drain_joined : (give : item.Item → List item.Item) (ws : List ℕ) (n : ℕ) (s : Turns) → HaveShares ws → IsJoiner ws s
    → IsJoiner ws (drain (front_of give) (passed ws) n s).1
drain_joined give ws zero s all j = j
drain_joined give ws (suc n) s all j =
    elim (front_of give s) as (λ o. IsJoiner ws (pass_on (passed ws) s (drain (front_of give) (passed ws) n) o).1) [
      | None ↦ j
      | Some x ↦ drain_joined give ws n (passed ws s) all
          (record { turn = next_turn ws s.port s.had all j.turn; lists = length-rest_at s.lists s.port ∙ j.lists })
    ]

-- a joiner that an item comes to keeps its shape
pub put_joined : (ws : List ℕ) (p : ℕ) (x : item.Item) (s : Turns) → IsJoiner ws s → IsJoiner ws (put p x s)
put_joined ws p x s j = record { turn = j.turn; lists = length-append_at s.lists p (x ∷ []) ∙ j.lists }

-- EACH KIND OF STATE AFTER A FIRING

code_shape : (k : CodeForm) (x : item.Item) (zs : List ℤ) (ss : List Kept) → HasSlots zs ss → HasSlots zs (code_one k x ss).states
code_shape k x [] [] h = tt
code_shape k x [] (s ∷ ss) h = absurd h
code_shape k x (z ∷ zs) (s ∷ t ∷ ts) h = absurd h
code_shape k x (z ∷ zs) (Slots kept ∷ []) h = run_kept_length k.body kept (values_of x) ∙ h
code_shape k x (z ∷ zs) ss h = absurd h

either_kept : (b : Bool) (x y : Filtered) (n : ℕ) → length x.after.kept ≡ n → length y.after.kept ≡ n → length (if b then x else y).after.kept ≡ n
either_kept true x y n h g = h
either_kept false x y n h g = g

turns_length : (f : FilterForm) (n : ℕ) (s : Filtering) → length (filter_turns f n s).after.kept ≡ length s.kept
turns_length f zero s = refl
turns_length f (suc n) s =
    either_kept (nat_le (needs f s.fired) (length (buffer_of f s))) _ _ (length s.kept)
    (turns_length f n (after_run s (next_run f s)) ∙ run_kept_length (run_at f s.fired).body s.kept (take (run_at f s.fired).peek (buffer_of f s)))
    refl

filter_shape : (f : FilterForm) (n : ℕ) (x : item.Item) (ss : List Kept) → IsOne (IsFiltering n) ss → IsOne (IsFiltering n) (filter_firing f x ss).states
filter_shape f n x (s ∷ t ∷ ts) h = absurd h
filter_shape f n x (Buffered s ∷ []) h = turns_length f (suc (length (received (value_of x) s).seen)) (received (value_of x) s) ∙ h
filter_shape f n x ss h = absurd h

deal_shape : (ws : List ℤ) (p : ℕ) (x : item.Item) (ss : List Kept) → HaveShares (shares ws) → HasShape (deal ws) ss
    → HasShape (deal ws) (fire (deal ws) p x ss).states
deal_shape ws p x (s ∷ t ∷ ts) f h = absurd h
deal_shape ws p x (Turn port had ∷ []) f h = next_turn (shares ws) port had f h
deal_shape ws p x ss f h = absurd h

join_shape : (give : item.Item → List item.Item) (ws : List ℕ) (p : ℕ) (x : item.Item) (ss : List Kept) → HaveShares ws → IsOne (IsJoining ws) ss
    → IsOne (IsJoining ws) (join_one give ws p x ss).states
join_shape give ws p x (s ∷ t ∷ ts) f h = absurd h
join_shape give ws p x (Joining s ∷ []) f h = drain_joined give ws (waiting (put p x s).lists) (put p x s) f (put_joined ws p x s h)
join_shape give ws p x ss f h = absurd h

received_shape : (one : List item.Item → item.Item → List item.Item) (x : item.Item) (ss : List Kept) → IsOne IsReceived ss
    → IsOne IsReceived (received_one one x ss).states
received_shape one x (s ∷ t ∷ ts) h = absurd h
received_shape one x (Received xs ∷ []) h = tt
received_shape one x ss h = absurd h

cross_shape : (p : ℕ) (x : item.Item) (ss : List Kept) → IsOne IsCrossing ss → IsOne IsCrossing (cross_one p x ss).states
cross_shape p x (s ∷ t ∷ ts) h = absurd h
cross_shape p x (Crossing s ∷ []) h = tt
cross_shape p x ss h = absurd h

-- a firing keeps the shape
pub fire_shape : (k : Kern) (p : ℕ) (x : item.Item) (ss : List Kept) → IsShaped k → HasShape k ss → HasShape k (fire k p x ss).states
fire_shape (code k) p x ss f h = code_shape k x k.starts ss h
fire_shape (filter g) p x ss f h = filter_shape g (length g.starts) x ss h
fire_shape (duplicate n) p x ss f h = h
fire_shape (deal ws) p x ss f h = deal_shape ws p x ss f h
fire_shape (collect ws) p x ss f h = join_shape itself (shares ws) p x ss f h
fire_shape (packed k) p x ss f h = fire_shape k p x ss f.0 h
fire_shape (unpack n) p x ss f h = join_shape items_of (ones n) p x ss f h
fire_shape (window w) p x ss f h = received_shape (window_one w) x ss h
fire_shape (select e) p x ss f h = h
fire_shape (project es) p x ss f h = h
fire_shape cross p x ss f h = cross_shape p x ss h
fire_shape (streamer s) p x ss f h = received_shape (streamer_one s) x ss h
fire_shape tally p x ss f h = h
fire_shape (fused a b at) p x ss f h =
    let ra = fire a p x (take (privates a) ss) in
    let rb = feed (fire b 0) (ra.outs at) (drop (privates a) ss) in
    let ha = fire_shape a p x (take (privates a) ss) f.0 h.0 in
    let hb = feed_kept (fire b 0) (HasShape b) (λ y us. fire_shape b 0 y us f.1) (ra.outs at) (drop (privates a) ss) h.1 in
    let la = shape_length a ra.states ha in
    (subst (HasShape a) (sym (take_at ra.states rb.states (privates a) la)) ha, subst (HasShape b) (sym (drop_at ra.states rb.states (privates a) la)) hb)

-- the first states have the kernel's shape
first_slots_shape : (zs : List ℤ) → HasSlots zs (first_slots zs)
first_slots_shape [] = tt
first_slots_shape (z ∷ zs) = refl

-- the first states of a kernel have its shape
pub first_shape : (k : Kern) → IsShaped k → HasShape k (first_kept k)
first_shape (code k) f = first_slots_shape k.starts
first_shape (filter g) f = refl
first_shape (deal ws) f = first_turn (shares ws) f
first_shape (collect ws) f = record { turn = first_turn (shares ws) f; lists = length-replicate (length ws) [] ∙ sym (length-map ws count_of) }
first_shape (packed k) f = first_shape k f.0
first_shape (unpack n) f = record { turn = first_turn (ones n) f; lists = length-replicate n [] ∙ sym (length-replicate n 1) }
first_shape (fused a b at) f =
    let ha = first_shape a f.0 in
    let hb = first_shape b f.1 in
    let la = shape_length a (first_kept a) ha in (
      subst (HasShape a) (sym (take_at (first_kept a) (first_kept b) (privates a) la)) ha,
      subst (HasShape b) (sym (drop_at (first_kept a) (first_kept b) (privates a) la)) hb,
    )
first_shape kernel f = tt
