-- Words, what queues at ports hold, and what states are.
use Rattle.std.proofs.Common.{◌≡◌, ℕ, ℤ, pos, Bool, true, false, replicate, Option, Some, None, List, []}
use Rattle.std.proofs.Common.{◌∷◌, ◌++◌, length, take, drop, refl, sym, ap, ◌∙◌, subst, arith, length-drop, length-append}
use Rattle.std.specs.Prelude.{All, slice_get}
use Rattle.std.proofs.lemmas.List.{length-take, length-replicate, take_at, drop_at}
use Rattle.std.proofs.Math.Seq.{drop-append_seam}
use Rattle.std.proofs.lemmas.List.Elements.{All-head, All-tail, All-cons, All-nil}
use Rattle.river_base.specs.declared.item.Item as item
use Rattle.river_base.specs.declared.kind.FlatType.TheVariants.{Rows, Stream, Relation}
use Rattle.river_base.specs.declared.kind.QueueType.{QueueType}
use Rattle.river_base.specs.declared.kind.QueueType.TheVariants.{Flat as FlatOf, Pack as PackOf}
use Rattle.river_base.proofs.HeldLemmas.{held-nil, held-append, length-held, held-plain}
use Rattle.kern_rows.specs.Forms.{FilterForm, RunForm}
use Rattle.kern_rows.specs.Runs.{Filtering, begins}
use Rattle.kern_rows.specs.Stands.{Waiting, KeepsFor, is_fresh}
use Rattle.river_kernels.specs.declared.types.VarKind.{VarKind}
use Rattle.river_kernels.specs.Fits.{Fits}
use Rattle.river_kernels.specs.Types.{types_of}
use Rattle.river_kernels.specs.Kern.{Kern, code, filter, duplicate, deal, collect, packed, unpack, window, select, project, cross, streamer, tally, fused}
use Rattle.brooklet_model.specs.Firings.{Kept, Slots, Buffered, Same, and_then}
use Rattle.brooklet_model.specs.Fire.{fire, first_kept, privates, kept_vars}
use Rattle.brooklet_model.specs.Shapes.{IsShaped, HasShape}
use Rattle.brooklet_model.specs.Typed.{IsTyped, IsOf, AreOf, Holds, IsWordOf, IsStart, between}
use Rattle.brooklet_model.specs.Words.{Word, run, at_port, word_of}
use Rattle.brooklet_model.proofs.Shapes.{first_shape, fire_shape, shape_length}
use Rattle.brooklet_model.proofs.Free.{at_port-append, at_port-word_same}
use Rattle.brooklet_model.proofs.Traces.{run_more}
use Rattle.brooklet_model.proofs.Typing.{first_holds}
use Rattle.brooklet_model.proofs.TypedPlan.{at_append, run_typed}
use Rattle.brooklet_step.specs.declared.state.State.{State}
use Rattle.brooklet_step.specs.Stands.{StandsForKept, StandsForSlots}
use Rattle.brooklet_step.specs.Given.{held_by, held_at, IsHeldBy, IsHeldOf, IsPlainBy, IsRelationBy, FitSlots, FitState, ran_from, StandsAfter, MayBeFresh}
use Rattle.brooklet_step.proofs.HeldLaws.{plain_law}

-- QUEUES AT PORTS

by-nil : (o : Option QueueType) (past : List item.Item) → held_by o past [] ≡ []
by-nil None past = refl
by-nil (Some t) past = held-nil t past

by-append : (o : Option QueueType) (past xs ys : List item.Item) → held_by o past (xs ++ ys) ≡ held_by o past xs ++ held_by o (past ++ xs) ys
by-append None past xs ys = refl
by-append (Some t) past xs ys = held-append t past xs ys

by-length : (o : Option QueueType) (past xs : List item.Item) → length (held_by o past xs) ≡ length xs
by-length None past xs = refl
by-length (Some t) past xs = length-held t past xs

by-plain : (o : Option QueueType) (past xs : List item.Item) → IsPlainBy o → held_by o past xs ≡ xs
by-plain None past xs h = refl
by-plain (Some t) past xs h = held-plain t past xs h

-- for no items a queue holds none
pub at-nil : (ts : List QueueType) (p : ℕ) (past : List item.Item) → held_at ts p past [] ≡ []
at-nil ts p past = by-nil (slice_get ts p) past

-- what a queue holds for two lists, one after the other
pub at-append : (ts : List QueueType) (p : ℕ) (past xs ys : List item.Item)
    → held_at ts p past (xs ++ ys) ≡ held_at ts p past xs ++ held_at ts p (past ++ xs) ys
at-append ts p past xs ys = by-append (slice_get ts p) past xs ys

-- a queue holds as many items as it stands for
pub at-length : (ts : List QueueType) (p : ℕ) (past xs : List item.Item) → length (held_at ts p past xs) ≡ length xs
at-length ts p past xs = by-length (slice_get ts p) past xs

-- a queue of no relation holds items as they are
pub at-plain : (ts : List QueueType) (p : ℕ) (past xs : List item.Item) → IsPlainBy (slice_get ts p) → held_at ts p past xs ≡ xs
at-plain ts p past xs h = by-plain (slice_get ts p) past xs h

-- a queue of a relation is not one of items as they are
pub not_both : (o : Option QueueType) → IsPlainBy o → IsRelationBy o → ⊥
not_both None p r = r
not_both (Some (FlatOf (Rows w))) p r = r
not_both (Some (FlatOf (Stream w))) p r = r
not_both (Some (FlatOf (Relation w))) p r = p
not_both (Some (PackOf (Rows w))) p r = r
not_both (Some (PackOf (Stream w))) p r = r
not_both (Some (PackOf (Relation w))) p r = p

of_by : (o : Option QueueType) (x : item.Item) → IsPlainBy o → IsHeldBy o x → IsTyped o x
of_by None x p h = h
of_by (Some t) x p h = (plain_law t x p).0 h

by_of : (o : Option QueueType) (x : item.Item) → IsPlainBy o → IsTyped o x → IsHeldBy o x
by_of None x p h = h
by_of (Some t) x p h = (plain_law t x p).1 h

-- an item that a queue of no relation may hold has the queue's type
pub of_plain : (ts : List QueueType) (p : ℕ) (x : item.Item) → IsPlainBy (slice_get ts p) → IsHeldOf ts p x → IsOf ts p x
of_plain ts p x a h = of_by (slice_get ts p) x a h

-- and such a queue may hold what has its type
pub plain_of : (ts : List QueueType) (p : ℕ) (x : item.Item) → IsPlainBy (slice_get ts p) → IsOf ts p x → IsHeldOf ts p x
plain_of ts p x a h = by_of (slice_get ts p) x a h

-- the same of lists
pub all_plain : (ts : List QueueType) (p : ℕ) (xs : List item.Item) → IsPlainBy (slice_get ts p) → All (IsOf ts p) xs → All (IsHeldOf ts p) xs
all_plain ts p [] a h = All-nil (IsHeldOf ts p)
all_plain ts p (x ∷ xs) a h =
    All-cons (IsHeldOf ts p) x xs (plain_of ts p x a (All-head (IsOf ts p) x xs h)) (all_plain ts p xs a (All-tail (IsOf ts p) x xs h))

-- where a queue holds items as they are, all that it holds have its type
pub all_of : (ts : List QueueType) (p : ℕ) (xs : List item.Item) → IsPlainBy (slice_get ts p) → All (IsHeldOf ts p) xs → All (IsOf ts p) xs
all_of ts p [] a h = All-nil (IsOf ts p)
all_of ts p (x ∷ xs) a h =
    All-cons (IsOf ts p) x xs (of_plain ts p x a (All-head (IsHeldOf ts p) x xs h)) (all_of ts p xs a (All-tail (IsHeldOf ts p) x xs h))

-- WORDS

-- a word of one port, of two lists
pub word_append : (p : ℕ) (xs ys : List item.Item) → word_of p (xs ++ ys) ≡ word_of p xs ++ word_of p ys
word_append p [] ys = refl
word_append p (x ∷ xs) ys = ap (λ l. (p, x) ∷ l) (word_append p xs ys)

-- the items at the port, with one more there
pub at_next : (p : ℕ) (w : Word) (x : item.Item) → at_port p (w ++ (p, x) ∷ []) ≡ at_port p w ++ x ∷ []
at_next p w x = at_port-append p w ((p, x) ∷ []) ∙ ap (λ l. at_port p w ++ l) (at_port-word_same p (x ∷ []))

-- one more firing
pub ran_more : (k : Kern) (ss : List Kept) (w : Word) (p : ℕ) (x : item.Item)
    → Same (ran_from k ss (w ++ (p, x) ∷ [])) (and_then (ran_from k ss w) (fire k p x (ran_from k ss w).states))
ran_more k ss w p x = run_more (fire k) w p x ss

-- what holds of two lists in a row holds of the second
pub all_right : (P : item.Item → Type 0) (xs ys : List item.Item) → All P (xs ++ ys) → All P ys
all_right P [] ys h = h
all_right P (x ∷ xs) ys h = all_right P xs ys (All-tail P x (xs ++ ys) h)

-- what is given for typed items is typed
pub ran_typed : (k : Kern) (is os : List QueueType) (vs : List VarKind) (ss : List Kept) (w : Word) → Fits k is os vs → IsStart k is ss → IsWordOf is w
    → AreOf os (ran_from k ss w).outs
ran_typed k is os vs ss w f s a = run_typed k is os vs w ss f s.shape s.holds a

-- what a firing gives has the types of the ports
pub fired_typed : (k : Kern) (is os : List QueueType) (vs : List VarKind) (ss : List Kept) (w : Word) (p : ℕ) (x : item.Item) → Fits k is os vs
    → IsStart k is ss → IsWordOf is w → IsOf is p x → AreOf os (fire k p x (ran_from k ss w).states).outs
fired_typed k is os vs ss w p x f s a i q =
    let all = ran_typed k is os vs ss (w ++ (p, x) ∷ []) f s (at_append is w ((p, x) ∷ []) a (i, tt)) q in
    all_right (IsOf os q) ((ran_from k ss w).outs q) ((fire k p x (ran_from k ss w).states).outs q) (subst (All (IsOf os q)) ((ran_more k ss w p x).outs q) all)

-- the first states of a kernel that fits some types are a start
pub first_is_start : (k : Kern) (is : List QueueType) → IsShaped k → IsStart k is (first_kept k)
first_is_start k is s = record { shape = first_shape k s; holds = first_holds k is s }

-- WHAT STATES ARE

fit_slots : (zs : List ℤ) (st : List State) (ks : List Kept) → StandsForSlots zs st ks → FitSlots zs st
fit_slots [] st ks h = h.code
fit_slots (z ∷ zs) st ks h = record { slots = h.slots; code = h.code; count = h.count }

-- where a first run of its own is to come after some runs, there is one
may_be_fresh : (o : Option RunForm) (b : Bool) (k : ℕ) → b ≡ is_fresh o k → MayBeFresh o b
may_be_fresh None b k h = h
may_be_fresh (Some r) b k h = tt

-- a number of runs after which a first run of its own is to come, or not
runs_by : Bool → ℕ
runs_by true = 0
runs_by false = 1

fresh_by : (o : Option RunForm) (b : Bool) → MayBeFresh o b → b ≡ is_fresh o (runs_by b)
unfolding runs_by
fresh_by None b h = h
fresh_by (Some r) true h = refl
fresh_by (Some r) false h = refl

-- what a filter that keeps this may have seen: zeros, and the values that wait
past_of : (f : FilterForm) → Waiting → Filtering
past_of f w = record { seen = replicate (begins f (runs_by w.fresh)) (pos 0) ++ w.buffer; fired = runs_by w.fresh; kept = w.kept }

past_keeps : (f : FilterForm) (w : Waiting) → MayBeFresh f.first w.fresh → KeepsFor f w (past_of f w)
unfolding past_of
past_keeps f w h =
    let k = begins f (runs_by w.fresh) in
    let zeros : List ℤ = replicate k (pos 0) in
    let l = length-replicate k (pos 0) in
    record {
      fresh = fresh_by f.first w.fresh h;
      buffer = sym (ap (λ n. drop n (zeros ++ w.buffer)) (sym l) ∙ drop-append_seam zeros w.buffer);
      kept = refl;
      taken = omega (arith, l, length-append zeros w.buffer);
    }

-- kernels that keep no items and no contents
abbrev pub IsSimple : Kern → Type 0
IsSimple (deal ws) = ⊥
IsSimple (collect ws) = ⊥
IsSimple (packed k) = ⊥
IsSimple (unpack n) = ⊥
IsSimple (window w) = ⊥
IsSimple cross = ⊥
IsSimple (streamer s) = ⊥
IsSimple (fused a b at) = ⊥
IsSimple kernel = Unit {0}

-- states that stand for some fit
pub fit_of : (k : Kern) (is : List QueueType) (st : List State) (ks : List Kept) → StandsForKept k st ks → FitState k is st
fit_of (code k) is st ks h = fit_slots k.starts st ks h
fit_of (filter f) is st ks h =
    record { now = h.now; code = h.code; count = h.count; few = h.stands.few; fresh = may_be_fresh f.first h.now.fresh h.seen.fired h.stands.keeps.fresh }
fit_of (deal ws) is st ks h = absurd h
fit_of (collect ws) is st ks h = absurd h
fit_of (packed k) is st ks h = absurd h
fit_of (unpack n) is st ks h = absurd h
fit_of (window w) is st ks h = absurd h
fit_of cross is st ks h = absurd h
fit_of (streamer s) is st ks h = absurd h
fit_of (fused a b at) is st ks h = absurd h
fit_of kernel is st ks h = h.code

kept_slots : (zs : List ℤ) (st : List State) → FitSlots zs st → (ks : List Kept) × StandsForSlots zs st ks
kept_slots [] st h = ([], record { code = h; defined = refl })
kept_slots (z ∷ zs) st h = (Slots h.slots ∷ [], record { slots = h.slots; code = h.code; defined = refl; count = h.count })

-- and states of such a kernel that fit stand for some
pub simple_kept : (k : Kern) (is : List QueueType) (st : List State) → IsSimple k → FitState k is st → (ks : List Kept) × StandsForKept k st ks × Holds k is ks
simple_kept (code k) is st l h = let s = kept_slots k.starts st h in (s.0, s.1, tt)
simple_kept (filter f) is st l h = (
  Buffered (past_of f h.now) ∷ [],
  record {
    now = h.now;
    seen = past_of f h.now;
    code = h.code;
    defined = refl;
    stands = record { keeps = past_keeps f h.now h.fresh; few = h.few };
    count = h.count;
  },
  tt,
)
simple_kept (deal ws) is st l h = absurd l
simple_kept (collect ws) is st l h = absurd l
simple_kept (packed k) is st l h = absurd l
simple_kept (unpack n) is st l h = absurd l
simple_kept (window w) is st l h = absurd l
simple_kept cross is st l h = absurd l
simple_kept (streamer s) is st l h = absurd l
simple_kept (fused a b at) is st l h = absurd l
simple_kept kernel is st l h = ([], record { code = h; defined = refl }, tt)

fit_slots_length : (zs : List ℤ) (st : List State) → FitSlots zs st → length st ≡ kept_vars zs
fit_slots_length [] st h = ap length h
fit_slots_length (z ∷ zs) st h = ap length h.code

-- there is a state for each private variable
pub fit_length : (k : Kern) (is : List QueueType) (st : List State) → FitState k is st → length st ≡ privates k
fit_length (code k) is st h = fit_slots_length k.starts st h
fit_length (duplicate n) is st h = ap length h
fit_length (packed k) is st h = fit_length k is st h
fit_length (select e) is st h = ap length h
fit_length (project es) is st h = ap length h
fit_length tally is st h = ap length h
fit_length (fused a b at) is st h =
    let la = fit_length a is (take (privates a) st) h.0 in
    let lb = fit_length b (between at (types_of a is)) (drop (privates a) st) h.1 in
    omega (arith, length-take (privates a) st, length-drop (privates a) st, la, lb)
fit_length kernel is st h = ap length h.code

-- the states of two kernels
pub parts_fit : (a b : Kern) (at : ℕ) (is : List QueueType) (st st' : List State) → FitState a is st → FitState b (between at (types_of a is)) st'
    → FitState (fused a b at) is (st ++ st')
parts_fit a b at is st st' h h' =
    let l = fit_length a is st h in (
      subst (FitState a is) (sym (take_at st st' (privates a) l)) h,
      subst (FitState b (between at (types_of a is))) (sym (drop_at st st' (privates a) l)) h',
    )

-- states of two parts stand after a word, where each part's do
pub parts_after : (a b : Kern) (at : ℕ) (is : List QueueType) (ss : List Kept) (st st' : List State) (w : Word) → length st ≡ privates a
    → StandsAfter a is (take (privates a) ss) st w
    → StandsAfter b (between at (types_of a is)) (drop (privates a) ss) st' (word_of 0 ((ran_from a (take (privates a) ss) w).outs at))
    → StandsAfter (fused a b at) is ss (st ++ st') w
parts_after a b at is ss st st' w l h h' =
    let n = privates a in (
      subst (λ (u : List State). StandsAfter a is (take n ss) u w) (sym (take_at st st' n l)) h,
      subst (λ (u : List State). StandsAfter b (between at (types_of a is)) (drop n ss) u (word_of 0 ((ran_from a (take n ss) w).outs at)))
          (sym (drop_at st st' n l)) h',
    )

-- KERNELS THAT KEEP NO ITEMS

-- states that stand after a word stand for the definition's
pub simple_to : (k : Kern) (is : List QueueType) (ss : List Kept) (st : List State) (w : Word) → IsSimple k → StandsAfter k is ss st w
    → StandsForKept k st (ran_from k ss w).states
simple_to (deal ws) is ss st w l h = absurd l
simple_to (collect ws) is ss st w l h = absurd l
simple_to (packed k) is ss st w l h = absurd l
simple_to (unpack n) is ss st w l h = absurd l
simple_to (window v) is ss st w l h = absurd l
simple_to cross is ss st w l h = absurd l
simple_to (streamer s) is ss st w l h = absurd l
simple_to (fused a b at) is ss st w l h = absurd l
simple_to kernel is ss st w l h = h

-- and back
pub simple_from : (k : Kern) (is : List QueueType) (ss : List Kept) (st : List State) (w : Word) → IsSimple k → StandsForKept k st (ran_from k ss w).states
    → StandsAfter k is ss st w
simple_from (deal ws) is ss st w l h = absurd l
simple_from (collect ws) is ss st w l h = absurd l
simple_from (packed k) is ss st w l h = absurd l
simple_from (unpack n) is ss st w l h = absurd l
simple_from (window v) is ss st w l h = absurd l
simple_from cross is ss st w l h = absurd l
simple_from (streamer s) is ss st w l h = absurd l
simple_from (fused a b at) is ss st w l h = absurd l
simple_from kernel is ss st w l h = h

-- a run keeps the shape of the states
pub shape_ran : (k : Kern) (w : Word) (ss : List Kept) → IsShaped k → HasShape k ss → HasShape k (run (fire k) w ss).states
shape_ran k [] ss s h = h
shape_ran k (e ∷ es) ss s h = shape_ran k es (fire k e.0 e.1 ss).states s (fire_shape k e.0 e.1 ss s h)

-- a run keeps the number of states
pub ran_length : (k : Kern) (ss : List Kept) (w : Word) → IsShaped k → HasShape k ss → length (ran_from k ss w).states ≡ privates k
ran_length k ss w s h = shape_length k (ran_from k ss w).states (shape_ran k w ss s h)
