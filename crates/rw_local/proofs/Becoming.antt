-- Conditions whose fields become others, and which operators they pass.
use Rattle.std.proofs.Common.{◌≡◌, ℕ, ◌+◌, ◌-◌, ◌<◌, ◌≤◌, ◌⊎◌, inl, inr, Some, None, List, length, refl, sym, ap, ◌∙◌, subst, arith, ⊎_elim}
use Rattle.std.specs.Prelude.{Option, Result, Ok, Err, slice_get}
use Rattle.std.proofs.lemmas.Bool.{cases_lt}
use Rattle.std.proofs.lemmas.Option.{none-some, same_Some}
use Rattle.river_base.proofs.PlaceLemmas.{if_lt, if_ge}
use Rattle.river_base.specs.declared.kind.QueueType.{QueueType}
use Rattle.work_code.specs.Term.{Term, Const, Input, Slot, Neg, Not, Bin}
use Rattle.kern_bags.specs.declared.kernel.Window.TheVariants.{Now, Range, Unbounded}
use Rattle.river_kernels.specs.Kern.{Kern, window, project, cross, streamer}
use Rattle.river_kernels.specs.Fits.{Fits}
use Rattle.river_kernels.specs.declared.types.VarKind.{VarKind}
use Rattle.plan_edits.specs.declared.unfit.Unfit.{Unfit}
use Rattle.plan_edits.specs.declared.unfit.Unfit.TheVariants.{H3, H4}
use Rattle.rw_local.specs.Hoist.{two_terms, one_term, as_input, refielded, plain_field, of_projection, of_first, of_second, at_side, either_side, or_h4, passes}
use Rattle.rw_local.specs.Hoisting.{ReadsField, Becomes, IsCopy, LetsPass, StopsHoisting, Goes}
use Rattle.rw_local.proofs.Fields.{one_some, two_some, input_some, plain_is, first_is, second_is}

-- WHERE A FIELD HAS NONE

input_none : (o : Option ℕ) → as_input o ≡ None → o ≡ None
input_none None h = refl
input_none (Some j) h = absurd (cc h)

one_none : (g : Term → Term) (o : Option Term) → one_term g o ≡ None → o ≡ None
one_none g None h = refl
one_none g (Some t) h = absurd (cc h)

two_none : (g : Term → Term → Term) (a b : Option Term) → two_terms g a b ≡ None → (a ≡ None) ⊎ (b ≡ None)
two_none g None b h = inl refl
two_none g (Some l) None h = inr refl
two_none g (Some l) (Some r) h = absurd (cc h)

none_reads : (f : ℕ → Option ℕ) (t : Term) → refielded f t ≡ None → (i : ℕ) × ReadsField i t × (f i ≡ None)
none_reads f (Const z) h = absurd (cc h)
none_reads f (Input i) h = (i, refl, input_none (f i) h)
none_reads f (Slot s) h = absurd (cc h)
none_reads f (Neg t) h = none_reads f t (one_none Neg (refielded f t) h)
none_reads f (Not t) h = none_reads f t (one_none Not (refielded f t) h)
none_reads f (Bin op l r) h = ⊎_elim
    (λ a. let n = none_reads f l a in (n.0, inl n.1, n.2))
    (λ b. let n = none_reads f r b in (n.0, inr n.1, n.2))
    (two_none (Bin op) (refielded f l) (refielded f r) h)

-- WHERE EACH HAS ONE

abbrev By : (ℕ → Option ℕ) → ℕ → ℕ → Type 0
By f i j = f i ≡ Some j

some_becomes : (f : ℕ → Option ℕ) (t t' : Term) → refielded f t ≡ Some t' → Becomes (By f) t t'
some_becomes f (Const z) t' h = sym (same_Some (Const z) t' h)
some_becomes f (Input i) t' h = let r = input_some (f i) t' h in (r.0, r.1, sym r.2)
some_becomes f (Slot s) t' h = sym (same_Some (Slot s) t' h)
some_becomes f (Neg t) t' h = let r = one_some Neg (refielded f t) t' h in (r.0, some_becomes f t r.0 r.1, sym r.2)
some_becomes f (Not t) t' h = let r = one_some Not (refielded f t) t' h in (r.0, some_becomes f t r.0 r.1, sym r.2)
some_becomes f (Bin op x y) t' h =
    let r = two_some (Bin op) (refielded f x) (refielded f y) t' h in (r.0, r.1, some_becomes f x r.0 r.2, some_becomes f y r.1 r.3, sym r.4)

becomes_some : (f : ℕ → Option ℕ) (t t' : Term) → Becomes (By f) t t' → refielded f t ≡ Some t'
becomes_some f (Const z) t' h = ap (λ x. Some x) (sym h)
becomes_some f (Input i) t' h = ap as_input h.1 ∙ ap (λ x. Some x) (sym h.2)
becomes_some f (Slot s) t' h = ap (λ x. Some x) (sym h)
becomes_some f (Neg t) t' h = ap (one_term Neg) (becomes_some f t h.0 h.1) ∙ ap (λ x. Some x) (sym h.2)
becomes_some f (Not t) t' h = ap (one_term Not) (becomes_some f t h.0 h.1) ∙ ap (λ x. Some x) (sym h.2)
becomes_some f (Bin op x y) t' h =
    ap (λ o. two_terms (Bin op) o (refielded f y)) (becomes_some f x h.0 h.2)
    ∙ ap (two_terms (Bin op) (Some h.0)) (becomes_some f y h.1 h.3) ∙ ap (λ z. Some z) (sym h.4)

becomes_too : (R Q : ℕ → ℕ → Type 0) (t t' : Term) → ((i j : ℕ) → R i j → Q i j) → Becomes R t t' → Becomes Q t t'
becomes_too R Q (Const z) t' e h = h
becomes_too R Q (Input i) t' e h = (h.0, e i h.0 h.1, h.2)
becomes_too R Q (Slot s) t' e h = h
becomes_too R Q (Neg t) t' e h = (h.0, becomes_too R Q t h.0 e h.1, h.2)
becomes_too R Q (Not t) t' e h = (h.0, becomes_too R Q t h.0 e h.1, h.2)
becomes_too R Q (Bin op x y) t' e h = (h.0, h.1, becomes_too R Q x h.0 e h.2, becomes_too R Q y h.1 e h.3, h.4)

-- each field that is read becomes one
read_becomes : (R : ℕ → ℕ → Type 0) (t t' : Term) (i : ℕ) → Becomes R t t' → ReadsField i t → (j : ℕ) × R i j
read_becomes R (Const z) t' i h r = absurd r
read_becomes R (Input k) t' i h r = (h.0, subst_at (sym r) h.1)
  where
    subst_at : {a b : ℕ} → a ≡ b → R a h.0 → R b h.0
    subst_at e x = subst (λ n. R n h.0) e x
read_becomes R (Slot s) t' i h r = absurd r
read_becomes R (Neg t) t' i h r = read_becomes R t h.0 i h.1 r
read_becomes R (Not t) t' i h r = read_becomes R t h.0 i h.1 r
read_becomes R (Bin op x y) t' i h r = ⊎_elim (λ a. read_becomes R x h.0 i h.2 a) (λ b. read_becomes R y h.1 i h.3 b) r

read_some : (f : ℕ → Option ℕ) (t t' : Term) (i : ℕ) → refielded f t ≡ Some t' → ReadsField i t → (j : ℕ) × (f i ≡ Some j)
read_some f t t' i h r = read_becomes (By f) t t' i (some_becomes f t t' h) r

-- where each field stays, the condition does
same_becomes : (t t' : Term) → Becomes (λ i j. i ≡ j) t t' → t' ≡ t
same_becomes (Const z) t' h = h
same_becomes (Input i) t' h = h.2 ∙ ap Input (sym h.1)
same_becomes (Slot s) t' h = h
same_becomes (Neg t) t' h = h.2 ∙ ap Neg (same_becomes t h.0 h.1)
same_becomes (Not t) t' h = h.2 ∙ ap Not (same_becomes t h.0 h.1)
same_becomes (Bin op x y) t' h = h.4 ∙ ap (λ z. Bin op z h.1) (same_becomes x h.0 h.2) ∙ ap (Bin op x) (same_becomes y h.1 h.3)

-- SIDES OF A PRODUCT

all_first : (w : ℕ) (t : Term) → ((i : ℕ) → ReadsField i t → i < w) → refielded (of_first w) t ≡ Some t
all_first w (Const z) h = refl
all_first w (Input i) h = ap as_input (if_lt i w (Some i) None (h i refl))
all_first w (Slot s) h = refl
all_first w (Neg t) h = ap (one_term Neg) (all_first w t h)
all_first w (Not t) h = ap (one_term Not) (all_first w t h)
all_first w (Bin op x y) h =
    ap (λ o. two_terms (Bin op) o (refielded (of_first w) y)) (all_first w x (λ i r. h i (inl r)))
    ∙ ap (two_terms (Bin op) (Some x)) (all_first w y (λ i r. h i (inr r)))

none_first : (w i : ℕ) → of_first w i ≡ None → w ≤ i
none_first w i h = ⊎_elim (λ lt. absurd (none-some i (sym h ∙ if_lt i w (Some i) None lt))) (λ ge. ge) (cases_lt i w)

none_second : (w i : ℕ) → of_second w i ≡ None → i < w
none_second w i h = ⊎_elim (λ lt. lt) (λ ge. absurd (none-some (i - w) (sym h ∙ if_ge i w None (Some (i - w)) ge))) (cases_lt i w)

second_from : (w i j : ℕ) → i ≡ w + j → of_second w i ≡ Some j
second_from w i j e = if_ge i w None (Some (i - w)) (omega (arith, e)) ∙ ap (λ n. Some n) (let d : i - w ≡ j = omega (arith, e) in d)

second_sum : (w i j : ℕ) → of_second w i ≡ Some j → i ≡ w + j
second_sum w i j h = let s = second_is w i j h in let a = s.0 in let b = s.1 in omega (arith, a, b)

-- PASSING

module _ (w : ℕ) (t : Term) where
  -- what is answered of an operator of this kernel
  abbrev pub PassJudged : Kern → Result (ℕ × Term) Unfit → Type 0
  PassJudged k (Ok x) = LetsPass k × (StopsHoisting w k t → ⊥) × Goes w k t x.0 x.1
  PassJudged k (Err H3) = LetsPass k → ⊥
  PassJudged k (Err H4) = LetsPass k × StopsHoisting w k t
  PassJudged k (Err f) = ⊥

  projection : (es : List Term) (o : Option Term) → refielded (of_projection es) t ≡ o → PassJudged (project es) (or_h4 (at_side 0 o))
  projection es None e =
      let n = none_reads (of_projection es) t e in
      (tt, (n.0, n.1, λ j c. none-some j (sym n.2 ∙ ap plain_field c)))
  projection es (Some t') e = (
    tt,
    (λ s. let r = read_some (of_projection es) t t' s.0 e s.1 in s.2 r.0 (plain_is (slice_get es s.0) r.0 r.1)),
    (refl, becomes_too (By (of_projection es)) (IsCopy es) t t' (λ i j h. plain_is (slice_get es i) j h) (some_becomes (of_projection es) t t' e)),
  )

  product : (a b : Option Term) → refielded (of_first w) t ≡ a → refielded (of_second w) t ≡ b
      → PassJudged cross (or_h4 (either_side (at_side 0 a) (at_side 1 b)))
  product (Some t') b e d = (
    tt,
    (λ s. let r = read_some (of_first w) t t' s.1 e s.3 in let lt = (first_is w s.1 r.0 r.1).0 in let ge = s.5 in omega (arith, lt, ge)),
    inl (
      refl,
      same_becomes t t' (becomes_too (By (of_first w)) (λ i j. i ≡ j) t t' (λ i j h. (first_is w i j h).1) (some_becomes (of_first w) t t' e)),
      λ i r. let s = read_some (of_first w) t t' i e r in (first_is w i s.0 s.1).0,
    ),
  )
  product None (Some t') e d =
      let n = none_reads (of_first w) t e in (
        tt,
        (λ s. let r = read_some (of_second w) t t' s.0 d s.2 in let ge = (second_is w s.0 r.0 r.1).0 in let lt = s.4 in omega (arith, lt, ge)),
        inr (refl, (n.0, n.1), becomes_too (By (of_second w)) (λ i j. i ≡ w + j) t t' (λ i j h. second_sum w i j h) (some_becomes (of_second w) t t' d)),
      )
  product None None e d =
      let n = none_reads (of_first w) t e in
      let m = none_reads (of_second w) t d in
      (tt, (m.0, n.0, m.1, n.1, none_second w m.0 m.2, none_first w n.0 n.2))

  -- what is answered of each kernel is right
  pub passes_judged : (k : Kern) → PassJudged k (passes w k t)
  passes_judged (window Now) = (tt, (λ h. h), (refl, refl))
  passes_judged (window (Range span)) = (tt, (λ h. h), (refl, refl))
  passes_judged (window Unbounded) = (tt, (λ h. h), (refl, refl))
  passes_judged (project es) = projection es (refielded (of_projection es) t) refl
  passes_judged cross = product (refielded (of_first w) t) (refielded (of_second w) t) refl refl
  passes_judged (streamer s) = (tt, (λ h. h), (refl, refl))
  passes_judged kernel = λ h. h

  abbrev Found : ℕ → Term → Result (ℕ × Term) Unfit
  Found side moved = Ok (side, moved)

  at_first : (side : ℕ) (moved : Term) → (side ≡ 0) × (moved ≡ t) → Found 0 t ≡ Found side moved
  at_first side moved g = ap (λ s. Found s t) (sym g.0) ∙ ap (Found side) (sym g.1)

  -- where the selection goes is what is answered
  pub goes_passes : (k : Kern) (side : ℕ) (moved : Term) → Goes w k t side moved → passes w k t ≡ Ok (side, moved)
  goes_passes (window Now) side moved g = at_first side moved g
  goes_passes (window (Range span)) side moved g = at_first side moved g
  goes_passes (window Unbounded) side moved g = at_first side moved g
  goes_passes (project es) side moved g =
      let e = becomes_some (of_projection es) t moved (becomes_too (IsCopy es) (By (of_projection es)) t moved (λ i j h. ap plain_field h) g.1) in
      ap (λ o. or_h4 (at_side 0 o)) e ∙ ap (λ s. Found s moved) (sym g.0)
  goes_passes cross side moved g = ⊎_elim
      (λ h.
      ap (λ o. or_h4 (either_side (at_side 0 o) (at_side 1 (refielded (of_second w) t)))) (all_first w t h.2)
      ∙ at_first side moved (h.0, h.1))
      (λ h.
      let e = becomes_some (of_second w) t moved (becomes_too (λ i j. i ≡ w + j) (By (of_second w)) t moved (λ i j d. second_from w i j d) h.2) in
      let r = read_becomes (λ i j. i ≡ w + j) t moved h.1.0 h.2 h.1.1 in
      ap (λ o. or_h4 (either_side (at_side 0 o) (at_side 1 (refielded (of_second w) t)))) (not_first h.1.0 r.0 h.1.1 r.1 (refielded (of_first w) t) refl)
      ∙ ap (λ o. or_h4 (at_side 1 o)) e ∙ ap (λ s. Found s moved) (sym h.0))
      g
    where
      not_first : (i j : ℕ) → ReadsField i t → i ≡ w + j → (o : Option Term) → refielded (of_first w) t ≡ o → o ≡ None
      not_first i j r s None e = refl
      not_first i j r s (Some t') e =
          let a = read_some (of_first w) t t' i e r in let lt = (first_is w i a.0 a.1).0 in absurd (omega (arith, lt, s))
  goes_passes (streamer s) side moved g = at_first side moved g
  goes_passes kernel side moved g = absurd g

  -- the side is one of the operator's
  pub goes_below : (k : Kern) (side : ℕ) (moved : Term) (is os : List QueueType) (vs : List VarKind) → Goes w k t side moved → Fits k is os vs
      → side < length is
  goes_below (window Now) side moved is os vs g f = let a = ap length f.1 in let b = g.0 in omega (arith, a, b)
  goes_below (window (Range span)) side moved is os vs g f = let a = ap length f.1 in let b = g.0 in omega (arith, a, b)
  goes_below (window Unbounded) side moved is os vs g f = let a = ap length f.1 in let b = g.0 in omega (arith, a, b)
  goes_below (project es) side moved is os vs g f = let a = ap length f.1 in let b = g.0 in omega (arith, a, b)
  goes_below cross side moved is os vs g f =
      let a = ap length f.2 in ⊎_elim (λ h. let b = h.0 in omega (arith, a, b)) (λ h. let b = h.0 in omega (arith, a, b)) g
  goes_below (streamer s) side moved is os vs g f = let a = ap length f.1 in let b = g.0 in omega (arith, a, b)
  goes_below kernel side moved is os vs g f = absurd g

-- an operator that lets a selection pass has an input
pub passed_reads : (k : Kern) (is os : List QueueType) (vs : List VarKind) → LetsPass k → Fits k is os vs → 0 < length is
passed_reads (window w) is os vs g f = let a = ap length f.1 in omega (arith, a)
passed_reads (project es) is os vs g f = let a = ap length f.1 in omega (arith, a)
passed_reads cross is os vs g f = let a = ap length f.2 in omega (arith, a)
passed_reads (streamer s) is os vs g f = let a = ap length f.1 in omega (arith, a)
passed_reads kernel is os vs g f = absurd g
