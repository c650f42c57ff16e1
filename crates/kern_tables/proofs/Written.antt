-- What is written in place at a key that is there.
use Rattle.std.proofs.Common.{◌≡◌, ℕ, ℤ, Bool, true, false, cond, List, [], ◌∷◌, Some, None, refl, sym, ap, ◌∙◌, arith}
use Rattle.std.specs.declared.cmp.Ordering.{Ordering}
use Rattle.std.specs.declared.cmp.Ordering.TheVariants.{Less, Equal, Greater}
use Rattle.std.specs.Ordering.{match_ordering, is_eq}
use Rattle.std.specs.Map.{lookup, set_value, keys_of}
use Rattle.std.specs.BTreeMap.{is_at}
use Rattle.std.specs.List.Sorted.{IsStrictlySortedBy}
use Rattle.std.proofs.lemmas.Map.Keys.{sorted_tail}
use Rattle.std.proofs.lemmas.Map.Entries.{lookup_at_gap, lookup_head, lookup_tail}
use Rattle.std.proofs.lemmas.Option.{same_Some}
use Rattle.kern_tables.specs.Keyed.{put}
use Rattle.river_base.specs.Row.{row_cmp, row_total}
use Rattle.kern_tables.specs.Entries.{AreShort}

abbrev pub here : List ℤ → List ℤ → Bool
here k = is_at (row_cmp k)

module _ {V : Type 0} where
  set_here : (k : List ℤ) (e : List ℤ × V) (es : List (List ℤ × V)) (v : V) → here k e.0 ≡ true → set_value (here k) (e ∷ es) v ≡ (e.0, v) ∷ es
  set_here k e es v h = ap (λ b. cond b ((e.0, v) ∷ es) (e ∷ set_value (here k) es v)) h

  set_past : (k : List ℤ) (e : List ℤ × V) (es : List (List ℤ × V)) (v : V) → here k e.0 ≡ false → set_value (here k) (e ∷ es) v ≡ e ∷ set_value (here k) es v
  set_past k e es v h = ap (λ b. cond b ((e.0, v) ∷ es) (e ∷ set_value (here k) es v)) h

  -- to write the value that is there changes nothing
  pub set_same : (k : List ℤ) (es : List (List ℤ × V)) (v : V) → lookup (here k) es ≡ Some v → set_value (here k) es v ≡ es
  set_same k [] v h = refl
  set_same k (e ∷ es) v h = step (here k e.0) refl (set_same k es v) where
    step : (b : Bool) → here k e.0 ≡ b → (lookup (here k) es ≡ Some v → set_value (here k) es v ≡ es) → set_value (here k) (e ∷ es) v ≡ e ∷ es
    step true g more = let same : e.1 ≡ v = same_Some _ _ (sym (lookup_head (here k) e es g) ∙ h) in set_here k e es v g ∙ (λ i. (e.0, sym same i) ∷ es)
    step false g more = set_past k e es v g ∙ ap (λ l. e ∷ l) (more (sym (lookup_tail (here k) e es g) ∙ h))

  -- keys stay short where a value is set
  pub short_set : (n : ℕ) (k : List ℤ) (es : List (List ℤ × V)) (v : V) → AreShort n es → AreShort n (set_value (here k) es v)
  short_set n k [] v a = tt
  short_set n k (e ∷ es) v a = step (here k e.0) (short_set n k es v a.1) where
    step : (b : Bool) → AreShort n (set_value (here k) es v) → AreShort {V = V} n (cond b ((e.0, v) ∷ es) (e ∷ set_value (here k) es v))
    step true more = (a.0, a.1)
    step false more = (a.0, more)

  module _ {W : Type 0} (start : V) (merge : V → W → V) where
    -- to write the merged value is to put
    pub set_is_put : (k : List ℤ) (w : W) (es : List (List ℤ × V)) (v : V) → IsStrictlySortedBy row_cmp (keys_of es) → lookup (here k) es ≡ Some v
        → set_value (here k) es (merge v w) ≡ put row_cmp start merge es (k, w)
    set_is_put k w [] v s h = absurd (cc h)
    set_is_put k w (e ∷ es) v s h = step (row_cmp k e.0) refl (set_is_put k w es v (sorted_tail row_cmp e.0 (keys_of es) s)) where
      put_is : (r : Ordering) → row_cmp k e.0 ≡ r
          → put row_cmp start merge (e ∷ es) (k, w) ≡ match_ordering r ((k, merge start w) ∷ (e ∷ es)) ((e.0, merge e.1 w) ∷ es)
          (e ∷ put row_cmp start merge es (k, w))
      put_is r g = ap (λ r. match_ordering r ((k, merge start w) ∷ (e ∷ es)) ((e.0, merge e.1 w) ∷ es) (e ∷ put row_cmp start merge es (k, w))) g

      step : (r : Ordering) → row_cmp k e.0 ≡ r → (lookup (here k) es ≡ Some v → set_value (here k) es (merge v w) ≡ put row_cmp start merge es (k, w))
          → set_value (here k) (e ∷ es) (merge v w) ≡ put row_cmp start merge (e ∷ es) (k, w)
      step Less g more =
          let none : lookup (here k) (e ∷ es) ≡ None =
          lookup_at_gap row_total k (e ∷ es) 0 s (λ j f l u. absurd (omega arith)) (λ f u. let same : e ≡ f = cc in ap (λ x. row_cmp k x.0) (sym same) ∙ g) in
          absurd (clash (sym none ∙ h))
        where
          clash : None ≡ Some v → ⊥
          clash x = cc x
      step Equal g more =
          let same : e.1 ≡ v = same_Some _ _ (sym (lookup_head (here k) e es (ap is_eq g)) ∙ h) in
          set_here k e es (merge v w) (ap is_eq g) ∙ (λ i. (e.0, merge (sym same i) w) ∷ es) ∙ sym (put_is Equal g)
      step Greater g more =
          set_past k e es (merge v w) (ap is_eq g) ∙ ap (λ l. e ∷ l) (more (sym (lookup_tail (here k) e es (ap is_eq g)) ∙ h)) ∙ sym (put_is Greater g)
