-- The keys of a table rise.
use Rattle.std.proofs.Common.{◌≡◌, List, [], ◌∷◌, Ordering, refl, ap, ◌∙◌, fold}
use Rattle.std.specs.declared.cmp.Ordering.TheVariants.{Less, Equal, Greater}
use Rattle.std.specs.Ordering.{match_ordering, ordering_reverse}
use Rattle.std.specs.Cmp.{IsTotalOrder}
use Rattle.std.specs.List.{AllByRecursion}
use Rattle.std.specs.List.Sorted.{IsStrictlySortedBy}
use Rattle.std.specs.Map.{keys_of}
use Rattle.std.proofs.lemmas.Map.Lookups.{CmpEqualImpliesEq}
use Rattle.kern_tables.specs.Keyed as table

module _ {K V W : Type 0} (R : K → K → Ordering) (o : IsTotalOrder R) (exact : CmpEqualImpliesEq R) (start : V) (merge : V → W → V)
    (commutes : (v : V) (w u : W) → merge (merge v w) u ≡ merge (merge v u) w) where
  rises : (x y : K) (ks : List K) → R x y ≡ Less → AllByRecursion (λ z. R y z ≡ Less) ks → AllByRecursion (λ z. R x z ≡ Less) ks
  rises x y [] h a = tt
  rises x y (k ∷ ks) h a = (o.trans x y k h a.0, rises x y ks h a.1)

  -- what holds of each key and of the new one
  keys_put : (P : K → Type 0) (es : List (K × V)) (a : K × W) → AllByRecursion P (keys_of es) → P a.0
      → AllByRecursion P (keys_of (table.put R start merge es a))
  keys_put P [] a all p = (p, tt)
  keys_put P (e ∷ es) a all p = step (R a.0 e.0) (keys_put P es a all.1 p) where
    step : (r : Ordering) → AllByRecursion P (keys_of (table.put R start merge es a))
        → AllByRecursion P (keys_of (match_ordering r ((a.0, merge start a.1) ∷ (e ∷ es)) ((e.0, merge e.1 a.1) ∷ es) (e ∷ table.put R start merge es a)))
    step Less more = (p, all)
    step Equal more = all
    step Greater more = (all.0, more)

  turned : (x y : K) (r : Ordering) → R x y ≡ r → R y x ≡ ordering_reverse r
  turned x y r h = o.antisymm y x ∙ ap ordering_reverse h

  -- the keys stay in order
  pub sorted_put : (es : List (K × V)) (a : K × W) → IsStrictlySortedBy R (keys_of es) → IsStrictlySortedBy R (keys_of (table.put R start merge es a))
  unfolding IsStrictlySortedBy
  sorted_put [] a s = (tt, tt)
  sorted_put (e ∷ es) a s = step (R a.0 e.0) refl (sorted_put es a s.1) where
    step : (r : Ordering) → R a.0 e.0 ≡ r → IsStrictlySortedBy R (keys_of (table.put R start merge es a))
        → IsStrictlySortedBy R (keys_of (match_ordering r ((a.0, merge start a.1) ∷ (e ∷ es)) ((e.0, merge e.1 a.1) ∷ es) (e ∷ table.put R start merge es a)))
    step Less h more = ((h, rises a.0 e.0 (keys_of es) h s.0), s)
    step Equal h more = s
    step Greater h more = (keys_put (λ z. R e.0 z ≡ Less) es a s.0 (turned a.0 e.0 Greater h), more)

  sorted_fold : (es : List (K × V)) (adds : List (K × W)) → IsStrictlySortedBy R (keys_of es)
      → IsStrictlySortedBy R (keys_of (fold (table.put R start merge) es adds))
  sorted_fold es [] s = s
  sorted_fold es (a ∷ adds) s = sorted_fold (table.put R start merge es a) adds (sorted_put es a s)

  -- the keys of a table rise
  pub keyed_sorted : (adds : List (K × W)) → IsStrictlySortedBy R (keys_of (table.keyed R start merge adds))
  unfolding IsStrictlySortedBy
  keyed_sorted adds = sorted_fold [] adds tt
