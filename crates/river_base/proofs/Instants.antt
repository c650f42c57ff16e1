-- Instants rise, and are the timestamps of the files.
use Rattle.std.proofs.Common.{◌≡◌, ℤ, false, List, [], refl, ap, ◌∙◌, arith}
use Rattle.std.specs.Cmp.{IsStrictWeakOrder}
use Rattle.std.specs.List.{Contains, dedup}
use Rattle.std.specs.List.Sorted.{IsPermutation, IsSorted, IsStrictlySortedBy}
use Rattle.std.specs.List.Retain.{IsFiltered, DiffersFromLast}
use Rattle.std.specs.Ordering.{int_eq, int_cmp}
use Rattle.std.proofs.lemmas.Cmp.{int_cmp_total, int_eq_equiv}
use Rattle.std.proofs.lemmas.List.Filters.{dedup_is}
use Rattle.std.proofs.lemmas.List.Kept.{IsStrictlySortedBy-dedup, Contains-dedup, Contains-from_dedup}
use Rattle.std.proofs.lemmas.List.Sorted.{ranks_by, Contains-permutation, IsPermutation-sym}
use Rattle.river_base.proofs.Tests.{int_eq_by}
use Rattle.river_base.specs.Bags.{ascending}
use Rattle.river_base.specs.Instants.{earlier, each_once}
use Rattle.river_base.proofs.Ascending as order

earlier_ranked : IsStrictWeakOrder earlier
earlier_ranked = ranks_by int_cmp_total (λ x. x)

apart : (t u : ℤ) → earlier t u ≡ false → earlier u t ≡ false → t ≡ u
apart t u h g = grind (arith, h, g)

-- each value once: they rise
pub once_rises : (ts : List ℤ) → IsStrictlySortedBy int_cmp (each_once ts)
once_rises ts = IsStrictlySortedBy-dedup int_cmp_total (λ x y. refl) (ascending earlier ts) (order.ascending_ascends earlier earlier_ranked apart ts)

-- and they are the values
pub once_has : (ts : List ℤ) (t : ℤ) → Contains ts t → Contains (each_once ts) t
once_has ts t h =
    Contains-dedup int_eq_equiv int_eq_by (ascending earlier ts) t
    (Contains-permutation ts (ascending earlier ts) t (order.ascending_bag earlier earlier_ranked apart ts) h)

-- an instant of the list is one of those that are kept once
pub has_once : (ts : List ℤ) (t : ℤ) → Contains (each_once ts) t → Contains ts t
has_once ts t h =
    let bag = order.ascending_bag earlier earlier_ranked apart ts in
    Contains-permutation (ascending earlier ts) ts t (IsPermutation-sym ts (ascending earlier ts) bag) (Contains-from_dedup int_eq (ascending earlier ts) t h)

-- what a sort and a dedup leave
pub once_from_sort : (ts us vs : List ℤ) → IsPermutation ts us → IsSorted int_cmp us → IsFiltered (DiffersFromLast int_eq) [] us vs → vs ≡ each_once ts
once_from_sort ts us vs bag sorted kept =
    dedup_is int_eq us vs kept ∙ ap (dedup int_eq) (order.ascending_from_sort earlier earlier_ranked apart ts us bag sorted)
