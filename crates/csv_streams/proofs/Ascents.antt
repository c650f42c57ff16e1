-- What a look at neighbours says of rows.
use Rattle.std.proofs.Common.{◌≡◌, ℤ, ◌+◌, Bool, true, false, List, get_or, refl}
use Rattle.std.specs.List.{IsAllAdjacentAnswer}
use Rattle.std.specs.List.Sorted.{IsSorted}
use Rattle.std.specs.Ordering.{is_lt, is_le, ordering_reverse}
use Rattle.std.specs.declared.cmp.Ordering.{Ordering}
use Rattle.std.specs.declared.cmp.Ordering.TheVariants.{Less, Equal, Greater}
use Rattle.river_base.specs.Row.{row_cmp, row_total}

not_after : (a b : Ordering) → a ≡ ordering_reverse b → is_le b ≡ true → is_lt a ≡ false
not_after a Less e h = rw e refl
not_after a Equal e h = rw e refl
not_after a Greater e h = cc

-- where no row is above the next, they ascend
pub ascend_from : (xs : List (List ℤ)) (r : Bool) → IsAllAdjacentAnswer (λ x y b. is_le (row_cmp x y) ≡ b) xs r → r ≡ true → IsSorted row_cmp xs
ascend_from xs true all e k d low high =
    not_after (row_cmp (get_or xs (k + 1) d) (get_or xs k d)) (row_cmp (get_or xs k d) (get_or xs (k + 1) d))
    (row_total.antisymm (get_or xs (k + 1) d) (get_or xs k d)) (all k d high)
ascend_from xs false all e k d low high = cc
