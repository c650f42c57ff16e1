-- The order of rows, by their values from the left.
use Rattle.std.proofs.Common.{◌≡◌, ℤ, ◌<ℤ◌, List, [], ◌∷◌, ◌++◌, refl, sym, ap, ◌∙◌}
use Rattle.std.specs.declared.cmp.Ordering.TheVariants.{Less, Equal}
use Rattle.std.specs.Ordering.{int_cmp, ordering_then}
use Rattle.river_base.specs.Row.{row_cmp}
use Rattle.std.specs.Cmp.{int_cmp_is}

same_value : (x : ℤ) → int_cmp x x ≡ Equal
same_value x = sym (int_cmp_is x x Equal refl)

-- equal values at the front decide nothing
pub after_same : (p a b : List ℤ) → row_cmp (p ++ a) (p ++ b) ≡ row_cmp a b
after_same [] a b = refl
after_same (x ∷ p) a b = ap (λ r. ordering_then r (row_cmp (p ++ a) (p ++ b))) (same_value x) ∙ after_same p a b

-- a proper prefix comes first
pub prefix_first : (a : List ℤ) (x : ℤ) (b : List ℤ) → row_cmp a (a ++ x ∷ b) ≡ Less
prefix_first [] x b = refl
prefix_first (y ∷ a) x b = ap (λ r. ordering_then r (row_cmp a (a ++ x ∷ b))) (same_value y) ∙ prefix_first a x b

less_value : (x y : ℤ) → x <ℤ y → int_cmp x y ≡ Less
less_value x y h = sym (int_cmp_is x y Less h)

-- the first place where the values differ decides
pub first_difference : (p : List ℤ) (x y : ℤ) (a b : List ℤ) → x <ℤ y → row_cmp (p ++ x ∷ a) (p ++ y ∷ b) ≡ Less
first_difference p x y a b h = after_same p (x ∷ a) (y ∷ b) ∙ ap (λ r. ordering_then r (row_cmp a b)) (less_value x y h)
