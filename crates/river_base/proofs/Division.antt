-- Division, as a product and what remains.
use Rattle.std.proofs.Common.{◌≡◌, ◌≢◌, ◌+ℤ◌, ◌*ℤ◌, ◌≤ℤ◌, ◌<◌, ◌%◌, ◌-◌, ◌^◌, ℕ, zero, suc, ℤ, pos, negsuc, neg_ℤ, Bool, true, false, cond, refl, sym, ap, ◌∙◌}
use Rattle.std.proofs.Common.{subst, arith}
use Rattle.std.proofs.Math.Nat.{div-le_self, div-lt_self}
use Rattle.std.specs.Int.{w64, int_wrap}
use Rattle.std.specs.Int.RustNames.{int_div, int_rem, unsigned_abs, FitsSigned}
use Rattle.std.specs.Ordering.{int_eq}
use Rattle.std.proofs.lemmas.Bool.Decides.{Decides-int_eq}
use Rattle.std.proofs.lemmas.Int.{quot-rem, rem_below, quot_fits, fits_signed_from_abs, int_wrap_fits, ints}
use Rattle.river_base.specs.Number.{IsValue, HasQuotient, least_value, quot, rem, wrap}
use Rattle.river_base.proofs.NumberLemmas.{abs_negated}

not_nought : (b : ℤ) → b ≢ pos 0 → int_eq b (pos 0) ≡ false
not_nought b h = step (int_eq b (pos 0)) refl where
  step : (r : Bool) → int_eq b (pos 0) ≡ r → int_eq b (pos 0) ≡ false
  step true e = absurd (h ((Decides-int_eq b (pos 0)).0 e))
  step false e = e

div_fits : (a b : ℤ) → IsValue a → HasQuotient a b → FitsSigned w64 (int_div a b)
div_fits a (pos zero) f h = absurd (h.by_some refl)
div_fits a (pos (suc b)) f h = quot_fits w64 a (pos (suc b)) f (omega (arith, ints))
div_fits (pos a) (negsuc b) f h = fits_signed_from_abs w64 _ (rw abs_negated (omega (arith, div-le_self a (suc b), f.sfits)))
div_fits (negsuc a) (negsuc zero) f h = fits_signed_from_abs w64 _ (omega (arith, f.sfits, least)) where
  least : a ≢ 2 ^ 63 - 1
  least e = h.below (ap negsuc e) refl
div_fits (negsuc a) (negsuc (suc b)) f h =
    fits_signed_from_abs w64 _ (omega (arith, f.sfits, div-lt_self {n = suc a} {k = suc (suc b)} (omega arith) (omega arith)))

-- what is divided is the product with the quotient, and the remainder
pub division_is_whole : (a b : ℤ) → IsValue a → HasQuotient a b → a ≡ quot a b *ℤ b +ℤ rem a b
division_is_whole a b f h =
    let n = not_nought b h.by_some in
    let q : quot a b ≡ int_div a b = ap (λ t. cond t (pos 0) (wrap (int_div a b))) n ∙ int_wrap_fits w64 (int_div a b) (div_fits a b f h) in
    let r : rem a b ≡ int_rem a b = ap (λ t. cond t (pos 0) (int_rem a b)) n in
    sym ((λ i. q i *ℤ b +ℤ r i) ∙ quot-rem a b)

some_abs : (b : ℤ) → b ≢ pos 0 → 0 < unsigned_abs b
some_abs (pos zero) h = absurd (h refl)
some_abs (pos (suc b)) h = omega arith
some_abs (negsuc b) h = omega arith

-- the remainder is smaller than the divisor
pub remainder_is_small : (a b : ℤ) → b ≢ pos 0 → unsigned_abs (rem a b) < unsigned_abs b
remainder_is_small a b h =
    subst (λ z. unsigned_abs z < unsigned_abs b) (sym (ap (λ t. cond t (pos 0) (int_rem a b)) (not_nought b h))) (rem_below a b (some_abs b h))

never_below : (n : ℕ) → neg_ℤ (pos n) ≤ℤ pos 0
never_below n = omega (arith, ints)

-- and not on the other side of 0
pub remainder_from : (a b : ℤ) → pos 0 ≤ℤ a → pos 0 ≤ℤ rem a b
remainder_from (pos a) b h = step (int_eq b (pos 0)) where
  step : (t : Bool) → pos 0 ≤ℤ cond t (pos 0) (int_rem (pos a) b)
  step true = omega (arith, ints)
  step false = omega (arith, ints)
remainder_from (negsuc a) b h = absurd (omega (arith, ints))

-- the remainder of a number below 0 is at most 0
pub remainder_to : (a b : ℤ) → a ≤ℤ pos 0 → rem a b ≤ℤ pos 0
remainder_to (pos zero) b h = step (int_eq b (pos 0)) where
  step : (t : Bool) → cond t (pos 0) (int_rem (pos 0) b) ≤ℤ pos 0
  step true = omega (arith, ints)
  step false = omega (arith, ints)
remainder_to (pos (suc a)) b h = absurd (omega (arith, ints))
remainder_to (negsuc a) b h = step (int_eq b (pos 0)) where
  step : (t : Bool) → cond t (pos 0) (int_rem (negsuc a) b) ≤ℤ pos 0
  step true = omega (arith, ints)
  step false = never_below (suc a % unsigned_abs b)

-- where there is no quotient
pub divided_by_nought : (a : ℤ) → (quot a (pos 0) ≡ pos 0) × (rem a (pos 0) ≡ pos 0)
divided_by_nought a = (refl, refl)

-- the least value by -1: it stays, and nothing is left
pub least_divided : (quot least_value (negsuc 0) ≡ least_value) × (rem least_value (negsuc 0) ≡ pos 0)
unfolding int_wrap
least_divided = (refl, refl)
