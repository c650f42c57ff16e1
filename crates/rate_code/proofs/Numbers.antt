-- Common divisors and quotients.
use Rattle.std.proofs.Common.{◌≡◌, ℕ, ◌+◌, ◌-◌, ◌*◌, ◌/◌, ◌<◌, ◌≤◌, arith}
use Rattle.std.specs.Prelude.{min}
use Rattle.std.proofs.Math.Nat.{le-div_iff_mul-le}
use Rattle.std.specs.Int.{IsGcd}
use Rattle.std.proofs.lemmas.Nat.Gcd.{same_from_IsGcd}
use Rattle.stream_periods.specs.Periods.{common}
use Rattle.stream_periods.proofs.Numbers.{common_is, positive_common, parted}

pub same_common : (a b g : ℕ) → IsGcd a b g → g ≡ common a b
same_common a b g is = same_from_IsGcd a b g (common a b) is (common_is a b)

-- of two numbers of which the second is above 0 it is above 0
pub common_some : (a b : ℕ) → 0 < b → 0 < common a b
common_some a b lt = let p = parted a b in positive_common _ (common a b) b p.second lt

-- so many periods as fit are no more than what is left behind the reach has room for
pub fits_most : (takes gives reach size n : ℕ) → 0 < takes → 0 < gives → n * takes + reach ≤ size → n * gives ≤ 4294967295
    → n ≤ min ((size - reach) / takes) (4294967295 / gives)
fits_most takes gives reach size n some more items lines =
    let a : n ≤ (size - reach) / takes = (le-div_iff_mul-le some).1 (omega (arith, items)) in
    let b : n ≤ 4294967295 / gives = (le-div_iff_mul-le more).1 lines in
    omega (arith, a, b)
