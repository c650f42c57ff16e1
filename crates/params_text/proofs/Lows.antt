-- How deep expressions are, in the words of the code.
use Rattle.std.proofs.Common.{◌≡◌, ℕ, suc, ◌-◌, ◌<◌, ◌≤◌, max, false, arith, nat_le}
use Rattle.std.specs.Prelude.{◌&&◌}
use Rattle.std.proofs.lemmas.Bool.Decides.{nat_tests}

pub within-one : (d m : ℕ) → 1 ≤ m → nat_le (suc d) m ≡ nat_le d (m - 1)
within-one d m h = grind (arith, nat_tests, h)

pub within-none : (d m : ℕ) → m < 1 → nat_le (suc d) m ≡ false
within-none d m h = grind (arith, nat_tests, h)

pub within-both : (a b k : ℕ) → nat_le (max a b) k ≡ nat_le a k && nat_le b k
within-both a b k = grind (arith, nat_tests)

pub ruleset withins = (within-one, within-none, within-both)
