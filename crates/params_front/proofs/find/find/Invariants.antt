use Rattle.std.proofs.Common.{◌≡◌, ◌≤◌, ℕ, ℤ, List, length, take}
use Rattle.params_model.specs.Making.{Made}
use Rattle.params_front.specs.Standing.{adding}
use Rattle.params_front.proofs.find.find.Given as goal

abbrev pub invariant-units : goal.invariant-units
invariant-units l = record {
  within : l.i ≤ length l.units;
  same : (sizes : List ℕ) (depth : ℕ) (zs : List ℤ) (m : Made) → adding (take l.i l.units) sizes depth l.name zs m ≡ adding l.units sizes depth l.name zs m;
}

abbrev pub decreases-units : goal.decreases-units
decreases-units l = l.i
