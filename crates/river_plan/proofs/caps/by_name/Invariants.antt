use Rattle.std.proofs.Common.{◌-◌, length, drop}
use Rattle.river_plan.specs.Caps.{KnowsCaps}
use Rattle.river_plan.proofs.caps.by_name.Given as goal

abbrev pub invariant-loop-back : goal.invariant-loop-back
invariant-loop-back l = KnowsCaps l.known (drop (length l.caps - l.back) l.caps)
