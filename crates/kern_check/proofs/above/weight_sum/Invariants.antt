use Rattle.std.proofs.Common.{◌≡◌, take}
use Rattle.river_kernels.specs.Limits.{told, weight_sum}
use Rattle.kern_check.proofs.above.weight_sum.Given as goal

abbrev pub invariant-loop-weight : goal.invariant-loop-weight
invariant-loop-weight l = l.sum ≡ told (weight_sum (take l.weight-index l.weight-items))
