use Rattle.std.proofs.Common.{◌≡◌, ◌+◌, drop}
use Rattle.brooklet_model.specs.ByIndex.{cycle}
use Rattle.slow_streamit.proofs.round.cycle.Given as goal

abbrev pub invariant-loop-weight : goal.invariant-loop-weight
invariant-loop-weight l = l.sum + cycle (drop l.weight-index l.weights) ≡ cycle l.weights
