use Rattle.std.proofs.Common.{◌≡◌, ◌+◌, take}
use Rattle.brooklet_model.specs.ByIndex.{cycle}
use Rattle.streamit_build.proofs.rounds.is_low.Given as goal

abbrev pub invariant-loop-weight : goal.invariant-loop-weight
invariant-loop-weight l = l.left + cycle (take l.weight-index l.written) ≡ 65536
