use Rattle.std.proofs.Common.{◌≡◌, take}
use Rattle.streamit_build.proofs.rounds.taken.Given as goal

abbrev pub invariant-loop-weight : goal.invariant-loop-weight
invariant-loop-weight l = l.all.items ≡ take l.weight-index l.written
