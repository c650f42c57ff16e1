use Rattle.std.proofs.Common.{◌≡◌, true, take, nat_le}
use Rattle.std.specs.List.{list_all}
use Rattle.streamit_build.proofs.rounds.has_zero.Given as goal

abbrev pub invariant-loop-weight : goal.invariant-loop-weight
invariant-loop-weight l = list_all (λ w. nat_le 1 w) (take l.weight-index l.written) ≡ true
