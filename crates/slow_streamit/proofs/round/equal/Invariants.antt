use Rattle.std.proofs.Common.{◌≡◌, replicate}
use Rattle.slow_streamit.proofs.round.equal.Given as goal

abbrev pub invariant-loop-i : goal.invariant-loop-i
invariant-loop-i l = l.all.items ≡ replicate l._i l.weight
