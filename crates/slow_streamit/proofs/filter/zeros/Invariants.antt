use Rattle.std.proofs.Common.{◌≡◌, pos, replicate}
use Rattle.slow_streamit.proofs.filter.zeros.Given as goal

abbrev pub invariant-loop-i : goal.invariant-loop-i
invariant-loop-i l = l.all ≡ replicate l._i (pos 0)
