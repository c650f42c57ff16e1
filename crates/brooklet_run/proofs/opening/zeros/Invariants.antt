use Rattle.std.proofs.Common.{◌≡◌, replicate}
use Rattle.brooklet_run.proofs.opening.zeros.Given as goal

abbrev pub invariant-loop-i : goal.invariant-loop-i
invariant-loop-i l = l.all ≡ replicate l._i 0
