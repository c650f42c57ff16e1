use Rattle.std.proofs.Common.{◌≡◌, replicate}
use Rattle.streamit_build.proofs.rounds.copies.Given as goal

abbrev pub invariant-loop-i : goal.invariant-loop-i
invariant-loop-i l = l.all.items ≡ replicate l._i l.weight
