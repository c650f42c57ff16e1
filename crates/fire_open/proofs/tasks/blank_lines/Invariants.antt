use Rattle.std.proofs.Common.{◌≡◌, [], replicate}
use Rattle.fire_open.proofs.tasks.blank_lines.Given as goal

abbrev pub invariant-loop-i : goal.invariant-loop-i
invariant-loop-i l = l.lines ≡ replicate l._i []
