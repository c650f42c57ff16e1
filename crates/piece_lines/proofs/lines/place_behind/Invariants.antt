use Rattle.std.proofs.Common.{◌-◌, length}
use Rattle.piece_lines.proofs.Counted.{Counted}
use Rattle.piece_lines.proofs.lines.place_behind.Given as goal

abbrev pub invariant-loop-left : goal.invariant-loop-left
invariant-loop-left l = Counted l.text l.from l.lines l.place l.left

abbrev pub decreases-loop-left : goal.decreases-loop-left
decreases-loop-left l = length l.text - l.place
