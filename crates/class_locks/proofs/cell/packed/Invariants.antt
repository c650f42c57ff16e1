use Rattle.std.proofs.Common.{◌≡◌, take}
use Rattle.class_locks.proofs.cell.packed.Given as goal

abbrev pub invariant-loop-row : goal.invariant-loop-row
invariant-loop-row l = l.even ≡ take l.row-index l.rows
