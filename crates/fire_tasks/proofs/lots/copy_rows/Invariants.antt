use Rattle.std.proofs.Common.{◌≡◌, ◌++◌, take}
use Rattle.fire_tasks.proofs.lots.copy_rows.Given as goal

abbrev pub invariant-loop-row : goal.invariant-loop-row
invariant-loop-row l = l.to ≡ l.initial.to ++ take l.row-index l.rows
