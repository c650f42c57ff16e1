use Rattle.std.proofs.Common.{◌≡◌, ◌≤◌, ◌+◌, ◌++◌, length, take, vec_capacity}
use Rattle.kern_tables.proofs.table.wait.Given as goal

abbrev pub invariant-loop-row : goal.invariant-loop-row
invariant-loop-row l = record {
  items : l.waiting.items ≡ l.initial.waiting.items ++ take l.row-index l.rows;
  room : length l.waiting.items + length l.rows ≤ vec_capacity l.waiting + l.row-index;
}
