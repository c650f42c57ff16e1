use Rattle.std.proofs.Common.{◌≡◌, ◌≤◌, ◌++◌, length, take}
use Rattle.river_rings.specs.Rows.{AreWhole, rows_in}
use Rattle.fire_tasks.proofs.ports.kept_rows.Given as goal

abbrev pub invariant-loop-row : goal.invariant-loop-row
invariant-loop-row l = record {
  line : l.kept.line ≡ l.initial.kept.line;
  within : l.count ≤ length l.initial.rows;
  whole : AreWhole l.width (take l.count l.rows);
  taken : take l.kept.taken l.kept.line ≡ take l.initial.kept.taken l.initial.kept.line ++ rows_in l.width (take l.count l.rows);
  none : l.count ≡ 0 → l.kept ≡ l.initial.kept;
}
