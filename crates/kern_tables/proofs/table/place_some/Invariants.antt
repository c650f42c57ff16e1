use Rattle.std.proofs.Common.{◌≡◌, take}
use Rattle.kern_tables.specs.Kept.{added_all, shown, kind_of_table}
use Rattle.kern_tables.proofs.table.place_some.Given as goal

abbrev pub invariant-loop-i : goal.invariant-loop-i
invariant-loop-i l = record {
  rows : shown l.kept ≡ added_all (shown l.initial.kept) (take l.i l.rows);
  kind : kind_of_table (shown l.kept) ≡ kind_of_table (shown l.initial.kept);
}
