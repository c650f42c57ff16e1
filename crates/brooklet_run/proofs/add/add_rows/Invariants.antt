use Rattle.std.proofs.Common.{◌≡◌, take, fold}
use Rattle.kern_tables.specs.Kept.{with_row}
use Rattle.brooklet_run.proofs.add.add_rows.Given as goal

abbrev pub invariant-loop-row : goal.invariant-loop-row
invariant-loop-row l = l.table ≡ fold with_row l.initial.table (take l.row-index l.row-items)
