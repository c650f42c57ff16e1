use Rattle.std.proofs.Common.{◌≡◌, take}
use Rattle.piece_merge.proofs.merger.copied.Given as goal

abbrev pub invariant-loop-table : goal.invariant-loop-table
invariant-loop-table l = l.copy ≡ take l.table-index l.tables
