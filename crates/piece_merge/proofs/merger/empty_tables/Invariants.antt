use Rattle.std.proofs.Common.{◌≡◌, take, map, []}
use Rattle.kern_tables.specs.Kept.{kept_of}
use Rattle.piece_merge.proofs.merger.empty_tables.Given as goal

abbrev pub invariant-loop-table : goal.invariant-loop-table
invariant-loop-table l = l.kept.items ≡ map (λ t. kept_of t.kind []) (take l.table-index l.tables)
