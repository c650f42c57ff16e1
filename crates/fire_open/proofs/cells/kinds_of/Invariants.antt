use Rattle.std.proofs.Common.{◌≡◌, take}
use Rattle.std.specs.Prelude.{slice_index_or}
use Rattle.fire_open.specs.Homes.{kinds_from}
use Rattle.fire_open.proofs.cells.kinds_of.Given as goal

abbrev pub invariant-loop-table : goal.invariant-loop-table
invariant-loop-table l = l.kinds ≡ kinds_from (λ n. slice_index_or l.classes n 0) l.class 0 (take l.table l.tables)
