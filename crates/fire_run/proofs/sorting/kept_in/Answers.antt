use Rattle.fire_tasks.specs.Adds.{logs_of}
use Rattle.fire_run.proofs.SortLemmas.{cells_sorted}
use Rattle.fire_run.proofs.sorting.kept_in.Goals as goal

pub in_order-requires-clause-sorted : goal.in_order-requires-clause-sorted
in_order-requires-clause-sorted c = (logs_of c.args.cells, cells_sorted c.args.plan.now c.args.cells _ c.requires c.in_ok-lists.ensures.tables)

pub returns-clause-tables : goal.returns-clause-tables
returns-clause-tables c = c.in_ok-tables.ensures (logs_of c.args.cells) (cells_sorted c.args.plan.now c.args.cells _ c.requires c.in_ok-lists.ensures.tables)
