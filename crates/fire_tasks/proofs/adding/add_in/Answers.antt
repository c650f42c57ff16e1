use Rattle.std.proofs.Common.{sym, ap, ◌∙◌, subst}
use Rattle.std.specs.Prelude.{slice_set}
use Rattle.std.proofs.lemmas.Result.{on_ok_weaker}
use Rattle.class_locks.specs.Logs.{Holding, TakesRows}
use Rattle.fire_tasks.specs.Rows.{cell_grown, no_cell}
use Rattle.fire_tasks.proofs.adding.add_in.Goals as goal

pub add_to_cell-requires : goal.add_to_cell-requires
add_to_cell-requires c =
    subst (λ (x : Holding). TakesRows x.kinds c.args.table c.args.rows.now) (sym (c.at_mut.ensures.value c.at_mut.result.now))
    (c.requires.takes c.at_mut.result.now)

pub returns-clause-ok : goal.returns-clause-ok
returns-clause-ok c =
    on_ok_weaker c.add_to_cell.result
    (λ e. ap (λ (x : Holding). slice_set c.args.cells.now c.args.class x)
    (e ∙ ap (λ (x : Holding). cell_grown c.args.op c.args.table c.args.rows.now x) (c.at_mut.ensures.value no_cell)))
    c.add_to_cell.ensures.ok
