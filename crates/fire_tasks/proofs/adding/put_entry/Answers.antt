use Rattle.std.proofs.Common.{List, ◌++◌, sym, ap, ◌∙◌}
use Rattle.std.proofs.lemmas.Result.{on_ok_weaker}
use Rattle.class_locks.specs.declared.log.LogEntry.{LogEntry}
use Rattle.class_locks.specs.Logs.{Holding}
use Rattle.fire_tasks.proofs.CellLemmas.{some_rows}
use Rattle.fire_tasks.proofs.adding.put_entry.Goals as goal

pub returns-clause-ok : goal.returns-clause-ok
returns-clause-ok c =
    let x : Holding = c.args.cell.now in
    on_ok_weaker c.add.result
    (λ e. e ∙ ap (λ (es : List LogEntry). record x { log = x.log ++ es }) (sym (some_rows c.args.op c.args.table c.args.rows.now c.requires.some)))
    c.add.ensures.ok
