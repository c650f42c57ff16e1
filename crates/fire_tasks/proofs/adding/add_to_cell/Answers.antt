use Rattle.std.proofs.Common.{◌≡◌, ℤ, List, [], rules, sym, ap, ◌∙◌}
use Rattle.std.proofs.lemmas.List.{append-nil}
use Rattle.class_locks.specs.declared.log.LogEntry.{LogEntry}
use Rattle.class_locks.specs.Logs.{Holding}
use Rattle.fire_tasks.specs.Rows.{cell_grown}
use Rattle.fire_tasks.proofs.adding.add_to_cell.Goals as goal

pub returns-then-is_empty-clause-ok : goal.returns-then-is_empty-clause-ok
returns-then-is_empty-clause-ok c =
    let none : c.args.rows.now ≡ [] = search rules in
    let x : Holding = c.args.cell.now in
    sym (ap (λ (r : List (List ℤ)). cell_grown c.args.op c.args.table r x) none ∙ ap (λ (es : List LogEntry). record x { log = es }) (append-nil x.log))
