use Rattle.std.proofs.Common.{ap}
use Rattle.fire_tasks.specs.declared.task.Task.{Task}
use Rattle.fire_tasks.proofs.task.Task.add_to_cells.Goals as goal

pub returns-clause-blank : goal.returns-clause-blank
returns-clause-blank c =
    let t : Task = c.args.self.now in
    ap (λ a. record t { out = record { outs = t.out.outs; adds = a } }) c.in_ok-add_to_each.ensures.blank
