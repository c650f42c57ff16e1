use Rattle.std.proofs.Common.{List, ap, ◌∙◌}
use Rattle.fire_tasks.specs.declared.bundle.Bundle.{Bundle}
use Rattle.fire_tasks.specs.declared.task.Task.{Task}
use Rattle.fire_tasks.proofs.bundle.Bundle.take_tasks.Goals as goal

pub returns-clause-rest : goal.returns-clause-rest
returns-clause-rest c =
    let b : Bundle = c.args.self.now in
    ap (λ (ts : List Task). record b { tasks = ts }) (c.replace.ensures.after ∙ c.new.ensures)
