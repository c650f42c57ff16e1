use Rattle.std.proofs.Common.{ap}
use Rattle.fire_tasks.specs.Inlet.{Inlet}
use Rattle.fire_tasks.specs.Tasks.{with_in}
use Rattle.fire_tasks.proofs.task.Task.put_in.Goals as goal

pub returns : goal.returns
returns c = ap (λ (x : Inlet). with_in c.args.self.now c.args.port x) c.replace.ensures.after
