use Rattle.std.proofs.Common.{ap}
use Rattle.fire_tasks.specs.Outlet.{Outlet}
use Rattle.fire_tasks.specs.Tasks.{with_out}
use Rattle.fire_tasks.proofs.task.Task.put_out.Goals as goal

pub returns : goal.returns
returns c = ap (λ (x : Outlet). with_out c.args.self.now c.args.port x) c.replace.ensures.after
