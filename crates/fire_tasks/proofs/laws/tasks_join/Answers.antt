use Rattle.fire_tasks.proofs.Joining.{join_law}
use Rattle.fire_tasks.proofs.laws.tasks_join.Goals as goal

pub returns : goal.returns
returns c = join_law
