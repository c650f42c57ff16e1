use Rattle.fire_tasks.proofs.Numbers.{numbers_law}
use Rattle.fire_tasks.proofs.laws.numbers_are_few.Goals as goal

pub returns : goal.returns
returns c = numbers_law
