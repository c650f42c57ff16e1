use Rattle.brooklet_model.proofs.Solutions.{one_solution_law}
use Rattle.brooklet_step.proofs.laws.one_solution.Goals as goal

pub returns : goal.returns
returns c = one_solution_law
