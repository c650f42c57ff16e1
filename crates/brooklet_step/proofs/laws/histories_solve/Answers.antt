use Rattle.brooklet_model.proofs.Solutions.{solve_law}
use Rattle.brooklet_step.proofs.laws.histories_solve.Goals as goal

pub returns : goal.returns
returns c = solve_law
