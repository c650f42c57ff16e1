use Rattle.river_text.specs.ExactExpressions.{exact-term}
use Rattle.river_text.proofs.laws.expressions_are_exact.Goals as goal

pub returns : goal.returns
returns c = exact-term
