use Rattle.streamit_text.specs.ExactLeaves.{apart}
use Rattle.streamit_text.specs.ExactStatements.{exact-term}
use Rattle.streamit_text.proofs.laws.expressions_are_exact.Goals as goal

pub returns : goal.returns
returns c = exact-term apart
