use Rattle.std.proofs.Common.{rules}
use Rattle.std.proofs.lemmas.Int.{wraps}
use Rattle.work_code.proofs.evaluate.negate.Goals as goal

pub returns : goal.returns
returns c = search (rules, wraps)
