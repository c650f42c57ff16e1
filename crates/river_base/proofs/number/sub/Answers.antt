use Rattle.std.proofs.Common.{rules}
use Rattle.std.proofs.lemmas.Int.{wraps}
use Rattle.river_base.proofs.number.sub.Goals as goal

pub returns : goal.returns
returns c = search (rules, wraps)
