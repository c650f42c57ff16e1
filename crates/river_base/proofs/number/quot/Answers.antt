use Rattle.std.proofs.Common.{arith}
use Rattle.std.proofs.lemmas.Int.{to_z-of_z}
use Rattle.river_base.proofs.NumberLemmas.{int_div_wraps}
use Rattle.river_base.proofs.number.quot.Goals as goal

pub returns-else-b-eq0 : goal.returns-else-b-eq0
returns-else-b-eq0 c = grind (arith, to_z-of_z, int_div_wraps)
