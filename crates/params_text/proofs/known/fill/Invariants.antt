use Rattle.std.proofs.Common.{take}
use Rattle.params_text.specs.Parameters.{Finds}
use Rattle.params_text.proofs.known.fill.Given as goal

abbrev pub invariant-names : goal.invariant-names
invariant-names l = Finds l.set.keys (take l.each-index l.names)
