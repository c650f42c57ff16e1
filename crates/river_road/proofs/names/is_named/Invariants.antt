use Rattle.std.proofs.Common.{◌≡◌, drop}
use Rattle.river_plan.specs.Names.{count}
use Rattle.river_road.specs.Inputs.{names}
use Rattle.river_road.proofs.names.is_named.Given as goal

abbrev pub invariant-loop-word : goal.invariant-loop-word
invariant-loop-word l = count l.name (names (drop l.word-index l.ins)) ≡ count l.name (names l.ins)
