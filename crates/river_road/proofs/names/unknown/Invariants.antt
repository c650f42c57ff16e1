use Rattle.std.proofs.Common.{◌≡◌, drop}
use Rattle.river_road.specs.Inputs.{unknown}
use Rattle.river_road.proofs.names.unknown.Given as goal

abbrev pub invariant-loop-word : goal.invariant-loop-word
invariant-loop-word l = unknown l.decls (drop l.word-index l.ins) ≡ unknown l.decls l.ins
