use Rattle.std.proofs.Common.{◌≡◌, drop}
use Rattle.river_road.specs.Inputs.{missing}
use Rattle.river_road.proofs.names.missing.Given as goal

abbrev pub invariant-loop-decl : goal.invariant-loop-decl
invariant-loop-decl l = missing (drop l.decl-index l.decls) l.ins ≡ missing l.decls l.ins
