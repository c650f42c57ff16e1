use Rattle.std.proofs.Common.{◌≡◌, drop}
use Rattle.river_plan.specs.Kinds.{kind_of}
use Rattle.river_road.proofs.rows.kind_named.Given as goal

abbrev pub invariant-loop-decl : goal.invariant-loop-decl
invariant-loop-decl l = kind_of (drop l.decl-index l.decls) l.name ≡ kind_of l.decls l.name
