use Rattle.std.proofs.Common.{◌≡◌, drop}
use Rattle.river_plan.specs.Forms.{decl_names}
use Rattle.river_plan.specs.Names.{count}
use Rattle.river_road.proofs.names.is_declared.Given as goal

abbrev pub invariant-loop-decl : goal.invariant-loop-decl
invariant-loop-decl l = count l.name (decl_names (drop l.decl-index l.decls)) ≡ count l.name (decl_names l.decls)
