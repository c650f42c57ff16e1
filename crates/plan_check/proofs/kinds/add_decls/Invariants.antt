use Rattle.std.proofs.Common.{◌≡◌, ◌++◌, take}
use Rattle.river_plan.specs.ByPlace.{decl_kinds}
use Rattle.plan_check.proofs.kinds.add_decls.Given as goal

abbrev pub invariant-loop-decl : goal.invariant-loop-decl
invariant-loop-decl l = l.kinds ≡ l.initial.kinds ++ decl_kinds (take l.decl-index l.decl-items)
