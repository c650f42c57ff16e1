use Rattle.std.proofs.Common.{◌≡◌, ◌++◌, take}
use Rattle.river_plan.specs.Forms.{decl_names}
use Rattle.plan_check.proofs.lists.add_decls.Given as goal

abbrev pub invariant-loop-decl : goal.invariant-loop-decl
invariant-loop-decl l = l.names ≡ l.initial.names ++ decl_names (take l.decl-index l.decl-items)
