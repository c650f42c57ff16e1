use Rattle.std.proofs.Common.{◌≡◌, drop}
use Rattle.river_plan.specs.Kinds.{kind_in}
use Rattle.plan_edits.proofs.kinds.kind_in.Given as goal

abbrev pub invariant-loop-decl : goal.invariant-loop-decl
invariant-loop-decl l = kind_in (drop l.decl-index l.decl-items) l.queue ≡ kind_in l.decl-items l.queue
