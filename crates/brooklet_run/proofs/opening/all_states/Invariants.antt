use Rattle.std.proofs.Common.{take}
use Rattle.river_plan.specs.Forms.{op_forms}
use Rattle.brooklet_step.specs.Initial.{AreFirst}
use Rattle.brooklet_run.proofs.opening.all_states.Given as goal

abbrev pub invariant-loop-op : goal.invariant-loop-op
invariant-loop-op l = AreFirst (op_forms (take l.op-index l.op-items)) l.all
