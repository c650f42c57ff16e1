use Rattle.std.proofs.Common.{◌≡◌, ◌++◌, map, take}
use Rattle.river_plan.specs.Forms.{op_form}
use Rattle.streamit_model.specs.Plan.{own_queues, values_in}
use Rattle.streamit_build.proofs.planning.declare_queues.Given as goal

abbrev pub invariant-loop-op : goal.invariant-loop-op
invariant-loop-op l = l.to ≡ l.initial.to ++ map values_in (own_queues (map op_form (take l.op-index l.op-items)))
