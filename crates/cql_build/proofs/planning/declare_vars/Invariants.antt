use Rattle.std.proofs.Common.{◌≡◌, ◌++◌, take, map}
use Rattle.river_plan.specs.Forms.{op_form}
use Rattle.river_plan.specs.Uses.{all_vars}
use Rattle.cql_build.proofs.planning.declare_vars.Given as goal

abbrev pub invariant-loop-op : goal.invariant-loop-op
invariant-loop-op l = l.to ≡ l.initial.to ++ all_vars (map op_form (take l.op-index l.op-items))
