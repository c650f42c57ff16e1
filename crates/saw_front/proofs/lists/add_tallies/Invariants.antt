use Rattle.std.proofs.Common.{◌≡◌, ◌++◌, take}
use Rattle.river_plan.specs.Forms.{op_forms}
use Rattle.saw_front.specs.Plans.{tally_ops}
use Rattle.saw_front.proofs.lists.add_tallies.Given as goal

abbrev pub invariant-loop-table : goal.invariant-loop-table
invariant-loop-table l = op_forms l.ops ≡ op_forms l.initial.ops ++ tally_ops (take l.table-index l.table-items)
