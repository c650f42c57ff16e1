use Rattle.std.proofs.Common.{drop, map}
use Rattle.work_code.specs.Steps.{step, in_turn}
use Rattle.river_print.specs.Ranged.{IsRangedSteps}
use Rattle.river_print.proofs.ranges.+read_stmt.Given as goal

abbrev pub invariant-read_stmts-loop-s : goal.invariant-read_stmts-loop-s
invariant-read_stmts-loop-s l = IsRangedSteps (in_turn (map step (drop l.s-index l.s-items))) → IsRangedSteps (in_turn (map step l.s-items))
