use Rattle.std.proofs.Common.{drop, map}
use Rattle.work_code.specs.Calcs.{calc_term, further_of}
use Rattle.work_code.proofs.Calcs.{SoFar}
use Rattle.work_code.proofs.calc.+value.Given as goal

abbrev pub decreases-after_step : goal.decreases-after_step
decreases-after_step l = goal.size-after_step l

abbrev pub decreases-value_of : goal.decreases-value_of
decreases-value_of l = goal.size-value_of l

abbrev pub invariant-value_of-loop-step : goal.invariant-value_of-loop-step
invariant-value_of-loop-step l = SoFar l.input l.slots (calc_term l.c) (map further_of (drop l.step-index l.step-items)) l.value
