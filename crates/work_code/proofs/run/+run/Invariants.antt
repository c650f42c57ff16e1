use Rattle.std.proofs.Common.{drop, map}
use Rattle.work_code.specs.Acts.{act_step}
use Rattle.work_code.proofs.Running.{SoFar}
use Rattle.work_code.proofs.run.+run.Given as goal

abbrev pub decreases-run_step : goal.decreases-run_step
decreases-run_step l = goal.size-run_step l

abbrev pub decreases-run_steps : goal.decreases-run_steps
decreases-run_steps l = goal.size-run_steps l

abbrev pub invariant-run_steps-loop-s : goal.invariant-run_steps-loop-s
invariant-run_steps-loop-s l = SoFar l.input (map act_step l.s-items) (map act_step (drop l.s-index l.s-items)) l.initial.slots l.slots l.initial.out l.out
