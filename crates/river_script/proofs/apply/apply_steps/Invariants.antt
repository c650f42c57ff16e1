use Rattle.std.proofs.Common.{◌≡◌}
use Rattle.river_script.proofs.Loops.{SoFar}
use Rattle.river_script.proofs.apply.apply_steps.Given as goal

abbrev pub invariant-loop-step : goal.invariant-loop-step
invariant-loop-step l = SoFar l.plan l.step-items l.step-index l.now × (l.number ≡ l.step-index)
