use Rattle.river_plan.specs.Caps.{capacity, first_cap}
use Rattle.fire_run.proofs.RunLemmas.{RanFor, moves_left}
use Rattle.fire_run.proofs.running.run_plan.Given as goal

abbrev pub invariant-loop-net : goal.invariant-loop-net
invariant-loop-net g l = RanFor l.plan l.fn.inputs (capacity l.cap (first_cap l.caps)) l.rounds l.net

abbrev pub decreases-loop-net : goal.decreases-loop-net
decreases-loop-net g l = moves_left l.plan l.fn.inputs l.net
