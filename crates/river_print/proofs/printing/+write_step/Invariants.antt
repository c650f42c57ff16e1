use Rattle.std.proofs.Common.{◌≡◌, ◌++◌, drop, map}
use Rattle.work_code.specs.Steps.{step, in_turn}
use Rattle.work_code.specs.Printed.{more_text}
use Rattle.river_print.proofs.printing.+write_step.Given as goal

abbrev pub invariant-write_steps-loop-s : goal.invariant-write_steps-loop-s
invariant-write_steps-loop-s l = l.to ++ more_text (in_turn (map step (drop l.s-index l.s-items))) ≡ l.initial.to ++ more_text (in_turn (map step l.s-items))
