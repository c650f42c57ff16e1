use Rattle.std.proofs.Common.{◌≡◌, take, map}
use Rattle.work_code.specs.Acts.{act_step}
use Rattle.work_code.specs.Steps.{step}
use Rattle.work_code.proofs.acts.+acts_of.Given as goal

abbrev pub invariant-acts_of-loop-s : goal.invariant-acts_of-loop-s
invariant-acts_of-loop-s l = map act_step l.items.items ≡ map step (take l.s-index l.s-items)
