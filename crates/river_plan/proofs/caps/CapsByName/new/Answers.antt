use Rattle.river_plan.proofs.caps.CapsByName.new.Goals as goal

pub returns : goal.returns
returns c = λ i q. c.in_ok-caps.ensures.each q i
