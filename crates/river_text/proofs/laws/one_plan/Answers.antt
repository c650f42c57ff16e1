use Rattle.river_text.proofs.Capped as capped
use Rattle.river_text.proofs.Texts as texts
use Rattle.river_text.proofs.laws.one_plan.Goals as goal

pub returns-clause-one : goal.returns-clause-one
returns-clause-one c = texts.one_plan

pub returns-clause-caps : goal.returns-clause-caps
returns-clause-caps c = capped.caps_fit
