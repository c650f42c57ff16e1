use Rattle.params_model.proofs.Events as events
use Rattle.params_model.proofs.laws.making_refusals_are.Goals as goal

pub returns-clause-refused : goal.returns-clause-refused
returns-clause-refused c = events.making_refusals_are

pub returns-clause-done : goal.returns-clause-done
returns-clause-done c = events.making_is_done
