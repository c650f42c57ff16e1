use Rattle.params_model.proofs.MadeStands as stands
use Rattle.params_model.proofs.laws.elaborated_stands.Goals as goal

pub returns-clause-made : goal.returns-clause-made
returns-clause-made c = stands.made_stands

pub returns-clause-accepted : goal.returns-clause-accepted
returns-clause-accepted c = stands.elaborated_stands
