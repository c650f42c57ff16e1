use Rattle.params_text.proofs.ParamTexts as texts
use Rattle.params_text.proofs.laws.one_param_program.Goals as goal

pub returns : goal.returns
returns c = texts.one_param_program
