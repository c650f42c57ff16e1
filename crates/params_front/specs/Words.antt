-- What is told of a text that is no program with parameters.
use Rattle.std.specs.Prelude.{ℕ, List, ◌++◌, codes}
use Rattle.std.specs.Fmt.{decimal}
use Rattle.text_forms.specs.TextFaults.{text_words}
use Rattle.streamit_front.specs.Words.{streamit_words}
use Rattle.params_front.specs.declared.fault.ParamFault.{ParamFault}
use Rattle.params_front.specs.declared.fault.ParamFault.TheVariants as fault

-- the name of the fault and the unit; of the plain program, also what is told of it
abbrev pub params_words : ParamFault → List ℕ
params_words (fault.Text text) = text_words text
params_words (fault.UnknownName unit) = codes "UnknownName " ++ decimal unit
params_words (fault.NameTwice unit) = codes "NameTwice " ++ decimal unit
params_words (fault.Arity unit) = codes "Arity " ++ decimal unit
params_words (fault.NotConstant unit) = codes "NotConstant " ++ decimal unit
params_words (fault.Top unit) = codes "Top " ++ decimal unit
params_words (fault.Range unit) = codes "Range " ++ decimal unit
params_words (fault.Empty unit) = codes "Empty " ++ decimal unit
params_words (fault.Budget unit) = codes "Budget " ++ decimal unit
params_words (fault.Inner unit inner) = (codes "Inner " ++ decimal unit) ++ (codes " " ++ streamit_words inner)
