-- What is told of a script that makes no plan.
use Rattle.std.specs.Prelude.{ℕ, List, ◌++◌, codes}
use Rattle.std.specs.Fmt.{decimal}
use Rattle.plan_edits.specs.Words.{unfit_word}
use Rattle.text_forms.specs.TextFaults.{text_words}
use Rattle.river_script.specs.declared.fault.ScriptFault.{ScriptFault}
use Rattle.river_script.specs.declared.fault.ScriptFault.TheVariants.{Text, Unfit}

-- the fault of the text, or the number of the step and the condition
abbrev pub script_words : ScriptFault → List ℕ
script_words (Text fault) = codes "script: " ++ text_words fault
script_words (Unfit step why) = codes "rewrite " ++ (decimal step ++ (codes ": " ++ unfit_word why))
