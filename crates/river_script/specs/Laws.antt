-- Laws of scripts, over the definitions alone.
use Rattle.std.specs.Prelude.{◌≡◌, ◌↔◌, ℕ, List, Result, Ok, Err}
use Rattle.river_plan.specs.Forms.{PlanForm}
use Rattle.text_forms.specs.TextFaults.{HasTextFault}
use Rattle.river_script.specs.declared.fault.ScriptFault.{ScriptFault}
use Rattle.river_script.specs.declared.fault.ScriptFault.TheVariants.{Text, Unfit}
use Rattle.river_script.specs.Grammar.{IsScript, IsBadAt}
use Rattle.river_script.specs.Meaning.{rewritten}
use Rattle.river_script.specs.Script.{StepForm, script_of}

-- What a script has, in the words of the grammar. A plan: the text stands for steps of which it is the last plan. A fault of its bytes:
-- that is its first; a unit: that is the first that is no step, whatever the steps before it would do; a step: the text stands for steps
-- of which it is the first that fails. It is never want of memory.
abbrev pub Has : PlanForm → List ℕ → Result PlanForm ScriptFault → Type 0
Has p text (Ok q) = (ss : List StepForm) × IsScript text ss × (script_of p ss ≡ Ok q)
Has p text (Err (Text fault)) = HasTextFault (IsBadAt text) text fault
Has p text (Err (Unfit step why)) = (ss : List StepForm) × IsScript text ss × (script_of p ss ≡ Err (step, why))

-- what a script makes of a plan is what it has, and nothing else
abbrev pub MakesWhatItHas : Type 0
MakesWhatItHas = (p : PlanForm) (text : List ℕ) (made : Result PlanForm ScriptFault) → (rewritten p text ≡ made) ↔ Has p text made
