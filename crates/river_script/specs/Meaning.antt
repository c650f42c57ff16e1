-- What a script makes of a plan: its text is read, and then its steps are applied one after another.
use Rattle.std.specs.Prelude.{◌≡◌, ℕ, List, Result, Ok, Err}
use Rattle.river_plan.specs.Forms.{PlanForm}
use Rattle.plan_edits.specs.declared.unfit.Unfit.{Unfit as Why}
use Rattle.plan_edits.specs.declared.unfit.Unfit.TheVariants as why
use Rattle.text_forms.specs.declared.text_fault.TextFault.{TextFault}
use Rattle.text_forms.specs.declared.text_fault.TextFault.TheVariants.{NoMemory}
use Rattle.river_script.specs.declared.fault.ScriptFault.{ScriptFault}
use Rattle.river_script.specs.declared.fault.ScriptFault.TheVariants.{Text, Unfit}
use Rattle.river_script.specs.Script.{StepForm, script_of}
use Rattle.river_script.specs.Reading.{steps_in}

-- a fault of a step among those of a script
abbrev pub from_step : ℕ → Why → ScriptFault
from_step step why.NoMemory = Text NoMemory
from_step step w = Unfit step w

-- the last plan, or the first step that fails
abbrev pub script_ended : Result PlanForm (ℕ × Why) → Result PlanForm ScriptFault
script_ended (Ok q) = Ok q
script_ended (Err f) = Err (Unfit f.0 f.1)

-- what is read, whole, is applied
abbrev pub then_applied : PlanForm → Result (List StepForm) TextFault → Result PlanForm ScriptFault
then_applied p (Ok ss) = script_ended (script_of p ss)
then_applied p (Err fault) = Err (Text fault)

-- the plan that a script's text makes of a plan, or why it makes none
unfoldable pub rewritten : PlanForm → List ℕ → Result PlanForm ScriptFault
rewritten p text = then_applied p (steps_in text)

-- this is why there is no plan; want of memory says nothing
abbrev pub Refused : Result PlanForm ScriptFault → ScriptFault → Type 0
Refused made (Text NoMemory) = Unit {0}
Refused made fault = made ≡ Err fault

-- the answer to steps: the last plan, or the first step that fails
abbrev pub IsEnded : PlanForm → List StepForm → Result PlanForm ScriptFault → Type 0
IsEnded p ss (Ok q) = script_of p ss ≡ Ok q
IsEnded p ss (Err (Unfit step w)) = script_of p ss ≡ Err (step, w)
IsEnded p ss (Err (Text NoMemory)) = Unit {0}
IsEnded p ss (Err (Text fault)) = ⊥

-- this is why no plan is made, whatever the plan; want of memory says nothing
abbrev pub IsUnread : List ℕ → TextFault → Type 0
IsUnread text NoMemory = Unit {0}
IsUnread text fault = (p : PlanForm) → rewritten p text ≡ Err (Text fault)
