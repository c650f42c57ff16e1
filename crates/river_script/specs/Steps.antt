-- Steps that were read.
use Rattle.std.specs.Prelude.{◌≡◌, ℕ, List, map, Option, Some, None, Result, Ok, Err}
use Rattle.text_forms.specs.declared.fault.ParseFault.{ParseFault}
use Rattle.text_forms.specs.declared.fault.ParseFault.TheVariants.{Syntax, NoMemory}
use Rattle.river_script.specs.declared.step.Step.{Step}
use Rattle.river_script.specs.declared.step.Step.TheVariants.{Fuse, Hoist, Fission}
use Rattle.river_script.specs.Script.{StepForm, fusing, hoisting, splitting}

abbrev pub step_form : Step → StepForm
step_form (Fuse queue) = fusing queue
step_form (Hoist label) = hoisting label
step_form (Fission label n) = splitting label n

abbrev pub step_forms : List Step → List StepForm
step_forms steps = map step_form steps

-- the reading gives a step exactly where there is one
abbrev pub MakesStep : Result Step ParseFault → Option StepForm → Type 0
MakesStep (Ok x) made = made ≡ Some (step_form x)
MakesStep (Err Syntax) made = made ≡ None
MakesStep (Err NoMemory) made = Unit {0}
