-- What is true of all programs that are accepted.
use Rattle.std.specs.Prelude.{◌≡◌, ℤ, List, [], ◌∷◌, map, take, Ok}
use Rattle.work_code.specs.Steps.{Steps}
use Rattle.river_plan.specs.Valid.{IsPlan}
use Rattle.brooklet_model.specs.Meaning.{meaning}
use Rattle.saw_text.specs.Tree.{Program}
use Rattle.saw_model.specs.Meaning.{width, program_tables}
use Rattle.saw_model.specs.Elaborate.{At}
use Rattle.saw_model.specs.Judged.{judged}
use Rattle.saw_model.specs.Plan.{plan_of, rows_as_items}
use Rattle.saw_model.specs.Shallow.{AreShallowUnits}

-- the plan is valid
abbrev pub PlansAreValid : Type 0
PlansAreValid = (p : Program) (read : Steps × At) → AreShallowUnits p → judged p ≡ Ok read → IsPlan (plan_of p read)

-- it means what the program means: each table of what all records emit. The plan reads the first fields of the records
abbrev pub TranslationMeans : Type 0
TranslationMeans =
    (p : Program) (read : Steps × At) (records : List (List ℤ)) → judged p ≡ Ok read
    → meaning (plan_of p read) (rows_as_items (map (take (width p)) records) ∷ []) ≡ record { outs = []; tables = program_tables p records }
