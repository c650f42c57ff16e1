-- What the call of a rewrite may answer.
use Rattle.std.specs.Prelude.{◌≡◌, Result, Ok, Err}
use Rattle.river_plan.specs.Forms.{PlanForm}
use Rattle.plan_edits.specs.declared.unfit.Unfit.{Unfit}
use Rattle.plan_edits.specs.declared.unfit.Unfit.TheVariants.{NoMemory}

-- what is defined, or want of memory
abbrev pub IsAnswered : Result PlanForm Unfit → Result PlanForm Unfit → Type 0
IsAnswered told (Ok p) = told ≡ Ok p
IsAnswered told (Err NoMemory) = Unit {0}
IsAnswered told (Err f) = told ≡ Err f
