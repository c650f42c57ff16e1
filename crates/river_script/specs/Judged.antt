-- What the steps of a script make of a plan, one after another, without a word of how a step is found.
use Rattle.std.specs.Prelude.{◌≡◌, ◌↔◌, ℕ, ◌+◌, List, [], ◌∷◌, ◌++◌, length, Result, Ok, Err}
use Rattle.river_plan.specs.Forms.{PlanForm}
use Rattle.river_plan.specs.Valid.{IsPlan}
use Rattle.plan_edits.specs.declared.unfit.Unfit.{Unfit}
use Rattle.plan_edits.specs.Judged.{IsFirstToFail}
use Rattle.rw_local.specs.Fusion.{FuseFails, IsFused}
use Rattle.rw_local.specs.Hoisting.{HoistFails, IsHoisted}
use Rattle.rw_fission.specs.Splitting.{FissionFails, IsSplitInto}
use Rattle.river_script.specs.Script.{StepForm, fusing, hoisting, splitting, script_of}

-- the step is refused by this condition, whichever others refuse it
abbrev pub StepFails : PlanForm → StepForm → Unfit → Type 0
StepFails p (fusing q) f = FuseFails p q f
StepFails p (hoisting l) f = HoistFails p l f
StepFails p (splitting l n) f = FissionFails p l n f

-- p' is the plan that the step makes
abbrev pub StepMakes : PlanForm → StepForm → PlanForm → Type 0
StepMakes p (fusing q) p' = IsFused p q p'
StepMakes p (hoisting l) p' = IsHoisted p l p'
StepMakes p (splitting l n) p' = IsSplitInto p l n p'

-- none of its conditions fails
abbrev pub Accepts : PlanForm → StepForm → PlanForm → Type 0
Accepts p s p' = ((f : Unfit) → StepFails p s f → ⊥) × StepMakes p s p'

-- each step is accepted, and the last makes q
abbrev pub StepsLeadTo : PlanForm → List StepForm → PlanForm → Type 0
StepsLeadTo p [] q = p ≡ q
StepsLeadTo p (s ∷ ss) q = (p' : PlanForm) × Accepts p s p' × StepsLeadTo p' ss q

-- the steps before this one, counted from 1, are accepted, and of its conditions this is the first that fails
pub record IsRefusedAt (p : PlanForm) (ss : List StepForm) (step : ℕ) (why : Unfit) : Type 0 where
  pub done : List StepForm
  pub here : StepForm
  pub others : List StepForm
  pub steps : ss ≡ done ++ here ∷ others
  pub number : step ≡ length done + 1
  pub last : PlanForm
  pub leads : StepsLeadTo p done last
  pub fails : IsFirstToFail (StepFails last here) why

abbrev pub JudgesSteps : PlanForm → List StepForm → Result PlanForm (ℕ × Unfit) → Type 0
JudgesSteps p ss (Ok q) = StepsLeadTo p ss q
JudgesSteps p ss (Err f) = IsRefusedAt p ss f.0 f.1

-- steps give the plan to which they lead, and otherwise the first that fails and the first of its conditions that does
abbrev pub ScriptIsJudged : Type 0
ScriptIsJudged = (p : PlanForm) (ss : List StepForm) (made : Result PlanForm (ℕ × Unfit)) → IsPlan p → (script_of p ss ≡ made) ↔ JudgesSteps p ss made
