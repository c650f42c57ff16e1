-- Rewrites one after another.
use Rattle.std.specs.Prelude.{◌≡◌, ℕ, suc, Result, Ok, Err, List, [], ◌∷◌}
use Rattle.river_base.specs.declared.item.Item as item
use Rattle.river_plan.specs.Forms.{Name, PlanForm}
use Rattle.river_plan.specs.Valid.{IsPlan}
use Rattle.river_print.specs.Printable.{IsPrintable}
use Rattle.brooklet_model.specs.Meaning.{meaning}
use Rattle.brooklet_model.specs.Typed.{AreInputs}
use Rattle.plan_edits.specs.declared.unfit.Unfit.{Unfit}
use Rattle.plan_edits.specs.Meaning.{SameOuter, SameMeaning}
use Rattle.rw_local.specs.Fuse.{fuse_of}
use Rattle.rw_local.specs.Hoist.{hoist_of}
use Rattle.rw_fission.specs.Asked.{fission_of}

-- a step of a script: the writer and the reader of a queue are fused; the selection of a
-- label is hoisted; the operator of a label is split into so many
pub data StepForm : Type 0 where
  fusing : Name → StepForm
  hoisting : Name → StepForm
  splitting : Name → ℕ → StepForm

-- the plan after a step, or the first condition that fails
abbrev pub after_step : PlanForm → StepForm → Result PlanForm Unfit
after_step p (fusing q) = fuse_of p q
after_step p (hoisting l) = hoist_of p l
after_step p (splitting l n) = fission_of p l n

-- where the step is accepted, what is said of its result
abbrev pub then_all : ℕ → Result PlanForm Unfit → (PlanForm → Result PlanForm (ℕ × Unfit)) → Result PlanForm (ℕ × Unfit)
then_all n (Err f) more = Err (n, f)
then_all n (Ok p) more = more p

-- the last plan, or the number of the first step that fails and its condition; the first step has this number
abbrev pub script_from : ℕ → PlanForm → List StepForm → Result PlanForm (ℕ × Unfit)
script_from n p [] = Ok p
script_from n p (s ∷ ss) = then_all n (after_step p s) (λ q. script_from (suc n) q ss)

abbrev pub script_of : PlanForm → List StepForm → Result PlanForm (ℕ × Unfit)
script_of p ss = script_from 1 p ss

-- What a script makes is a valid plan of the same inputs, outputs and tables and of the same meaning, on all inputs that fit.
abbrev pub ScriptKeeps : Type 0
ScriptKeeps =
    (p p' : PlanForm) (ss : List StepForm) → IsPlan p → script_of p ss ≡ Ok p'
    → IsPlan p' × SameOuter p p' × ((inputs : List (List item.Item)) → AreInputs p.inputs inputs → SameMeaning p p' inputs)

-- So it has the plan's meaning: the same items at each output, and the same rows in each table.
abbrev pub ScriptMeans : Type 0
ScriptMeans =
    (p p' : PlanForm) (ss : List StepForm) → IsPlan p → script_of p ss ≡ Ok p'
    → IsPlan p' × SameOuter p p' × ((inputs : List (List item.Item)) → AreInputs p.inputs inputs → meaning p' inputs ≡ meaning p inputs)

-- And it keeps a plan within the two bounds of River text, so that what is printed of it stands for it.
abbrev pub ScriptIsPrintable : Type 0
ScriptIsPrintable = (p p' : PlanForm) (ss : List StepForm) → IsPrintable p → script_of p ss ≡ Ok p' → IsPrintable p'
