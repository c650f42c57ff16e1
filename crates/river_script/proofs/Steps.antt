-- One rewrite after another.
use Rattle.std.proofs.Common.{◌≡◌, ℕ, suc, ◌<◌, List, [], ◌∷◌, refl, sym, ◌∙◌, subst}
use Rattle.std.specs.Prelude.{Result, Ok, Err}
use Rattle.river_base.proofs.Options.{ok_same, not_ok}
use Rattle.river_base.specs.declared.item.Item as item
use Rattle.river_plan.specs.Forms.{PlanForm, decl_names}
use Rattle.river_plan.specs.Names.{count}
use Rattle.river_plan.specs.Valid.{IsPlan}
use Rattle.brooklet_model.specs.Typed.{AreInputs}
use Rattle.plan_edits.specs.declared.unfit.Unfit.{Unfit}
use Rattle.plan_edits.specs.Meaning.{SameOuter, SameMeaning}
use Rattle.rw_fission.proofs.FissionLaw.{fission_same}
use Rattle.plan_edits.proofs.MeaningSame.{meaning_same}
use Rattle.river_script.specs.Script.{StepForm, fusing, hoisting, splitting, after_step, then_all, script_from, ScriptKeeps, ScriptMeans}
use Rattle.rw_local.proofs.FuseSteps.{fuse_same}
use Rattle.rw_local.proofs.HoistSteps.{hoist_same}
use Rattle.brooklet_model.proofs.TypedPlan.{typed_law}

-- a valid plan of the same meaning, on all inputs that fit
abbrev pub Keeps : PlanForm → PlanForm → Type 0
Keeps p p' = IsPlan p' × SameOuter p p' × ((inputs : List (List item.Item)) → AreInputs p.inputs inputs → SameMeaning p p' inputs)

outer_refl : (p : PlanForm) → SameOuter p p
outer_refl p = record { outputs = refl; inputs = refl; tables = refl }

keeps_refl : (p : PlanForm) → IsPlan p → Keeps p p
keeps_refl p v = (v, outer_refl p, λ inputs a. record { hist = λ q lt. refl; adds = λ t test. refl })

-- one rewrite after another
pub keeps_trans : (p q r : PlanForm) → Keeps p q → Keeps q r → Keeps p r
keeps_trans p q r a b = (
  b.0,
  record { outputs = b.1.outputs ∙ a.1.outputs; inputs = b.1.inputs ∙ a.1.inputs; tables = b.1.tables ∙ a.1.tables },
  λ inputs i.
      let one = a.2 inputs i in
      let two = b.2 inputs (subst (λ ds. AreInputs ds inputs) (sym a.1.inputs) i) in
      record {
        hist = λ x lt. two.hist x (subst (λ ds. 0 < count x (decl_names ds)) (sym a.1.outputs) lt) ∙ one.hist x lt;
        adds = λ t test. two.adds t test ∙ one.adds t test;
      },
)

-- each step keeps what a plan means
pub step_keeps : (p p' : PlanForm) (s : StepForm) → IsPlan p → after_step p s ≡ Ok p' → Keeps p p'
step_keeps p p' (fusing q) v h = let k = fuse_same p p' q v h in (k.0, k.1, λ inputs a. k.2 inputs)
step_keeps p p' (hoisting l) v h = let k = hoist_same p p' l v h in (k.0, k.1, λ inputs a. k.2 inputs (typed_law p inputs v a))
step_keeps p p' (splitting l n) v h = let k = fission_same p p' l n v h in (k.0, k.1, λ inputs a. k.2 inputs (typed_law p inputs v a))

after_keeps : (n : ℕ) (p p' : PlanForm) (s : StepForm) (r : Result PlanForm Unfit) (ss : List StepForm) → IsPlan p → after_step p s ≡ r
    → then_all n r (λ q. script_from (suc n) q ss) ≡ Ok p'
    → ((q : PlanForm) → IsPlan q → script_from (suc n) q ss ≡ Ok p' → Keeps q p') → Keeps p p'
after_keeps n p p' s (Err f) ss v e h more = absurd (not_ok (n, f) p' h)
after_keeps n p p' s (Ok q) ss v e h more = let k = step_keeps p q s v e in keeps_trans p q p' k (more q k.0 h)

from_keeps : (n : ℕ) (p p' : PlanForm) (ss : List StepForm) → IsPlan p → script_from n p ss ≡ Ok p' → Keeps p p'
from_keeps n p p' [] v h = subst (Keeps p) (ok_same (Ok p) p p' refl h) (keeps_refl p v)
from_keeps n p p' (s ∷ ss) v h = after_keeps n p p' s (after_step p s) ss v refl h (λ q w g. from_keeps (suc n) q p' ss w g)

-- so a script does
pub script_law : ScriptKeeps
script_law p p' ss v h = from_keeps 1 p p' ss v h

-- tables included
pub script_means : ScriptMeans
script_means p p' ss v h = let k = script_law p p' ss v h in (k.0, k.1, λ inputs a. meaning_same p p' inputs k.1 (k.2 inputs a))
