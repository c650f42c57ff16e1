-- The lists that are made are those of a plan that is valid.
use Rattle.std.proofs.Common.{◌≡◌, [], Ok, sym, ◌∙◌, subst}
use Rattle.river_plan.specs.Forms.{PlanForm, plan_form}
use Rattle.river_plan.specs.Valid.{IsPlan}
use Rattle.river_plan.specs.declared.plan.RawPlan.{RawPlan}
use Rattle.streamit_text.specs.Program.{Program}
use Rattle.streamit_model.specs.Judged.{judged}
use Rattle.streamit_model.specs.Shallow.{AreShallowUnits}
use Rattle.streamit_model.proofs.Programs.{programs_mean}
use Rattle.streamit_build.specs.Planned.{PlansBy}

-- the plan of a program that is accepted is valid
pub planned-valid : (p : Program) (raw : RawPlan) → AreShallowUnits p → PlansBy plan_form (Ok raw) (judged p) → IsPlan (plan_form raw)
planned-valid p raw low h = subst IsPlan (sym h.4) (programs_mean p h.0 h.1 h.2 [] low h.3).0

-- and what is checked of it is its plan
pub planned-checked : (p : Program) (raw : RawPlan) (plan : PlanForm) → PlansBy plan_form (Ok raw) (judged p) → plan ≡ plan_form raw
    → PlansBy (λ q. q) (Ok plan) (judged p)
planned-checked p raw plan h is = (h.0, h.1, h.2, h.3, is ∙ h.4)

pub ruleset plans = (planned-valid, planned-checked)
