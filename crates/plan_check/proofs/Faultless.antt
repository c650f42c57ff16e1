-- Of lists that are valid no fault is told.
use Rattle.std.proofs.Common.{◌≡◌, Option, Some, None, Err, refl, sym, ◌∙◌}
use Rattle.river_plan.specs.Forms.{PlanForm}
use Rattle.river_plan.specs.Told.{IsTold, fault_of}
use Rattle.river_plan.specs.Valid.{IsPlan}
use Rattle.river_plan.specs.declared.fault.PlanFault.{PlanFault}
use Rattle.river_plan.specs.declared.fault.PlanFault.TheVariants as plan_fault
use Rattle.river_plan.proofs.JudgeLemmas.{fault_of-is}
use Rattle.river_plan.proofs.ValidLaw.{valid-no_fault}

-- a plan that is valid has no fault
pub valid-faultless : (p : PlanForm) (f : PlanFault) → IsPlan p → (f ≡ plan_fault.NoMemory → ⊥) → IsTold p (Err f) → ⊥
valid-faultless p f valid some told = by f some told where
  none : fault_of p ≡ None
  none = fault_of-is p None (valid-no_fault p valid)

  not_some : {A : Type 0} {x : A} → ◌≡◌ {A = Option A} None (Some x) → ⊥
  not_some h = cc

  never : (g : PlanFault) → fault_of p ≡ Some g → ⊥
  never g e = not_some (sym none ∙ e)

  by : (g : PlanFault) → (g ≡ plan_fault.NoMemory → ⊥) → IsTold p (Err g) → ⊥
  by (plan_fault.P1 n) s e = never (plan_fault.P1 n) e
  by (plan_fault.P2 n) s e = never (plan_fault.P2 n) e
  by (plan_fault.P3 n) s e = never (plan_fault.P3 n) e
  by (plan_fault.P4 n) s e = never (plan_fault.P4 n) e
  by (plan_fault.P5 n) s e = never (plan_fault.P5 n) e
  by (plan_fault.P6 n) s e = never (plan_fault.P6 n) e
  by (plan_fault.P7 n) s e = never (plan_fault.P7 n) e
  by (plan_fault.P8 l n) s e = never (plan_fault.P8 l n) e
  by (plan_fault.P9 n) s e = never (plan_fault.P9 n) e
  by plan_fault.NoMemory s e = s refl

pub ruleset faultless = (valid-faultless)
