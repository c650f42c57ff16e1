-- What is made of the units of a program.
use Rattle.std.specs.Prelude.{◌≡◌, Result, Ok, Err}
use Rattle.work_code.specs.Steps.{Steps}
use Rattle.river_plan.specs.Forms.{PlanForm}
use Rattle.saw_model.specs.declared.fault.Refusal.{Refusal}
use Rattle.saw_model.specs.Elaborate.{At}
use Rattle.saw_model.specs.Plan.{plan_of}
use Rattle.saw_text.specs.Tree.{Program}
use Rattle.saw_front.specs.declared.refused.Refused.{Refused}
use Rattle.saw_front.specs.declared.refused.Refused.TheVariants as refused

-- this is why a program is refused; want of memory says nothing
abbrev pub IsWhyRefused : {A : Type 0} → Result A Refusal → Refused → Type 0
IsWhyRefused r (refused.Program refusal) = r ≡ Err refusal
IsWhyRefused r refused.NoMemory = Unit {0}

-- the plan of a program that is accepted, in the view of what was made; or why it is refused
abbrev pub PlansBy : {X : Type 0} → (X → PlanForm) → Result X Refused → Program → Result (Steps × At) Refusal → Type 0
PlansBy view (Ok x) p r = (read : Steps × At) × (r ≡ Ok read) × (view x ≡ plan_of p read)
PlansBy view (Err e) p r = IsWhyRefused r e
