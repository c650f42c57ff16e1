-- What is answered for a program.
use Rattle.std.specs.Prelude.{◌≡◌, ◌≤◌, ℕ, ◌∷◌, nat_le, Result, Ok, Err}
use Rattle.river_plan.specs.Forms.{Name, PlanForm, plan_form}
use Rattle.river_plan.specs.declared.plan.RawPlan.{RawPlan}
use Rattle.streamit_model.specs.Unrolled.{Stream}
use Rattle.streamit_model.specs.Plan.{ops_in, plan_of}
use Rattle.streamit_model.specs.Elaborate.{demand}
use Rattle.streamit_model.specs.Judged.{Streamed, in_unit}
use Rattle.streamit_model.specs.declared.fault.Fault.TheVariants.{Limit}
use Rattle.streamit_model.specs.declared.fault.Refusal.{Refusal}
use Rattle.streamit_unroll.specs.declared.refused.RefusedUnit.{RefusedUnit}
use Rattle.streamit_unroll.specs.declared.refused.RefusedUnit.TheVariants as of_unit
use Rattle.streamit_build.specs.declared.planning.Refused.{Refused}
use Rattle.streamit_build.specs.declared.planning.Refused.TheVariants as refused
use Rattle.streamit_build.specs.declared.streams.Known.{Known}
use Rattle.streamit_build.specs.Knowing.{Knows}

-- this is why a program is refused; want of memory says nothing
abbrev pub IsWhyRefused : {A : Type 0} → Result A Refusal → Refused → Type 0
IsWhyRefused r (refused.Program e) = r ≡ Err e
IsWhyRefused r refused.NoMemory = Unit {0}

-- the fault of unit k is the program's
abbrev pub refused_in : ℕ → RefusedUnit → Refused
refused_in k (of_unit.Fault f) = refused.Program (record { unit = k; fault = f })
refused_in k of_unit.NoMemory = refused.NoMemory

-- all units are accepted, and their streams are known; or the fault is the first
abbrev pub JudgesAll : Result (Unit {0}) Refused → Known → Result Streamed Refusal → Type 0
JudgesAll (Ok u) new r = (known : Streamed) × (r ≡ Ok known) × Knows new known
JudgesAll (Err e) new r = IsWhyRefused r e

-- the limit of a plan's operators, told at unit k
abbrev pub few_in : ℕ → Stream → Result (Unit {0}) Refusal
few_in k s = in_unit k (demand (nat_le (ops_in s) 256) Limit) (λ u. Ok u)

-- the plan of a stream that is the last, in unit k
abbrev pub PlansLast : Result RawPlan Refused → ℕ → Stream → Type 0
PlansLast (Ok raw) k s = (ops_in s ≤ 256) × (plan_form raw ≡ plan_of s)
PlansLast (Err e) k s = IsWhyRefused (few_in k s) e

-- a stream with this name is the last that is known
abbrev pub KnowsLast : Known → Name → Type 0
KnowsLast ss last = (s : Stream) × (others : Streamed) × Knows ss ((last, s) ∷ others)

-- the plan of the last stream of a program that is accepted, or the first fault
abbrev pub PlansBy : {X : Type 0} → (X → PlanForm) → Result X Refused → Result Streamed Refusal → Type 0
PlansBy view (Ok x) r = (name : Name) × (s : Stream) × (others : Streamed) × (r ≡ Ok ((name, s) ∷ others)) × (view x ≡ plan_of s)
PlansBy view (Err e) r = IsWhyRefused r e
