-- What a text of CQL means: the program that it stands for, or why it has none. It is read, then judged.
use Rattle.std.specs.Prelude.{◌≡◌, ℕ, List, Option, Some, None, Result, Ok, Err}
use Rattle.text_forms.specs.declared.text_fault.TextFault.{TextFault}
use Rattle.text_forms.specs.declared.text_fault.TextFault.TheVariants.{NoMemory}
use Rattle.river_plan.specs.Forms.{PlanForm}
use Rattle.cql_model.specs.Judged.{refusal_of}
use Rattle.cql_model.specs.Plan.{plan_of}
use Rattle.cql_model.specs.declared.fault.Fault as model
use Rattle.cql_model.specs.declared.fault.Fault.TheVariants as model_fault
use Rattle.cql_model.specs.declared.fault.Refusal.{Refusal}
use Rattle.cql_text.specs.Reading.{program_in}
use Rattle.cql_text.specs.Tree.{UnitForm}
use Rattle.cql_front.specs.declared.fault.CqlFault.{CqlFault}
use Rattle.cql_front.specs.declared.fault.CqlFault.TheVariants.{Text, UnknownStream, UnknownField, AmbiguousField, NameTwice, Limit}

-- the fault of a unit
abbrev pub fault_at : ℕ → model.Fault → CqlFault
fault_at unit model_fault.UnknownStream = UnknownStream unit
fault_at unit model_fault.UnknownField = UnknownField unit
fault_at unit model_fault.AmbiguousField = AmbiguousField unit
fault_at unit model_fault.NameTwice = NameTwice unit
fault_at unit model_fault.Limit = Limit unit

-- the program, or why it is refused
abbrev pub unless_refused : List UnitForm → Option Refusal → Result (List UnitForm) CqlFault
unless_refused p None = Ok p
unless_refused p (Some r) = Err (fault_at r.unit r.fault)

-- a program is judged
abbrev pub accepted : List UnitForm → Result (List UnitForm) CqlFault
accepted p = unless_refused p (refusal_of p)

-- what is read is judged
abbrev pub then_judged : Result (List UnitForm) TextFault → Result (List UnitForm) CqlFault
then_judged (Ok p) = accepted p
then_judged (Err fault) = Err (Text fault)

-- the program of a text, or why it has none
unfoldable pub compiled : List ℕ → Result (List UnitForm) CqlFault
compiled text = then_judged (program_in text)

-- the program is accepted, and this is its plan
pub record Plans (meant : Result (List UnitForm) CqlFault) (p : List UnitForm) (plan : PlanForm) : Type 0 where
  pub accepted : meant ≡ Ok p
  pub planned : plan ≡ plan_of p

-- this is why there is no program; want of memory says nothing
abbrev pub Refused : Result (List UnitForm) CqlFault → CqlFault → Type 0
Refused meant (Text NoMemory) = Unit {0}
Refused meant fault = meant ≡ Err fault
