-- What a text of StreamIt means: the program that it stands for and the stream of its plan, or why it has none. It is read,
-- then judged.
use Rattle.std.specs.Prelude.{◌≡◌, ℕ, List, [], ◌∷◌, Result, Ok, Err}
use Rattle.text_forms.specs.declared.text_fault.TextFault.{TextFault}
use Rattle.text_forms.specs.declared.text_fault.TextFault.TheVariants.{Syntax, NoMemory}
use Rattle.river_plan.specs.Forms.{PlanForm}
use Rattle.streamit_model.specs.declared.fault.Fault as model
use Rattle.streamit_model.specs.declared.fault.Fault.TheVariants as model_fault
use Rattle.streamit_model.specs.Unrolled.{Stream}
use Rattle.streamit_model.specs.Plan.{plan_of}
use Rattle.streamit_text.specs.Program.{Program}
use Rattle.streamit_model.specs.Judged.{Streamed, judged}
use Rattle.streamit_model.specs.declared.fault.Refusal.{Refusal}
use Rattle.streamit_text.specs.Reading as reading
use Rattle.streamit_front.specs.declared.fault.StreamitFault.{StreamitFault}
use Rattle.streamit_front.specs.declared.fault.StreamitFault.TheVariants.{Text, UnknownName, NameTwice, Rates, PeekRange, NotConstant, BranchRates, Limit}
use Rattle.streamit_front.specs.declared.fault.StreamitFault.TheVariants.{Weights}

-- a program that is accepted, and the stream that it declares last, which is the one that is run
pub record Accepted : Type 0 where
  pub program : Program
  pub stream : Stream

-- the fault of a unit
abbrev pub fault_at : ℕ → model.Fault → StreamitFault
fault_at unit model_fault.UnknownName = UnknownName unit
fault_at unit model_fault.NameTwice = NameTwice unit
fault_at unit (model_fault.Rates declared counted) = Rates unit declared counted
fault_at unit (model_fault.PeekRange index peek) = PeekRange unit index peek
fault_at unit model_fault.NotConstant = NotConstant unit
fault_at unit model_fault.BranchRates = BranchRates unit
fault_at unit model_fault.Limit = Limit unit
fault_at unit model_fault.Weights = Weights unit

-- the program with the newest of its streams; a program has a unit, so it has a stream
abbrev pub with_last : Program → Streamed → Result Accepted StreamitFault
with_last p [] = Err (Text (Syntax 1))
with_last p (newest ∷ others) = Ok (record { program = p; stream = newest.1 })

-- the program with its stream, or its first fault
abbrev pub or_fault : Program → Result Streamed Refusal → Result Accepted StreamitFault
or_fault p (Ok known) = with_last p known
or_fault p (Err e) = Err (fault_at e.unit e.fault)

-- a program is judged
abbrev pub accepted : Program → Result Accepted StreamitFault
accepted p = or_fault p (judged p)

-- what is read is judged
abbrev pub then_judged : Result Program TextFault → Result Accepted StreamitFault
then_judged (Ok p) = accepted p
then_judged (Err fault) = Err (Text fault)

-- the program of a text and its stream, or why it has none
unfoldable pub compiled : List ℕ → Result Accepted StreamitFault
compiled text = then_judged (reading.program_in text)

-- the program is accepted, and this is the plan of its stream
abbrev pub Plans : Result Accepted StreamitFault → Program → PlanForm → Type 0
Plans meant p plan = (s : Stream) × (meant ≡ Ok (record { program = p; stream = s })) × (plan ≡ plan_of s)

-- this is why there is no program; want of memory says nothing
abbrev pub Refused : Result Accepted StreamitFault → StreamitFault → Type 0
Refused meant (Text NoMemory) = Unit {0}
Refused meant fault = meant ≡ Err fault
