-- What a text of StreamIt with parameters means: its program, what is made of it, and the stream of its plan; or why it has none. It is
-- lexed, then read, then judged, then its plain program is made, and that is compiled.
use Rattle.std.specs.Prelude.{◌≡◌, ℕ, ℤ, pos, ◌-◌, List, map, Result, Ok, Err, slice_index_or}
use Rattle.text_tokens.specs.Cut.{units_of}
use Rattle.text_tokens.specs.Lexis.{tokens_in}
use Rattle.text_tokens.specs.Tok.{Mark, toks}
use Rattle.text_tokens.specs.declared.fault.LexFault.{LexFault}
use Rattle.text_forms.specs.AllUnits.{or_syntax}
use Rattle.text_forms.specs.TextFaults.{of_lexer}
use Rattle.text_forms.specs.declared.text_fault.TextFault.{TextFault}
use Rattle.text_forms.specs.declared.text_fault.TextFault.TheVariants as text
use Rattle.river_plan.specs.Forms.{PlanForm}
use Rattle.streamit_text.specs.Grammar.{IsText}
use Rattle.streamit_text.specs.Program as plain
use Rattle.streamit_model.specs.Unrolled.{Stream}
use Rattle.streamit_model.specs.Plan.{plan_of}
use Rattle.streamit_front.specs.Meaning as streamit
use Rattle.streamit_front.specs.declared.fault.StreamitFault.{StreamitFault}
use Rattle.streamit_front.specs.declared.fault.StreamitFault.TheVariants as inner
use Rattle.params_text.specs.Program.{ParamProgram, program_of}
use Rattle.params_text.specs.Reading.{some_units}
use Rattle.params_text.specs.Toks.{plain_text}
use Rattle.params_model.specs.declared.fault.Fault as model
use Rattle.params_model.specs.declared.fault.Fault.TheVariants as model_fault
use Rattle.params_model.specs.declared.fault.Refusal.{Refusal}
use Rattle.params_model.specs.Making.{Made}
use Rattle.params_model.specs.Judged.{elaborated_program}
use Rattle.params_front.specs.Sizes.{sizes_of}
use Rattle.params_front.specs.declared.fault.ParamFault.{ParamFault}
use Rattle.params_front.specs.declared.fault.ParamFault.TheVariants.{Text, UnknownName, NameTwice, Arity, NotConstant, Top, Range, Empty, Budget, Inner}
use Rattle.params_front.specs.declared.program.Elaborated.{Elaborated}

-- ---- WHAT IS MADE

-- a program that is accepted, and what is made of it
pub record Elaboration : Type 0 where
  pub tree : ParamProgram
  pub made : Made

-- the fault of a unit
abbrev pub fault_at : ℕ → model.Fault → ParamFault
fault_at unit model_fault.UnknownName = UnknownName unit
fault_at unit model_fault.NameTwice = NameTwice unit
fault_at unit model_fault.Arity = Arity unit
fault_at unit model_fault.NotConstant = NotConstant unit
fault_at unit model_fault.Top = Top unit
fault_at unit model_fault.Range = Range unit
fault_at unit model_fault.Empty = Empty unit
fault_at unit model_fault.Budget = Budget unit

-- the program with what is made of it, or its first fault
abbrev pub or_fault : ParamProgram → Result Made Refusal → Result Elaboration ParamFault
or_fault p (Ok m) = Ok (record { tree = p; made = m })
or_fault p (Err e) = Err (fault_at e.unit e.fault)

-- what is read is judged, and its plain program is made; the units have so many bytes
abbrev pub then_elaborated : List ℕ → Result ParamProgram TextFault → Result Elaboration ParamFault
then_elaborated sizes (Ok p) = or_fault p (elaborated_program p sizes)
then_elaborated sizes (Err fault) = Err (Text fault)

-- the tokens of a text are read
abbrev pub of_tokens : List Mark → Result Elaboration ParamFault
of_tokens marks = then_elaborated (sizes_of marks) (or_syntax (some_units (units_of (toks marks))))

-- what is lexed is read
abbrev pub then_read : Result (List Mark) LexFault → Result Elaboration ParamFault
then_read (Ok marks) = of_tokens marks
then_read (Err fault) = Err (Text (of_lexer fault))

-- the program of a text and what is made of it, or why there is none
unfoldable pub elaboration : List ℕ → Result Elaboration ParamFault
elaboration text = then_read (tokens_in text)

-- ---- WHAT IS COMPILED

-- the unit that a fault of the plain program names; one of its bytes, which no plain text has, and want of memory name none
abbrev pub unit_in : StreamitFault → ℕ
unit_in (inner.Text (text.BadByte at)) = 0
unit_in (inner.Text (text.BigNumber at)) = 0
unit_in (inner.Text (text.Syntax unit)) = unit
unit_in (inner.Text text.NoMemory) = 0
unit_in (inner.UnknownName unit) = unit
unit_in (inner.NameTwice unit) = unit
unit_in (inner.Rates unit declared counted) = unit
unit_in (inner.PeekRange unit index peek) = unit
unit_in (inner.NotConstant unit) = unit
unit_in (inner.BranchRates unit) = unit
unit_in (inner.Limit unit) = unit
unit_in (inner.Weights unit) = unit

-- of which unit the plain unit with this number, from 1, is an instance
abbrev pub source_unit : List ℕ → ℕ → ℕ
source_unit from unit = slice_index_or from (unit - 1) 0

-- a program that is accepted, its plain program, and the stream that is run
pub record Accepted : Type 0 where
  pub tree : ParamProgram
  pub program : plain.Program
  pub stream : Stream

-- the plain program is compiled, or the fault is that of an instance
abbrev pub or_inner : Elaboration → Result streamit.Accepted StreamitFault → Result Accepted ParamFault
or_inner e (Ok a) = Ok (record { tree = e.tree; program = a.program; stream = a.stream })
or_inner e (Err fault) = Err (Inner (source_unit e.made.from (unit_in fault)) fault)

abbrev pub then_compiled : Result Elaboration ParamFault → Result Accepted ParamFault
then_compiled (Ok e) = or_inner e (streamit.compiled (plain_text e.made.units))
then_compiled (Err fault) = Err fault

-- the program of a text, its plain program and its stream, or why there is none
unfoldable pub compiled : List ℕ → Result Accepted ParamFault
compiled text = then_compiled (elaboration text)

-- ---- ANSWERS

-- the program is accepted, and this is the text of what is made of it, with the unit that each is an instance of
abbrev pub WritesPlainText : Result Elaboration ParamFault → ParamProgram → List ℕ → List ℤ → Type 0
WritesPlainText meant p text from = (m : Made) × (meant ≡ Ok (record { tree = p; made = m })) × (text ≡ plain_text m.units) × (from ≡ map pos m.from)

abbrev pub Elaborates : Result Elaboration ParamFault → Elaborated → Type 0
Elaborates meant e = WritesPlainText meant (program_of e.tree) e.plain e.from

-- the text stands for the plain program that is made, and for no other
abbrev pub StandsForMade : Result Elaboration ParamFault → List ℕ → Type 0
StandsForMade (Ok e) text = IsText text e.made.units × ((q : plain.Program) → IsText text q → q ≡ e.made.units)
StandsForMade (Err fault) text = ⊥

-- the program is accepted, this is what is read of its plain text, and this is the plan of its stream
abbrev pub Plans : Result Accepted ParamFault → ParamProgram → plain.Program → PlanForm → Type 0
Plans meant p q plan = (s : Stream) × (meant ≡ Ok (record { tree = p; program = q; stream = s })) × (plan ≡ plan_of s)

-- this is why there is none; want of memory says nothing
abbrev pub Refused : {A : Type 0} → Result A ParamFault → ParamFault → Type 0
Refused meant (Text text.NoMemory) = Unit {0}
Refused meant fault = meant ≡ Err fault
