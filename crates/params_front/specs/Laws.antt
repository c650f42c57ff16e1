-- What is true of all texts.
use Rattle.std.specs.Prelude.{◌≡◌, ◌⊎◌, ◌↔◌, ℕ, ℤ, List, [], ◌∷◌, Result, Ok, Err}
use Rattle.std.specs.List.{AllByRecursion}
use Rattle.text_forms.specs.TextFaults.{HasTextFault}
use Rattle.river_plan.specs.InTurn.{IsInTurn}
use Rattle.river_plan.specs.Valid.{IsPlan}
use Rattle.river_print.specs.Printable.{IsPrintable}
use Rattle.brooklet_model.specs.Meaning.{meaning}
use Rattle.streamit_model.specs.Plan.{plan_of}
use Rattle.streamit_model.specs.Laws.{as_items}
use Rattle.streamit_model.specs.Meaning.{program_outputs}
use Rattle.streamit_front.specs.Laws as streamit
use Rattle.streamit_front.specs.declared.fault.StreamitFault.{StreamitFault}
use Rattle.params_text.specs.Grammar.{IsText}
use Rattle.params_text.specs.Laws.{IsBadAt}
use Rattle.params_text.specs.Program.{ParamProgram}
use Rattle.params_text.specs.Toks.{plain_text}
use Rattle.params_model.specs.declared.fault.Fault as model
use Rattle.params_model.specs.Faults.{IsFaultless, IsFaultOf}
use Rattle.params_model.specs.Judged.{source_units, top_judged, elaborated_program}
use Rattle.params_model.specs.Making.{Made, on_fine, last_made}
use Rattle.params_model.specs.Meaning.{params_outputs}
use Rattle.params_model.specs.Places.{places_of}
use Rattle.params_front.specs.Sizes.{sizes_of}
use Rattle.params_front.specs.declared.fault.ParamFault.{ParamFault}
use Rattle.params_front.specs.declared.fault.ParamFault.TheVariants.{Text, Inner}
use Rattle.params_front.specs.Meaning.{Elaboration, Accepted, fault_at, unit_in, source_unit, elaboration, compiled}

-- this is the first fault of a program whose units have so many bytes: that of the first place that has one; or no place has one, and
-- the last stream has parameters, or this is the first in the order in which instances are made
abbrev pub IsProgramFault : ParamProgram → List ℕ → ℕ → model.Fault → Type 0
IsProgramFault p sizes unit f =
    IsFaultOf p unit f
    ⊎ (AllByRecursion IsFaultless (places_of p)
    × (on_fine (top_judged (source_units p sizes)) (λ x. last_made (source_units p sizes)) ≡ Err (record { unit = unit; fault = f })))

-- the grammar has the text for a program whose first fault this is
pub record HasProgramFault (text : List ℕ) (fault : ParamFault) : Type 0 where
  pub tree : ParamProgram
  pub unit : ℕ
  pub told : model.Fault
  pub stands : IsText text tree
  pub first : IsProgramFault tree (sizes_of stands.marks) unit told
  pub is : fault ≡ fault_at unit told

-- the grammar has the text for a program, and this is made of it; or the program has a fault; or the text has a first unit that is not in
-- the grammar, or a first fault of its bytes
abbrev pub HasMade : List ℕ → Result Elaboration ParamFault → Type 0
HasMade text (Ok e) = (t : IsText text e.tree) × (elaborated_program e.tree (sizes_of t.marks) ≡ Ok e.made)
HasMade text (Err (Text fault)) = HasTextFault (IsBadAt text) text fault
HasMade text (Err (Inner unit fault)) = ⊥
HasMade text (Err fault) = HasProgramFault text fault

-- that is what is made of a text
abbrev pub ElaborationHas : Type 0
ElaborationHas = (text : List ℕ) (meant : Result Elaboration ParamFault) → elaboration text ≡ meant ↔ HasMade text meant

-- the plain text of what is made has this, by StreamIt's own law
abbrev pub HasInner : List ℕ → ℕ → StreamitFault → Type 0
HasInner text unit fault =
    (e : Elaboration) × HasMade text (Ok e) × streamit.Has (plain_text e.made.units) (Err fault) × (unit ≡ source_unit e.made.from (unit_in fault))

-- a program is made of the text, and its plain text has this program and stream; or it has a fault, which is that of an instance; or
-- nothing is made
abbrev pub Has : List ℕ → Result Accepted ParamFault → Type 0
Has text (Ok a) =
    (m : Made) × HasMade text (Ok (record { tree = a.tree; made = m }))
    × streamit.Has (plain_text m.units) (Ok (record { program = a.program; stream = a.stream }))
Has text (Err (Inner unit fault)) = HasInner text unit fault
Has text (Err fault) = HasMade text (Err fault)

-- that is what a text means
abbrev pub MeansWhatItHas : Type 0
MeansWhatItHas = (text : List ℕ) (meant : Result Accepted ParamFault) → compiled text ≡ meant ↔ Has text meant

-- the plain program of a text that is accepted gives what the program gives
abbrev pub PlainMeans : Type 0
PlainMeans = (text : List ℕ) (a : Accepted) (xs : List ℤ) → compiled text ≡ Ok a → program_outputs a.program xs ≡ params_outputs a.tree xs

-- the plan of a text's program is valid, and means what the program means
abbrev pub PlansMean : Type 0
PlansMean =
    (text : List ℕ) (a : Accepted) (xs : List ℤ) → compiled text ≡ Ok a
    → IsPlan (plan_of a.stream) × (meaning (plan_of a.stream) (as_items xs ∷ []) ≡ record { outs = as_items (params_outputs a.tree xs) ∷ []; tables = [] })

-- the plan of a text's program declares queues and variables in the order in which its operators first use them
abbrev pub PlansInTurn : Type 0
PlansInTurn = (text : List ℕ) (a : Accepted) → compiled text ≡ Ok a → IsInTurn (plan_of a.stream)

-- it is within the bounds of River text
abbrev pub PlansArePrintable : Type 0
PlansArePrintable = (text : List ℕ) (a : Accepted) → compiled text ≡ Ok a → IsPrintable (plan_of a.stream)
