-- What is true of all texts.
use Rattle.std.specs.Prelude.{◌≡◌, ◌↔◌, ℕ, ℤ, List, [], ◌∷◌, Result, Ok, Err}
use Rattle.std.specs.List.{AllByRecursion}
use Rattle.river_plan.specs.Forms.{Name}
use Rattle.river_plan.specs.InTurn.{IsInTurn}
use Rattle.river_plan.specs.Valid.{IsPlan}
use Rattle.river_print.specs.Printable.{IsPrintable}
use Rattle.brooklet_model.specs.Meaning.{meaning}
use Rattle.streamit_model.specs.Plan.{plan_of}
use Rattle.streamit_model.specs.declared.fault.Fault as model
use Rattle.streamit_model.specs.Faults.{IsFaultless, IsFaultOf}
use Rattle.streamit_model.specs.Places.{places_of}
use Rattle.streamit_text.specs.Program.{Program}
use Rattle.streamit_model.specs.Meaning.{program_outputs}
use Rattle.streamit_model.specs.Judged.{Streamed, judged}
use Rattle.streamit_model.specs.Laws.{as_items}
use Rattle.streamit_text.specs.Grammar.{IsText}
use Rattle.streamit_text.specs.Faults as faults
use Rattle.streamit_front.specs.declared.fault.StreamitFault.{StreamitFault}
use Rattle.streamit_front.specs.declared.fault.StreamitFault.TheVariants.{Text}
use Rattle.streamit_front.specs.Meaning.{Accepted, fault_at, compiled}

-- the grammar has the text for a program whose first fault this is
abbrev pub HasProgramFault : List ℕ → StreamitFault → Type 0
HasProgramFault text fault = (p : Program) × (unit : ℕ) × (f : model.Fault) × IsText text p × IsFaultOf p unit f × (fault ≡ fault_at unit f)

-- the grammar has the text for a program that is accepted, whose last stream this is; or for one that has a fault; or it has a
-- first unit that is not in the grammar, or a first fault of its bytes
abbrev pub Has : List ℕ → Result Accepted StreamitFault → Type 0
Has text (Ok a) = (name : Name) × (others : Streamed) × IsText text a.program × (judged a.program ≡ Ok ((name, a.stream) ∷ others))
Has text (Err (Text fault)) = faults.HasFault text fault
Has text (Err fault) = HasProgramFault text fault

-- that is what a text means
abbrev pub MeansWhatItHas : Type 0
MeansWhatItHas = (text : List ℕ) (meant : Result Accepted StreamitFault) → compiled text ≡ meant ↔ Has text meant

-- the plan of a text's program is valid, and means what the program means
abbrev pub PlansMean : Type 0
PlansMean =
    (text : List ℕ) (a : Accepted) (xs : List ℤ) → compiled text ≡ Ok a
    → IsPlan (plan_of a.stream) × (meaning (plan_of a.stream) (as_items xs ∷ []) ≡ record { outs = as_items (program_outputs a.program xs) ∷ []; tables = [] })

-- the plan of a text's program is within the bounds of River text: what is printed of it stands for it, by the promise of the printer
abbrev pub PlansArePrintable : Type 0
PlansArePrintable = (text : List ℕ) (a : Accepted) → compiled text ≡ Ok a → IsPrintable (plan_of a.stream)

-- a text is accepted exactly where the grammar has it for a program of which no place has a fault
abbrev pub TextsAreAccepted : Type 0
TextsAreAccepted = (text : List ℕ) → ((a : Accepted) × (compiled text ≡ Ok a)) ↔ ((p : Program) × IsText text p × AllByRecursion IsFaultless (places_of p))

-- the plan of a text's program declares queues and variables in the order in which its operators first use them
abbrev pub PlansInTurn : Type 0
PlansInTurn = (text : List ℕ) (a : Accepted) → compiled text ≡ Ok a → IsInTurn (plan_of a.stream)
