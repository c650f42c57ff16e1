-- What is true of all texts.
use Rattle.std.specs.Prelude.{◌≡◌, ◌↔◌, ℕ, ℤ, List, [], ◌∷◌, map, take, Result, Ok, Err}
use Rattle.river_plan.specs.Valid.{IsPlan}
use Rattle.river_print.specs.Printable.{IsPrintable}
use Rattle.brooklet_model.specs.Meaning.{meaning}
use Rattle.saw_model.specs.Faults.{IsFaultOf}
use Rattle.saw_model.specs.declared.fault.Refusal.{Refusal}
use Rattle.saw_model.specs.Judged.{judged}
use Rattle.saw_model.specs.Plan.{rows_as_items}
use Rattle.saw_model.specs.Meaning.{width, program_tables}
use Rattle.saw_text.specs.Faults.{HasFault}
use Rattle.saw_text.specs.Grammar.{IsText}
use Rattle.saw_text.specs.Tree.{UnitForm}
use Rattle.saw_front.specs.declared.fault.SawFault.{SawFault}
use Rattle.saw_front.specs.declared.fault.SawFault.TheVariants.{Text}
use Rattle.saw_front.specs.Meaning.{Accepted, program_in, plan_in, fault_at, compiled}

-- the grammar has the text for units, and the first of their places that has a fault has this one, in this unit
abbrev pub HasProgramFault : List ℕ → SawFault → Type 0
HasProgramFault text fault = (us : List UnitForm) × (e : Refusal) × IsText text us × IsFaultOf us e.unit e.fault × (fault ≡ fault_at e.unit e.fault)

-- the grammar has the text for units that are accepted, or that have a fault; or it has a first unit that is not in the grammar, or a
-- first fault of its bytes
abbrev pub Has : List ℕ → Result Accepted SawFault → Type 0
Has text (Ok a) = IsText text a.units × (judged (program_in a) ≡ Ok a.read)
Has text (Err (Text fault)) = HasFault text fault
Has text (Err fault) = HasProgramFault text fault

-- that is what a text means
abbrev pub MeansWhatItHas : Type 0
MeansWhatItHas = (text : List ℕ) (meant : Result Accepted SawFault) → compiled text ≡ meant ↔ Has text meant

-- the plan of a text's program is valid, and means what the program means
abbrev pub PlansMean : Type 0
PlansMean =
    (text : List ℕ) (a : Accepted) (records : List (List ℤ)) → compiled text ≡ Ok a
    → IsPlan (plan_in a)
    × (meaning (plan_in a) (rows_as_items (map (take (width (program_in a))) records) ∷ [])
    ≡ record { outs = []; tables = program_tables (program_in a) records })

-- the plan of a text's program is within the bounds of River text: what is printed of it stands for it, by the promise of the printer
abbrev pub PlansArePrintable : Type 0
PlansArePrintable = (text : List ℕ) (a : Accepted) → compiled text ≡ Ok a → IsPrintable (plan_in a)
