-- What is true of all texts.
use Rattle.std.specs.Prelude.{◌≡◌, ◌↔◌, ℕ, ℤ, List, [], Result, Ok, Err}
use Rattle.river_plan.specs.Valid.{IsPlan}
use Rattle.river_print.specs.Printable.{IsPrintable}
use Rattle.brooklet_model.specs.Meaning.{meaning}
use Rattle.cql_model.specs.Instants.{inputs_for, program_means}
use Rattle.cql_model.specs.Laws.{AreFiles}
use Rattle.cql_model.specs.Faults.{IsRefused, IsAccepted}
use Rattle.cql_model.specs.Plan.{plan_of}
use Rattle.cql_model.specs.declared.fault.Refusal.{Refusal}
use Rattle.cql_text.specs.Faults.{HasFault}
use Rattle.cql_text.specs.Grammar.{IsText}
use Rattle.cql_text.specs.Tree.{UnitForm}
use Rattle.cql_front.specs.declared.fault.CqlFault.{CqlFault}
use Rattle.cql_front.specs.declared.fault.CqlFault.TheVariants.{Text}
use Rattle.cql_front.specs.Meaning.{fault_at, compiled}

-- the grammar has the text for a program that is refused for this
pub record HasRefusal (text : List ℕ) (fault : CqlFault) : Type 0 where
  pub program : List UnitForm
  pub refusal : Refusal
  pub stands : IsText text program
  pub refused : IsRefused program refusal
  pub is : fault ≡ fault_at refusal.unit refusal.fault

-- the grammar has the text for a program that is accepted; or for one that is refused; or it has a first unit that is not in the
-- grammar, or a first fault of its bytes
abbrev pub Has : List ℕ → Result (List UnitForm) CqlFault → Type 0
Has text (Ok p) = IsText text p × IsAccepted p
Has text (Err (Text fault)) = HasFault text fault
Has text (Err fault) = HasRefusal text fault

-- that is what a text means
abbrev pub MeansWhatItHas : Type 0
MeansWhatItHas = (text : List ℕ) (meant : Result (List UnitForm) CqlFault) → compiled text ≡ meant ↔ Has text meant

-- the plan of a text's program is valid, and means what the program means on all files of its streams
abbrev pub PlansMean : Type 0
PlansMean =
    (text : List ℕ) (p : List UnitForm) → compiled text ≡ Ok p
    → IsPlan (plan_of p)
    × ((files : List (List (ℤ × List ℤ))) → AreFiles p files
    → meaning (plan_of p) (inputs_for files) ≡ record { outs = program_means p files; tables = [] })

-- the plan of a tree is within the bounds of River text
abbrev pub PlansArePrintable : Type 0
PlansArePrintable = (p : List UnitForm) → IsPrintable (plan_of p)
