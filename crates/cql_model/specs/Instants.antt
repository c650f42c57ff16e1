-- What programs mean at the instants of a run, which are all timestamps of its files.
use Rattle.std.specs.Prelude.{◌≡◌, ◌↔◌, ℤ, List, [], map}
use Rattle.std.specs.List.{AllByRecursion, Contains}
use Rattle.river_base.specs.declared.item.Item as item
pub use Rattle.river_base.specs.Instants.{instants}
use Rattle.river_base.specs.Instants.{at_instant, spread}
use Rattle.brooklet_model.specs.Fit as fit
use Rattle.brooklet_model.specs.Meaning.{meaning}
use Rattle.cql_model.specs.Plannable.{IsPlannable, KeepsLimits}
use Rattle.cql_model.specs.Laws.{AreFiles}
use Rattle.cql_model.specs.Meaning.{answers}
use Rattle.cql_text.specs.Tree.{Program}
use Rattle.cql_model.specs.Streams.{Rises}
use Rattle.cql_model.specs.Plan.{plan_of}

-- a file has a row with this timestamp
abbrev pub IsStamped : List (List (ℤ × List ℤ)) → ℤ → Type 0
IsStamped files t = (file : List (ℤ × List ℤ)) × Contains files file × (row : List ℤ) × Contains file (t, row)

-- the instants of a run: they rise, and are exactly the timestamps of its files
pub record AreInstantsOf (files : List (List (ℤ × List ℤ))) (ts : List ℤ) : Type 0 where
  pub rise : Rises ts
  pub all : (t : ℤ) → Contains ts t ↔ IsStamped files t

abbrev pub InstantsAre : Type 0
InstantsAre = (files : List (List (ℤ × List ℤ))) → AreInstantsOf files (instants files)

-- what a program means for these files: for each query, an item for each instant
abbrev pub program_means : Program → List (List (ℤ × List ℤ)) → List (List item.Item)
program_means p files = map (spread (instants files)) (answers (instants files) [] p files)

-- each of its streams has a batch at each of the instants
abbrev pub MeansAtInstants : Type 0
MeansAtInstants = (p : Program) (files : List (List (ℤ × List ℤ))) → AllByRecursion (λ out. AreInstantsOf files (fit.instants_in out)) (program_means p files)

-- the inputs of the plan
abbrev pub inputs_for : List (List (ℤ × List ℤ)) → List (List item.Item)
inputs_for files = map (λ f. spread (instants files) (at_instant f)) files

-- a plan that can be made and keeps the limits of plans means what the program means
abbrev pub PlansMean : Type 0
PlansMean =
    (p : Program) (files : List (List (ℤ × List ℤ))) → IsPlannable p → KeepsLimits (plan_of p) → AreFiles p files
    → meaning (plan_of p) (inputs_for files) ≡ record { outs = program_means p files; tables = [] }
