-- What a program means, in its own language.
use Rattle.std.specs.Prelude.{◌≡◌, ℕ, pos, List, ◌++◌, map, Bool, Result, Ok, Err}
use Rattle.kern_tables.specs.Kept.{rows_of as table_rows}
use Rattle.brooklet_step.specs.declared.outcome.Outcome.{Outcome}
use Rattle.csv_streams.specs.Outcome.{outputs_text, tables_text, firings_text, asked_counts}
use Rattle.river_plan.specs.Caps.{AreCaps}
use Rattle.river_plan.specs.declared.caps.Cap.{Cap}
use Rattle.river_plan.specs.declared.plan.Decl.{Decl}
use Rattle.river_plan.specs.Forms.{Name, PlanForm, decl_names, table_names, labels}
use Rattle.brooklet_model.specs.Histories.{firings}
use Rattle.brooklet_model.specs.Meaning.{Results, meaning}
use Rattle.river_road.specs.Contents.{AreContents}
use Rattle.river_road.specs.Inputs.{all_items}
use Rattle.river_road.specs.Text.{program_refused}
use Rattle.river_road.specs.declared.content.FileContent.{FileContent}
use Rattle.river_road.specs.declared.language.Compiled.{Compiled}

-- a program: its inputs, the names of its outputs and of its tables, what these have for the files of its inputs, its plan, and the
-- capacities that it gives to queues of its plan
pub record SourceProgram : Type 0 where
  pub inputs : List Decl
  pub outputs : List Name
  pub tables : List Name
  pub means : List FileContent → Results
  pub plan : PlanForm
  pub caps : List Cap

-- a plan that may be run in place of the program: it has the same inputs, outputs and tables, and means the same for all that
-- the files of its inputs may have
pub record IsPlanOf (s : SourceProgram) (p : PlanForm) : Type 0 where
  pub plan : p ≡ s.plan
  pub inputs : p.inputs ≡ s.inputs
  pub outputs : decl_names p.outputs ≡ s.outputs
  pub tables : table_names p.tables ≡ s.tables
  pub means : (files : List FileContent) → AreContents p.inputs files → meaning p (all_items files) ≡ s.means files

-- such a plan, and the capacities that the program gives to its queues
pub record IsPlanned (caps : List Cap) (s : SourceProgram) (p : PlanForm) : Type 0 where
  pub plan : IsPlanOf s p
  pub caps_are : caps ≡ s.caps
  pub fit : AreCaps caps

-- what was compiled: such a plan, its capacities, and the program as it was read, of which the language says that it has this meaning
pub record IsCompiled {P : Type 0} (stands : SourceProgram → P → Type 0) (s : SourceProgram) (c : Compiled P) : Type 0 where
  pub planned : IsPlanned c.caps s c.plan
  pub program : stands s c.program

-- there is such a program
abbrev pub HasSource : {P : Type 0} → (SourceProgram → P → Type 0) → Compiled P → Type 0
HasSource stands c = (s : SourceProgram) × IsCompiled stands s c

-- the program of what was read, or the text that refuses it
abbrev pub source_or_refused : {A F : Type 0} → (A → SourceProgram) → (F → List ℕ) → Result A F → Result SourceProgram (List ℕ)
source_or_refused source words (Ok x) = Ok (source x)
source_or_refused source words (Err fault) = Err (program_refused (words fault))

-- what is given is what is meant
pub record GivesResults (o : Outcome) (r : Results) : Type 0 where
  pub outs : o.outs ≡ r.outs
  pub tables : map table_rows o.tables ≡ r.tables

-- what is printed for the files of a program's inputs: its outputs, its tables, and then the firings of its plan where they are
-- asked for
abbrev pub printed : SourceProgram → Bool → List FileContent → List ℕ
printed s counted files =
    outputs_text s.outputs (s.means files).outs
    ++ (tables_text s.tables (s.means files).tables ++ firings_text (labels s.plan.ops) (asked_counts counted (map pos (firings s.plan (all_items files)))))
