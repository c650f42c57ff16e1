-- One step of merging what the jobs printed.
use Rattle.std.specs.Prelude.{◌≡◌, ⊤, ℕ, ℤ, List, [], ◌∷◌, ◌++◌, Option, None, Some}
use Rattle.piece_files.specs.Held.{HeldFiles, Put}
use Rattle.piece_files.specs.declared.file.JobFile.{JobFile}
use Rattle.piece_files.specs.declared.file.JobFile.TheVariants.{Kept, Whole, Out}
use Rattle.piece_merge.specs.Added.{HasRows, IsMergeOf}
use Rattle.piece_merge.specs.Merging.{Merging, HasAdded}
use Rattle.piece_work.specs.Held.{bytes_of}
use Rattle.piece_work.specs.declared.fault.WorkFault.{WorkFault}
use Rattle.piece_work.specs.declared.fault.WorkFault.TheVariants as why
use Rattle.river_plan.specs.Forms.{PlanForm}
use Rattle.river_plan.specs.declared.plan.TableDecl.{TableDecl}
use Rattle.piece_jobs.specs.Came.{Ended}
use Rattle.piece_jobs.specs.Looked.{AreCame}
use Rattle.piece_jobs.specs.Plan.{HasPlan}
use Rattle.piece_jobs.specs.declared.came.Ending.TheVariants.{Done}
use Rattle.piece_jobs.specs.declared.looking.Came.{Came}

-- these are the tables of the program
pub record HasTables (h : HeldFiles) (tables : List TableDecl) : Type 0 where
  pub plan : PlanForm
  pub has : HasPlan h plan
  pub are : tables ≡ plan.tables

-- the jobs came so
pub record HaveCome (h : HeldFiles) (found : List (Option Came)) : Type 0 where
  pub turns : ℕ
  pub came : AreCame h turns 1 found

-- the file has what is kept, or what a job printed that is done
pub data IsPrinted (h : HeldFiles) (file : JobFile) : Type 0 where
  IsKept : file ≡ Kept → IsPrinted h file
  IsOut : (job turn : ℕ) → file ≡ Out job turn → Ended h job turn Done → IsPrinted h file

-- so what a job printed, if it came
abbrev pub IsPrintedBy : HeldFiles → ℕ → Option Came → Type 0
IsPrintedBy h job None = ⊤
IsPrintedBy h job (Some came) = IsPrinted h (Out job came.turn)

-- what a job printed, if it came
abbrev pub out_of : HeldFiles → ℕ → Option Came → List (List ℕ)
out_of h job None = []
out_of h job (Some came) = bytes_of (h (Out job came.turn)) ∷ []

-- these texts are added, behind all that were added before
abbrev pub Adds : List (List ℕ) → Merging → Merging → Type 0
Adds outs old new = (before : List (List ℕ)) → HasAdded old before → HasAdded new (before ++ outs)

-- why a text is not added: it has no rows of the tables
abbrev pub WhyNotAdded : List TableDecl → List ℕ → WorkFault → Type 0
WhyNotAdded tables text why.Other = (rows : List (List (List ℤ))) → HasRows tables text rows → ⊥
WhyNotAdded tables text why.NoMemory = ⊤
WhyNotAdded tables text _ = ⊥

-- the merge of these texts is written
pub record PutMerge (tables : List TableDecl) (outs : List (List ℕ)) (h : HeldFiles) (w : Option HeldFiles) : Type 0 where
  pub text : List ℕ
  pub merge : IsMergeOf tables outs text
  pub put : Put Whole text (Some h) w
