-- What is kept for the next call.
use Rattle.std.specs.Prelude.{◌≡◌, ⊤, ◌⊎◌, ℕ, ◌-◌, ◌<◌, ◌≤◌, Bool, List, ◌++◌, length, take, codes, Option, None, Some}
use Rattle.std.specs.List.{AllByRecursion}
use Rattle.piece_files.specs.Held.{HeldFiles}
use Rattle.piece_files.specs.declared.file.JobFile.{JobFile}
use Rattle.piece_files.specs.declared.file.JobFile.TheVariants.{State, Kept, Mark}
use Rattle.piece_keep.specs.Mark.{sum_of}
use Rattle.piece_merge.specs.Added.{IsMergeOf}
use Rattle.piece_work.specs.Faults.{most_file}
use Rattle.piece_work.specs.declared.fault.WorkFault.{WorkFault}
use Rattle.piece_work.specs.declared.fault.WorkFault.TheVariants as why
use Rattle.river_outside.specs.Fetched.{FetchesAll}
use Rattle.river_plan.specs.Forms.{PlanForm}
use Rattle.piece_jobs.specs.Fetched.{WhyUnfetched}
use Rattle.piece_jobs.specs.Looked.{AreCame}
use Rattle.piece_jobs.specs.Next.{ReadsProgress, WhyNotNext, kept_texts, outs_of}
use Rattle.piece_jobs.specs.Plan.{HasPlan}
use Rattle.piece_jobs.specs.Verdict.{IsDone}
use Rattle.piece_jobs.specs.declared.going_on.Next.{Next}
use Rattle.piece_jobs.specs.declared.going_on.Next.TheVariants as next
use Rattle.piece_jobs.specs.declared.looking.Came.{Came}
use Rattle.piece_jobs.specs.declared.progress.Progress.{Progress}

-- these tables are kept, under this mark, and no other file of the folder is changed
pub record IsPutKept (tables mark : List ℕ) (old new : HeldFiles) : Type 0 where
  pub tables_are : new Kept ≡ Some tables
  pub mark_is : new State ≡ Some mark
  pub others : (other : JobFile) → (other ≡ State → ⊥) → (other ≡ Kept → ⊥) → new other ≡ old other

-- the same, where it is told what is held, before and after
abbrev pub PutKept : List ℕ → List ℕ → Option HeldFiles → Option HeldFiles → Type 0
PutKept tables mark None new = new ≡ None
PutKept tables mark (Some old) None = ⊥
PutKept tables mark (Some old) (Some new) = IsPutKept tables mark old new

-- They were to be kept, and were not: the mark is what it was, or these tables stand there. So no mark stands over older tables than its own.
abbrev pub MaybePutKept : List ℕ → Option HeldFiles → Option HeldFiles → Type 0
MaybePutKept tables None new = new ≡ None
MaybePutKept tables (Some old) None = ⊥
MaybePutKept tables (Some old) (Some new) = (new State ≡ old State) ⊎ (new Kept ≡ Some tables)

-- The tables of what is kept of an earlier call, if anything is, and of what these jobs printed are kept. The mark is what it begins with, and their sum.
pub record IsKeptFrom (h : HeldFiles) (kept : Bool) (found : List (Option Came)) (front : List ℕ) (old new : Option HeldFiles) : Type 0 where
  pub plan : PlanForm
  pub has : HasPlan h plan
  pub tables : List ℕ
  pub merge : IsMergeOf plan.tables (kept_texts h kept ++ outs_of h 1 found) tables
  pub put : PutKept tables (front ++ (sum_of tables ++ codes "\n")) old new

-- why nothing was put: the folder failed, which says `lost`
abbrev pub WhyUnkept : Type 0 → WorkFault → Type 0
WhyUnkept lost why.Unwritten = lost
WhyUnkept lost why.NoMemory = ⊤
WhyUnkept lost _ = ⊥

-- Why nothing is kept: what was printed is not merged; the folder does not say what the mark begins with; or nothing was put.
abbrev pub WhyNotKept : Option HeldFiles → Type 0 → Type 0 → WorkFault → Type 0
WhyNotKept held rose lost fault = WhyNotNext held rose fault ⊎ (WhyUnfetched held rose Mark fault ⊎ WhyUnkept lost fault)

-- What is kept where all jobs are done: nothing more where there is one job. Otherwise the tables of what is kept of an earlier call, if anything is,
-- and of what all jobs but the last printed; the folder says what their mark begins with.
pub data IsKept (h : HeldFiles) (kept : Bool) (found : List (Option Came)) (old new : Option HeldFiles) : Type 0 where
  Alone : length found < 2 → new ≡ old → IsKept h kept found old new
  Front : (front : List ℕ) → 2 ≤ length found → FetchesAll (h Mark) most_file front → IsKeptFrom h kept (take (length found - 1) found) front old new
      → IsKept h kept found old new

-- something is kept only where all jobs are done
abbrev pub KeepsBy : HeldFiles → Progress → List (Option Came) → Option HeldFiles → Option HeldFiles → Next → Type 0
KeepsBy h p found old new next.Done = IsKept h p.kept found old new
KeepsBy h p found old new next.Again = new ≡ old
KeepsBy h p found old new (next.Lost job) = new ≡ old
KeepsBy h p found old new (next.Refused told) = new ≡ old

-- the folder says how far the work is, all jobs are done, and so it is kept
pub record HasKept (h : HeldFiles) (old new : Option HeldFiles) : Type 0 where
  pub progress : Progress
  pub reads : ReadsProgress h progress
  pub found : List (Option Came)
  pub many : length found ≡ progress.jobs
  pub came : AreCame h progress.turn 1 found
  pub done : AllByRecursion IsDone found
  pub kept : IsKept h progress.kept found old new

abbrev pub KeepsNext : HeldFiles → Option HeldFiles → Option HeldFiles → Next → Type 0
KeepsNext h old new next.Done = HasKept h old new
KeepsNext h old new next.Again = new ≡ old
KeepsNext h old new (next.Lost job) = new ≡ old
KeepsNext h old new (next.Refused told) = new ≡ old
