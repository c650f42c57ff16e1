-- What is to be done next in a work folder, and what is written in the end.
use Rattle.std.specs.Prelude.{◌≡◌, ◌⊎◌, ⊤, ℕ, suc, ◌+◌, ◌<◌, ◌≤◌, ℤ, Bool, true, false, List, [], ◌∷◌, ◌++◌, length, codes, Option, None, Some, Err, IfSome, MatchOption}
use Rattle.std.specs.List.{AllByRecursion}
use Rattle.csv_cuts.specs.Faults.{IsOfRecord, moved}
use Rattle.csv_streams.specs.FaultWords.{in_words}
use Rattle.csv_streams.specs.Rows.{rows_of_file}
use Rattle.csv_streams.specs.declared.fault.InFault.{InFault}
use Rattle.piece_files.specs.Held.{HeldFiles, Put}
use Rattle.piece_files.specs.declared.file.JobFile.{JobFile}
use Rattle.piece_files.specs.declared.file.JobFile.TheVariants.{Program, State, List as JobList, Kept, Whole, Input, Out, Err as Told}
use Rattle.piece_keep.specs.Fed.{records_held}
use Rattle.piece_merge.specs.Added.{IsMergeOf, HasRows}
use Rattle.piece_work.specs.declared.fault.WorkFault.{WorkFault}
use Rattle.piece_work.specs.declared.fault.WorkFault.TheVariants as why
use Rattle.piece_work.specs.Faults.{most_file}
use Rattle.piece_work.specs.Held.{bytes_of}
use Rattle.river_outside.specs.Fetched.{FetchesAll, IsLarger}
use Rattle.river_plan.specs.Forms.{PlanForm}
use Rattle.saw_model.specs.Meaning.{width}
use Rattle.saw_front.specs.Meaning.{program_in}
use Rattle.piece_jobs.specs.Came.{Ended}
use Rattle.piece_jobs.specs.Jobs.{has_header, lacking, list_text}
use Rattle.piece_jobs.specs.Looked.{AreCame}
use Rattle.piece_jobs.specs.Plan.{HasPlan, HasNoPlan, most_text}
use Rattle.piece_jobs.specs.Progress.{HasCounts, SaysProgress, progress_text}
use Rattle.piece_jobs.specs.Verdict.{IsThere, IsDone, IsVerdict, BehindSome}
use Rattle.piece_jobs.specs.declared.came.Ending.TheVariants.{Done}
use Rattle.piece_jobs.specs.declared.looking.Came.{Came}
use Rattle.piece_jobs.specs.declared.going_on.Next.{Next}
use Rattle.piece_jobs.specs.declared.going_on.Next.TheVariants as next
use Rattle.piece_jobs.specs.declared.progress.Progress.{Progress}
use Rattle.piece_jobs.specs.declared.verdict.Verdict.TheVariants as verdict

-- WHERE THE WORK IS

-- the folder says how far the work is
pub record ReadsProgress (h : HeldFiles) (p : Progress) : Type 0 where
  pub text : List ℕ
  pub reads : FetchesAll (h State) most_file text
  pub says : SaysProgress text p

-- the same work, in the next try
abbrev pub next_turn : Progress → Progress
next_turn p = record { jobs = p.jobs; header = p.header; turn = p.turn + 1; kept = p.kept; before = p.before }

-- The progress says the next try, the list has the jobs that have not come, and no other file is changed.
pub record IsRetried (h : HeldFiles) (p : Progress) (found : List (Option Came)) (w : HeldFiles) : Type 0 where
  pub state : w State ≡ Some (progress_text (next_turn p))
  pub list : w JobList ≡ Some (list_text (p.turn + 1) (lacking 1 found))
  pub others : (other : JobFile) → (other ≡ State → ⊥) → (other ≡ JobList → ⊥) → w other ≡ h other

-- the list and the progress are written so, and no other file is changed
pub record PutBoth (list state : List ℕ) (h w : HeldFiles) : Type 0 where
  pub state_is : w State ≡ Some state
  pub list_is : w JobList ≡ Some list
  pub others : (other : JobFile) → (other ≡ State → ⊥) → (other ≡ JobList → ⊥) → w other ≡ h other

-- WHAT IS WRITTEN IN THE END

-- what the jobs from this one on printed that came
abbrev pub outs_of : HeldFiles → ℕ → List (Option Came) → List (List ℕ)
outs_of h job [] = []
outs_of h job (None ∷ cs) = outs_of h (suc job) cs
outs_of h job (Some came ∷ cs) = bytes_of (h (Out job came.turn)) ∷ outs_of h (suc job) cs

-- what is kept of an earlier call, if anything is, stands before them
abbrev pub kept_texts : HeldFiles → Bool → List (List ℕ)
kept_texts h true = bytes_of (h Kept) ∷ []
kept_texts h false = []

-- The tables of all of that are written.
pub record IsFinished (h : HeldFiles) (kept : Bool) (found : List (Option Came)) (w : Option HeldFiles) : Type 0 where
  pub plan : PlanForm
  pub has : HasPlan h plan
  pub text : List ℕ
  pub merge : IsMergeOf plan.tables (kept_texts h kept ++ outs_of h 1 found) text
  pub put : Put Whole text (Some h) w

-- WHAT IS TOLD OF A REFUSED JOB

-- The records of the job have this fault for the program, and it is that of a record. They may begin with the header.
pub record HasFaultOf (h : HeldFiles) (begins : Bool) (job : ℕ) (f : InFault) : Type 0 where
  pub plan : PlanForm
  pub has : HasPlan h plan
  pub piece : List ℕ
  pub reads : FetchesAll (h (Input job)) most_file piece
  pub fault : rows_of_file piece (width (program_in has.is.program)) begins true ≡ Err f
  pub of_record : IsOfRecord f

abbrev pub HasFault : HeldFiles → Bool → ℕ → InFault → Type 0
HasFault h header job f = HasFaultOf h (has_header header job) job f

-- what is told of a fault, of a record before which so many records more stand
abbrev pub fault_text : ℕ → InFault → List ℕ
fault_text before f = codes "refused: input in: " ++ (in_words (moved before f) ++ codes "\n")

-- What is told where job number `before` + 1 is the first that was refused: the fault of its record, with the record's number in the
-- whole file, where `kept` records stand before those of the first job; or, where there is none, what the job told.
pub data IsTold (h : HeldFiles) (header : Bool) (kept before turn : ℕ) (told : List ℕ) : Type 0 where
  OfRecord : (f : InFault) → HasFault h header (before + 1) f → told ≡ fault_text (kept + records_held h before) f → IsTold h header kept before turn told
  AsTold : ((f : InFault) → HasFault h header (before + 1) f → ⊥) → FetchesAll (h (Told (before + 1) turn)) most_file told → IsTold h header kept before turn told

-- WHAT IS NEXT

abbrev pub Follows : HeldFiles → Option HeldFiles → Progress → List (Option Came) → Next → Type 0
Follows h w p found next.Again = (p.turn < 3) × (place : ℕ) × BehindSome IsThere place None found × MatchOption w ⊥ (IsRetried h p found)
Follows h w p found (next.Lost job) = (3 ≤ p.turn) × (place : ℕ) × BehindSome IsThere place None found × (job ≡ place + 1) × (w ≡ Some h)
Follows h w p found (next.Refused told) =
    (place turn : ℕ) × IsVerdict found (verdict.Refused place turn) × IsTold h p.header p.before place turn told × (w ≡ Some h)
Follows h w p found next.Done = AllByRecursion IsDone found × IsFinished h p.kept found w

-- The folder says how far the work is, and so it is next: some jobs are run once more, or one of them is lost, since it did not come in
-- three tries; otherwise all have come, and the first that was refused is told; otherwise all are done, and what comes of it is written.
pub record IsNext (h : HeldFiles) (w : Option HeldFiles) (next : Next) : Type 0 where
  pub progress : Progress
  pub reads : ReadsProgress h progress
  pub found : List (Option Came)
  pub many : length found ≡ progress.jobs
  pub came : AreCame h progress.turn 1 found
  pub follows : Follows h w progress found next

-- WHY NOT

-- a file is not there that has to be
abbrev pub IsLacking : HeldFiles → Type 0
IsLacking h = (h State ≡ None) ⊎ ((h Program ≡ None) ⊎ (h Kept ≡ None))

-- a file has more bytes than are read
abbrev pub IsTooLarge : HeldFiles → Type 0
IsTooLarge h =
    IsLarger (h State) most_file ⊎ (IsLarger (h Program) most_text ⊎ (IsLarger (h Kept) most_file ⊎ ((job : ℕ) × IsLarger (h (Input job)) most_file)))

-- the progress is none
pub record SaysNothing (h : HeldFiles) : Type 0 where
  pub text : List ℕ
  pub reads : FetchesAll (h State) most_file text
  pub none : (p : Progress) → HasCounts p → SaysProgress text p → ⊥

-- a job came whole, or something is kept, that no run of the program prints
pub record HasStrangeText (h : HeldFiles) : Type 0 where
  pub plan : PlanForm
  pub has : HasPlan h plan
  pub text : List ℕ
  pub is : FetchesAll (h Kept) most_file text ⊎ ((job turn : ℕ) × Ended h job turn Done × FetchesAll (h (Out job turn)) most_file text)
  pub none : (rows : List (List (List ℤ))) → HasRows plan.tables text rows → ⊥

-- Why it is not known what is next. In it `rose` says that the folder's count of faults rose; want of memory is free.
abbrev pub WhyNotNext : Option HeldFiles → Type 0 → WorkFault → Type 0
WhyNotNext held rose why.Absent = MatchOption held rose IsLacking
WhyNotNext held rose why.Unread = rose
WhyNotNext held rose why.Large = IfSome held IsTooLarge
WhyNotNext held rose why.NoMemory = ⊤
WhyNotNext held rose why.Unwritten = rose
WhyNotNext held rose why.Program = IfSome held HasNoPlan
WhyNotNext held rose why.Other = IfSome held (λ h. SaysNothing h ⊎ HasStrangeText h)
