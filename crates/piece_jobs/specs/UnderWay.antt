-- A program that is run in pieces, in a work folder.
use Rattle.std.specs.Prelude.{◌≡◌, ⊤, ℕ, ◌<◌, ◌^◌, Bool, true, false, List, length, Option, None, Some}
use Rattle.piece_files.specs.Held.{HeldFiles}
use Rattle.piece_files.specs.Inputs.{HaveInputs}
use Rattle.piece_files.specs.declared.file.JobFile.TheVariants.{Program, State, Kept}
use Rattle.piece_jobs.specs.Progress.{progress_text}
use Rattle.piece_jobs.specs.declared.progress.Progress.{Progress}

-- what is kept of an earlier call: its tables, and how many records they are of, with the header
pub record OldPart : Type 0 where
  pub tables : List ℕ
  pub records : ℕ

-- whether there is something, and how many records it is of
abbrev pub is_old : Option OldPart → Bool
is_old None = false
is_old (Some old) = true

abbrev pub records_of_old : Option OldPart → ℕ
records_of_old None = 0
records_of_old (Some old) = old.records

-- its tables stand in the folder
abbrev pub HasOld : Option OldPart → HeldFiles → Type 0
HasOld None w = ⊤
HasOld (Some old) w = w Kept ≡ Some old.tables

-- so many jobs are in this try
abbrev pub progress_of : Bool → Option OldPart → ℕ → ℕ → Progress
progress_of header old jobs turn = record { jobs = jobs; header = header; turn = turn; kept = is_old old; before = records_of_old old }

-- The work is under way: the folder has the text of the program, each of these pieces as the records of a job, from job 1 on, what is kept of an
-- earlier call, and a state that says how many jobs there are, whether the first piece begins with a header, which try of them it is, and what is kept.
pub record IsUnderWay (text : List ℕ) (header : Bool) (old : Option OldPart) (pieces : List (List ℕ)) (w : HeldFiles) : Type 0 where
  pub program : w Program ≡ Some text
  pub inputs : HaveInputs w 1 pieces
  pub has_old : HasOld old w
  pub few : length pieces < 2 ^ 32
  pub few_old : records_of_old old < 2 ^ 63
  pub turn : ℕ
  pub tries : turn < 2 ^ 32
  pub state : w State ≡ Some (progress_text (progress_of header old (length pieces) turn))
