-- A program began to be run in pieces.
use Rattle.std.specs.Prelude.{◌≡◌, ⊤, ℕ, ◌≤◌, Bool, List, length, drop, Option, None, Some}
use Rattle.csv_cuts.specs.Cut.{AreCut}
use Rattle.piece_files.specs.Held.{HeldFiles}
use Rattle.piece_files.specs.Inputs.{HaveInputs}
use Rattle.piece_files.specs.declared.file.JobFile.TheVariants as the_file
use Rattle.piece_jobs.specs.Jobs.{list_text, numbers_from, words_text}
use Rattle.piece_jobs.specs.Progress.{progress_text}
use Rattle.piece_jobs.specs.UnderWay.{IsUnderWay, progress_of}

-- The two files are there. The folder has what the file was cut into as the records of so many jobs, and the text of the program; the work is under way, in the
-- first try; the list has all jobs, in that try; and each job has its words.
pub record HasBegun (program file : Option (List ℕ)) (header : Bool) (jobs : ℕ) (w : HeldFiles) : Type 0 where
  pub text : List ℕ
  pub bytes : List ℕ
  pub pieces : List (List ℕ)
  pub program_is : program ≡ Some text
  pub file_is : file ≡ Some bytes
  pub cut : AreCut bytes header pieces
  pub count : length pieces ≡ jobs
  pub under_way : IsUnderWay text header None pieces w
  pub first : w the_file.State ≡ Some (progress_text (progress_of header None (length pieces) 1))
  pub list : w the_file.List ≡ Some (list_text 1 (numbers_from 1 (length pieces)))
  pub words : (job : ℕ) → 1 ≤ job → job ≤ length pieces → w (the_file.Words job) ≡ Some (words_text header job)

-- the same, where it is told what the folder held before; then it is told now
abbrev pub Begun : Option (List ℕ) → Option (List ℕ) → Bool → ℕ → Option HeldFiles → Option HeldFiles → Type 0
Begun program file header jobs None new = ⊤
Begun program file header jobs (Some old) None = ⊥
Begun program file header jobs (Some old) (Some w) = HasBegun program file header jobs w

-- the file is there, and the folder has what its bytes behind so many were cut into as the records of so many jobs
pub record IsCutIn (file : Option (List ℕ)) (from : ℕ) (header : Bool) (jobs : ℕ) (w : HeldFiles) : Type 0 where
  pub bytes : List ℕ
  pub pieces : List (List ℕ)
  pub file_is : file ≡ Some bytes
  pub within : from ≤ length bytes
  pub cut : AreCut (drop from bytes) header pieces
  pub count : length pieces ≡ jobs
  pub inputs : HaveInputs w 1 pieces

-- the same, where it is told what the folder held before; then it is told now
abbrev pub CutIn : Option (List ℕ) → ℕ → Bool → ℕ → Option HeldFiles → Option HeldFiles → Type 0
CutIn file from header jobs None new = ⊤
CutIn file from header jobs (Some old) None = ⊥
CutIn file from header jobs (Some old) (Some w) = IsCutIn file from header jobs w
