-- The files of jobs that are to be run.
use Rattle.std.specs.Prelude.{◌≡◌, ℕ, ◌≤◌, Bool, true, false, List, Option, None, Some}
use Rattle.piece_files.specs.Held.{HeldFiles}
use Rattle.piece_files.specs.declared.file.JobFile.{JobFile}
use Rattle.piece_files.specs.declared.file.JobFile.TheVariants as file
use Rattle.piece_jobs.specs.Jobs.{list_text, numbers_from, words_text}
use Rattle.piece_jobs.specs.Progress.{progress_text}
use Rattle.piece_jobs.specs.declared.progress.Progress.{Progress}

-- the jobs up to this one have their words
abbrev pub HaveWords : Bool → ℕ → HeldFiles → Type 0
HaveWords header jobs w = (job : ℕ) → 1 ≤ job → job ≤ jobs → w (file.Words job) ≡ Some (words_text header job)

-- the words of a job
abbrev pub is_words : JobFile → Bool
is_words file.Program = false
is_words file.State = false
is_words file.List = false
is_words file.Kept = false
is_words file.Mark = false
is_words file.Whole = false
is_words (file.Words job) = true
is_words (file.Input job) = false
is_words (file.Out job turn) = false
is_words (file.Err job turn) = false
is_words (file.Status job turn) = false

-- the jobs have their words, and all other files hold what they held
pub record AreWordsLaid (header : Bool) (jobs : ℕ) (old new : HeldFiles) : Type 0 where
  pub words : HaveWords header jobs new
  pub others : (other : JobFile) → is_words other ≡ false → new other ≡ old other

-- the same, where it is told what is held, before and after
abbrev pub WordsLaid : Bool → ℕ → Option HeldFiles → Option HeldFiles → Type 0
WordsLaid header jobs None new = new ≡ None
WordsLaid header jobs (Some old) None = ⊥
WordsLaid header jobs (Some old) (Some new) = AreWordsLaid header jobs old new

-- the text of the program, the words of the jobs, how far the work is, and the list of all jobs in their first try stand in the folder; the
-- records of the jobs stay, and what is kept, and the beginning of the mark
pub record AreLaid (text : List ℕ) (progress : Progress) (old new : HeldFiles) : Type 0 where
  pub program : new file.Program ≡ Some text
  pub words : HaveWords progress.header progress.jobs new
  pub state : new file.State ≡ Some (progress_text progress)
  pub list : new file.List ≡ Some (list_text 1 (numbers_from 1 progress.jobs))
  pub inputs : (job : ℕ) → new (file.Input job) ≡ old (file.Input job)
  pub kept : new file.Kept ≡ old file.Kept
  pub mark : new file.Mark ≡ old file.Mark

-- the same, where it is told what is held, before and after
abbrev pub Laid : List ℕ → Progress → Option HeldFiles → Option HeldFiles → Type 0
Laid text progress None new = new ≡ None
Laid text progress (Some old) None = ⊥
Laid text progress (Some old) (Some new) = AreLaid text progress old new
