-- The jobs of a work folder: their words, their list, and what they are given.
use Rattle.std.specs.Prelude.{ℕ, zero, suc, Bool, List, [], ◌∷◌, ◌++◌, codes, Option, None, Some, ◌&&◌, ◌==◌, if◌then◌else◌}
use Rattle.std.specs.Fmt.{decimal}
use Rattle.csv_streams.specs.Outcome.{texts_of}
use Rattle.piece_jobs.specs.declared.looking.Came.{Came}

-- a line `JOB,TRY` for each job
abbrev pub list_line : ℕ → ℕ → List ℕ
list_line turn job = decimal job ++ (codes "," ++ (decimal turn ++ codes "\n"))

abbrev pub list_text : ℕ → List ℕ → List ℕ
list_text turn jobs = texts_of (list_line turn) jobs

-- so many numbers, from this one on
abbrev pub numbers_from : ℕ → ℕ → List ℕ
numbers_from k zero = []
numbers_from k (suc n) = k ∷ numbers_from (suc k) n

-- the numbers of the jobs that have not come, from this number on
abbrev pub lacking : ℕ → List (Option Came) → List ℕ
lacking job [] = []
lacking job (None ∷ cs) = job ∷ lacking (suc job) cs
lacking job (Some came ∷ cs) = lacking (suc job) cs

-- the words of a job, behind `run`: the header belongs to the first
abbrev pub has_header : Bool → ℕ → Bool
has_header header job = header && (job == 1)

abbrev pub words_text : Bool → ℕ → List ℕ
words_text header job =
    codes "sawzall program in=in." ++ (decimal job ++ (if has_header header job then codes " -H\n" else codes "\n"))
