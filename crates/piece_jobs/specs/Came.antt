-- A try of a job came whole: what it printed and told is there, and its status file says how it ended, with the sums of both.
use Rattle.std.specs.Prelude.{◌≡◌, ℕ, List, ◌∷◌, ◌++◌, codes, Option, None, Some}
use Rattle.hex.specs.Hex.{encode_lower}
use Rattle.sha2.specs.Sha256.{sha256}
use Rattle.river_outside.specs.Fetched.{FetchesAll}
use Rattle.piece_files.specs.Held.{HeldFiles}
use Rattle.piece_files.specs.declared.file.JobFile.TheVariants.{Out, Err, Status}
use Rattle.piece_work.specs.Faults.{most_file}
use Rattle.piece_jobs.specs.declared.came.Ending.{Ending}
use Rattle.piece_jobs.specs.declared.came.Ending.TheVariants.{Done, Refused}

-- the SHA-256 of bytes, in hexadecimal digits
abbrev pub sum_text : List ℕ → List ℕ
sum_text bytes = encode_lower (sha256 bytes)

-- both sums, each behind a blank, and the end of the line
abbrev pub sums_text : List ℕ → List ℕ → List ℕ
sums_text out err = codes " " ++ (sum_text out ++ (codes " " ++ (sum_text err ++ codes "\n")))

abbrev pub digit_of : Ending → ℕ
digit_of Done = 48
digit_of Refused = 49

-- what stands in the status file: `STATUS SUM SUM`
abbrev pub status_text : Ending → List ℕ → List ℕ → List ℕ
status_text ending out err = digit_of ending ∷ sums_text out err

-- the try of the job printed `out`, told `err` on its error output, and ended so
pub record CameWhole (h : HeldFiles) (job turn : ℕ) (ending : Ending) (out err : List ℕ) : Type 0 where
  pub status : FetchesAll (h (Status job turn)) most_file (status_text ending out err)
  pub printed : FetchesAll (h (Out job turn)) most_file out
  pub told : FetchesAll (h (Err job turn)) most_file err

-- the try came whole and ended so
pub record Ended (h : HeldFiles) (job turn : ℕ) (ending : Ending) : Type 0 where
  pub out : List ℕ
  pub err : List ℕ
  pub came : CameWhole h job turn ending out err

-- how a try ended, if it came whole
abbrev pub IsEnding : HeldFiles → ℕ → ℕ → Option Ending → Type 0
IsEnding h job turn None = (ending : Ending) → Ended h job turn ending → ⊥
IsEnding h job turn (Some ending) = Ended h job turn ending

-- how a try ended of which these are the three files
abbrev pub IsEndingOf : List ℕ → List ℕ → List ℕ → Option Ending → Type 0
IsEndingOf status out err None = (ending : Ending) → status ≡ status_text ending out err → ⊥
IsEndingOf status out err (Some ending) = status ≡ status_text ending out err
