-- What follows from what came of the jobs.
use Rattle.std.specs.Prelude.{◌≡◌, ⊤, ℕ, List, ◌∷◌, ◌++◌, length, Option, None, Some}
use Rattle.std.specs.List.{AllByRecursion}
use Rattle.piece_jobs.specs.declared.came.Ending.TheVariants.{Done, Refused}
use Rattle.piece_jobs.specs.declared.looking.Came.{Came}
use Rattle.piece_jobs.specs.declared.verdict.Verdict.{Verdict}
use Rattle.piece_jobs.specs.declared.verdict.Verdict.TheVariants as is

-- the job has come
abbrev pub IsThere : Option Came → Type 0
IsThere None = ⊥
IsThere (Some came) = ⊤

-- the job has come, and is done
abbrev pub IsDone : Option Came → Type 0
IsDone None = ⊥
IsDone (Some came) = came.ending ≡ Done

-- the jobs behind so many that are so
pub record BehindSome (Is : Option Came → Type 0) (place : ℕ) (job : Option Came) (found : List (Option Came)) : Type 0 where
  pub before : List (Option Came)
  pub after : List (Option Came)
  pub is : found ≡ before ++ job ∷ after
  pub many : length before ≡ place
  pub all : AllByRecursion Is before

-- The first job that has not come, if there is one; otherwise the first that was refused, if there is one; otherwise all are done.
abbrev pub IsVerdict : List (Option Came) → Verdict → Type 0
IsVerdict found (is.Lacking place) = BehindSome IsThere place None found
IsVerdict found (is.Refused place turn) = AllByRecursion IsThere found × BehindSome IsDone place (Some (record { turn = turn; ending = Refused })) found
IsVerdict found is.Done = AllByRecursion IsDone found
