-- What came of the jobs.
use Rattle.std.specs.Prelude.{⊤, ℕ, suc, ◌≤◌, List, [], ◌∷◌, Option, None, Some}
use Rattle.piece_files.specs.Held.{HeldFiles}
use Rattle.piece_jobs.specs.Came.{Ended}
use Rattle.piece_jobs.specs.declared.came.Ending.{Ending}
use Rattle.piece_jobs.specs.declared.looking.Came.{Came}

-- none of the tries of the job, up to this one, came whole
abbrev pub HasNotCome : HeldFiles → ℕ → ℕ → Type 0
HasNotCome h turns job = (turn : ℕ) (ending : Ending) → 1 ≤ turn → turn ≤ turns → Ended h job turn ending → ⊥

-- one of them did, and ended so
pub record HasCome (h : HeldFiles) (turns job : ℕ) (came : Came) : Type 0 where
  pub first : 1 ≤ came.turn
  pub last : came.turn ≤ turns
  pub ended : Ended h job came.turn came.ending

abbrev pub IsCame : HeldFiles → ℕ → ℕ → Option Came → Type 0
IsCame h turns job None = HasNotCome h turns job
IsCame h turns job (Some came) = HasCome h turns job came

-- so of the jobs from this one on
abbrev pub AreCame : HeldFiles → ℕ → ℕ → List (Option Came) → Type 0
AreCame h turns job [] = ⊤
AreCame h turns job (c ∷ cs) = IsCame h turns job c × AreCame h turns (suc job) cs
