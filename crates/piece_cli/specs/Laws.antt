-- What a status alone says. In all of it a sink's count of faults was `before` and is `now`.
use Rattle.std.specs.Prelude.{◌≡◌, ◌⊎◌, ℕ, List, Bool, Option, None, Some, Result, Ok, Err}
use Rattle.river_outside.specs.Causes.{Rose}
use Rattle.piece_files.specs.Held.{HeldFiles}
use Rattle.piece_jobs.specs.declared.going_on.Next.{Next}
use Rattle.piece_jobs.specs.declared.going_on.Next.TheVariants as next
use Rattle.piece_work.specs.declared.fault.WorkFault.{WorkFault}
use Rattle.piece_work.specs.declared.fault.WorkFault.TheVariants as why
use Rattle.piece_cli.specs.Does.{TellsBegun, TellsGrown, TellsNext, TellsPrinted}

-- the first call answers 10 only where the program has begun
abbrev pub TenIsBegun : Type 0
TenIsBegun = (came : Result ℕ WorkFault) (err err' : Option (List ℕ)) (stays : Bool) (before now : ℕ)
    → TellsBegun came err err' (Rose stays before now) 10 → (jobs : ℕ) × (came ≡ Ok jobs)

abbrev pub TenIsGrown : Type 0
TenIsGrown = (came : Result Bool WorkFault) (err err' : Option (List ℕ)) (stays : Bool) (before now : ℕ)
    → TellsGrown came err err' (Rose stays before now) 10 → (changed : Bool) × (came ≡ Ok changed)

-- a call between answers 0 only where all is done,
abbrev pub ZeroIsDone : Type 0
ZeroIsDone = (came : Result Next WorkFault) (held : Option HeldFiles) (err err' : Option (List ℕ)) (stays : Bool) (before now : ℕ)
    → TellsNext came held err err' (Rose stays before now) 0 → came ≡ Ok next.Done

-- and 11 only where jobs are to be run once more
abbrev pub ElevenIsAgain : Type 0
ElevenIsAgain = (came : Result Next WorkFault) (held : Option HeldFiles) (err err' : Option (List ℕ)) (stays : Bool) (before now : ℕ)
    → TellsNext came held err err' (Rose stays before now) 11 → came ≡ Ok next.Again

-- the last call answers 0 only where all was printed
abbrev pub ZeroIsPrinted : Type 0
ZeroIsPrinted = (wrong : Option WorkFault) (err err' : Option (List ℕ)) (stays : Bool) (before now : ℕ)
    → TellsPrinted wrong err err' (Rose stays before now) 0 → wrong ≡ None

-- 2 is of words that are no sentence alone
pub record TwoIsUsage : Type 0 where
  pub begun : (came : Result ℕ WorkFault) (err err' : Option (List ℕ)) (stays : Bool) (before now : ℕ) → TellsBegun came err err' (Rose stays before now) 2 → ⊥
  pub grown : (came : Result Bool WorkFault) (err err' : Option (List ℕ)) (stays : Bool) (before now : ℕ) → TellsGrown came err err' (Rose stays before now) 2 → ⊥
  pub next : (came : Result Next WorkFault) (held : Option HeldFiles) (err err' : Option (List ℕ)) (stays : Bool) (before now : ℕ)
      → TellsNext came held err err' (Rose stays before now) 2 → ⊥
  pub printed : (wrong : Option WorkFault) (err err' : Option (List ℕ)) (stays : Bool) (before now : ℕ) → TellsPrinted wrong err err' (Rose stays before now) 2 → ⊥

-- 4: what was to be written was not, or the count of the error output rose
pub record FourIsUnwritten : Type 0 where
  pub begun : (came : Result ℕ WorkFault) (err err' : Option (List ℕ)) (stays : Bool) (before now : ℕ)
      → TellsBegun came err err' (Rose stays before now) 4 → (came ≡ Err why.Unwritten) ⊎ Rose stays before now
  pub grown : (came : Result Bool WorkFault) (err err' : Option (List ℕ)) (stays : Bool) (before now : ℕ)
      → TellsGrown came err err' (Rose stays before now) 4 → (came ≡ Err why.Unwritten) ⊎ Rose stays before now
  pub next : (came : Result Next WorkFault) (held : Option HeldFiles) (err err' : Option (List ℕ)) (stays : Bool) (before now : ℕ)
      → TellsNext came held err err' (Rose stays before now) 4 → (came ≡ Err why.Unwritten) ⊎ Rose stays before now
  pub printed : (wrong : Option WorkFault) (err err' : Option (List ℕ)) (stays : Bool) (before now : ℕ)
      → TellsPrinted wrong err err' (Rose stays before now) 4 → (wrong ≡ Some why.Unwritten) ⊎ Rose stays before now
