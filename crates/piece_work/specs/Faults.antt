-- Why a step was not done. In all of it `rose` says that the shelf's count of faults rose, and want
-- of memory is free.
use Rattle.std.specs.Prelude.{◌≡◌, ◌⊎◌, ⊤, ℕ, List, Option, None, Some, IfSome, MatchOption}
use Rattle.river_outside.specs.Held.{Held}
use Rattle.river_outside.specs.Fetched.{FetchesAll, IsLarger}
use Rattle.piece_work.specs.declared.fault.WorkFault.{WorkFault}
use Rattle.piece_work.specs.declared.fault.WorkFault.TheVariants as why

-- how many bytes of a file are read at most: 1 TiB
abbrev pub most_file : ℕ
most_file = 1099511627776

-- the file has these bytes, at most so many, where it is told what is held
abbrev pub Reads : Option Held → ℕ → List ℕ → List ℕ → Type 0
Reads held limit file bytes = IfSome held (λ h. FetchesAll (h file) limit bytes)

-- why a file is not read: it is not there, the shelf failed, or it has more bytes than are read
abbrev pub WhyUnread : Option Held → Type 0 → ℕ → List ℕ → WorkFault → Type 0
WhyUnread held rose limit file why.Absent = MatchOption held rose (λ h. h file ≡ None)
WhyUnread held rose limit file why.Unread = rose
WhyUnread held rose limit file why.Large = IfSome held (λ h. IsLarger (h file) limit)
WhyUnread held rose limit file why.NoMemory = ⊤
WhyUnread held rose limit file why.Unwritten = ⊥
WhyUnread held rose limit file why.Program = ⊥
WhyUnread held rose limit file why.Other = ⊥

-- the file has bytes that are read
pub record IsRead (held : Option Held) (file : List ℕ) : Type 0 where
  pub bytes : List ℕ
  pub reads : Reads held most_file file bytes

-- WHAT IS LEFT TO BE TOLD

-- the same fault, or one of them is want of memory
abbrev pub Agree : WorkFault → WorkFault → Type 0
Agree first second = (first ≡ second) ⊎ ((first ≡ why.NoMemory) ⊎ (second ≡ why.NoMemory))

-- Over files that are told, and where no count rose, the file decides why it is not read.
abbrev pub FileDecides : Type 0
FileDecides =
    (h : Held) (file : List ℕ) (first second : WorkFault)
    → WhyUnread (Some h) ⊥ most_file file first → WhyUnread (Some h) ⊥ most_file file second → Agree first second

-- And where it is read, nothing but want of memory is left.
abbrev pub ReadDecides : Type 0
ReadDecides = (h : Held) (file : List ℕ) (fault : WorkFault) → IsRead (Some h) file → WhyUnread (Some h) ⊥ most_file file fault → fault ≡ why.NoMemory
