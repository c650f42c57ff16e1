-- Files of the folder of what is kept that are read. `rose` says that its count of faults rose, and want of memory is free.
use Rattle.std.specs.Prelude.{⊤, ◌⊎◌, ℕ, List, Option, None, Some}
use Rattle.river_outside.specs.Fetched.{FetchesAll}
use Rattle.river_outside.specs.Held.{Held}
use Rattle.piece_work.specs.Faults.{WhyUnread, most_file}
use Rattle.piece_work.specs.declared.fault.WorkFault.{WorkFault}
use Rattle.piece_work.specs.declared.fault.WorkFault.TheVariants as why

-- what is seen of a file: its bytes, or nothing where it has none that are read
abbrev pub IsSeen : Option (List ℕ) → Option (List ℕ) → Type 0
IsSeen held None = (bytes : List ℕ) → FetchesAll held most_file bytes → ⊥
IsSeen held (Some bytes) = FetchesAll held most_file bytes

-- why it is not known whether there is one: the folder failed
abbrev pub WhyUnseen : Type 0 → WorkFault → Type 0
WhyUnseen rose why.Unread = rose
WhyUnseen rose why.NoMemory = ⊤
WhyUnseen rose _ = ⊥

-- Why it is not known whether something is kept: the file is not read, or the folder failed, which says `lost`.
abbrev pub WhyNotFound : Option Held → Type 0 → Type 0 → List ℕ → WorkFault → Type 0
WhyNotFound held rose lost file fault = WhyUnread held rose most_file file fault ⊎ WhyUnseen lost fault
