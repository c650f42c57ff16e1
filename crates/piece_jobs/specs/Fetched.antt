-- Files of a work folder that are read. In all of it `rose` says that the folder's count of faults rose, and want of memory is free.
use Rattle.std.specs.Prelude.{◌≡◌, ⊤, ℕ, List, Option, None, Some, IfSome, MatchOption}
use Rattle.river_outside.specs.Fetched.{FetchesAll, IsLarger}
use Rattle.piece_files.specs.Held.{HeldFiles}
use Rattle.piece_files.specs.declared.file.JobFile.{JobFile}
use Rattle.piece_work.specs.Faults.{most_file}
use Rattle.piece_work.specs.declared.fault.WorkFault.{WorkFault}
use Rattle.piece_work.specs.declared.fault.WorkFault.TheVariants as why

-- what is found of a file: its bytes, or nothing where it has none that are read
abbrev pub IsFound : Option (List ℕ) → Option (List ℕ) → Type 0
IsFound held None = (bytes : List ℕ) → FetchesAll held most_file bytes → ⊥
IsFound held (Some bytes) = FetchesAll held most_file bytes

-- why a file is not read: it is not there, the folder failed, or it has more bytes than are read
abbrev pub WhyUnfetched : Option HeldFiles → Type 0 → JobFile → WorkFault → Type 0
WhyUnfetched held rose file why.Absent = MatchOption held rose (λ h. h file ≡ None)
WhyUnfetched held rose file why.Unread = rose
WhyUnfetched held rose file why.Large = IfSome held (λ h. IsLarger (h file) most_file)
WhyUnfetched held rose file why.NoMemory = ⊤
WhyUnfetched held rose file _ = ⊥

-- why it is not known whether there is one: the folder failed
abbrev pub WhyUnseen : Type 0 → WorkFault → Type 0
WhyUnseen rose why.Unread = rose
WhyUnseen rose why.NoMemory = ⊤
WhyUnseen rose _ = ⊥
