-- What is printed in the end.
use Rattle.std.specs.Prelude.{◌≡◌, ℕ, List, Option, None, Some, IfSome}
use Rattle.std.specs.Io.KnownBytes.{append_known}
use Rattle.river_outside.specs.Taken.{TookPart}
use Rattle.piece_files.specs.Held.{HeldFiles}
use Rattle.piece_files.specs.declared.file.JobFile.TheVariants.{Whole}
use Rattle.piece_jobs.specs.Fetched.{WhyUnfetched}
use Rattle.piece_work.specs.declared.fault.WorkFault.{WorkFault}
use Rattle.piece_work.specs.declared.fault.WorkFault.TheVariants as why

-- the file is there, and the sink took what it holds
abbrev pub Printed : Option (List ℕ) → Option (List ℕ) → Option (List ℕ) → Type 0
Printed None old new = ⊥
Printed (Some bytes) old new = new ≡ append_known old bytes

-- the file is there, and the sink took a proper front of what it holds
abbrev pub PrintedPart : Option (List ℕ) → Option (List ℕ) → Option (List ℕ) → Type 0
PrintedPart None old new = ⊥
PrintedPart (Some bytes) old new = TookPart bytes old new

-- Why it was not printed: the sink's count of faults rose, which says `lost`, and it took a part; or the file is not read, where `rose` says that the folder's
-- count of faults rose, and the sink took nothing. Want of memory is free.
abbrev pub WhyNotPrinted : Option HeldFiles → Type 0 → Type 0 → Option (List ℕ) → Option (List ℕ) → WorkFault → Type 0
WhyNotPrinted held rose lost old new why.Unwritten = lost × IfSome held (λ h. PrintedPart (h Whole) old new)
WhyNotPrinted held rose lost old new fault = WhyUnfetched held rose Whole fault × (new ≡ old)
