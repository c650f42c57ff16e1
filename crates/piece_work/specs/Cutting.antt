-- A file that is read in blocks and cut as it comes, and why it was not cut.
use Rattle.std.specs.Prelude.{◌≡◌, ◌⊎◌, ℕ, ◌+◌, ◌≤◌, ◌<◌, Bool, List, [], length, take, drop, Option, None, Some, IfSome, IsSome}
use Rattle.river_outside.specs.Held.{Held}
use Rattle.river_outside.specs.Fetched.{IsLarger}
use Rattle.csv_cuts.specs.Cut.{TookPieces}
use Rattle.csv_cuts.specs.Window.{IsUncut}
use Rattle.piece_work.specs.declared.fault.WorkFault.{WorkFault}
use Rattle.piece_work.specs.declared.fault.WorkFault.TheVariants as why
use Rattle.piece_work.specs.Faults.{WhyUnread, most_file}

-- The file is held, and what it has behind its first bytes, so many as `from` says, was cut into
-- the pieces that were taken.
pub record CutHeld (file : Option (List ℕ)) (from : ℕ) (skip_first : Bool) (old new : Option (List (List ℕ))) : Type 0 where
  pub bytes : List ℕ
  pub is : file ≡ Some bytes
  pub within : from ≤ length bytes
  pub took : TookPieces (drop from bytes) skip_first old new

-- the file has fewer bytes than are passed over
abbrev pub IsShorter : Option (List ℕ) → ℕ → Type 0
IsShorter None from = ⊥
IsShorter (Some bytes) from = length bytes < from

-- Behind the first bytes of the file, and pieces that may be cut off there, more than `most` bytes
-- are left, and there is no place up to `most` at which a piece may be cut off.
abbrev pub IsUncutHeld : Option (List ℕ) → ℕ → ℕ → Type 0
IsUncutHeld None from most = ⊥
IsUncutHeld (Some bytes) from most = (from ≤ length bytes) × IsUncut (drop from bytes) most

-- why the first bytes of a file were not passed over: the file is not read, or it has fewer
abbrev pub WhyNotPassed : Option Held → Type 0 → ℕ → WorkFault → List ℕ → Type 0
WhyNotPassed held rose from why.Other file = IfSome held (λ h. IsShorter (h file) from)
WhyNotPassed held rose from other file = WhyUnread held rose most_file file other

-- Why a file was not cut: it is not read; it has more bytes than are read, or a piece would have
-- more than `most`; or it is there, and the count of faults of what takes the pieces rose.
abbrev pub WhyNotCut : Option Held → Type 0 → Type 0 → ℕ → ℕ → WorkFault → List ℕ → Type 0
WhyNotCut held rose lost from most why.Large file = IfSome held (λ h. IsLarger (h file) most_file ⊎ IsUncutHeld (h file) from most)
WhyNotCut held rose lost from most why.Unwritten file = IfSome held (λ h. IsSome (h file)) × lost
WhyNotCut held rose lost from most other file = WhyNotPassed held rose from other file

-- WHAT IS IN MEMORY

-- the file has so many bytes; where it is not there, none were read
abbrev pub HasFront : Option (List ℕ) → ℕ → Type 0
HasFront None at = at ≡ 0
HasFront (Some bytes) at = at ≤ length bytes

-- the window has the bytes of the file from this place on, as far as they were read
abbrev pub IsWindow : Option (List ℕ) → ℕ → List ℕ → Type 0
IsWindow None start window = (start ≡ 0) × (window ≡ [])
IsWindow (Some bytes) start window = (take (length window) (drop start bytes) ≡ window) × (start + length window ≤ length bytes)
