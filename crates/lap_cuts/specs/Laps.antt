-- A file that is cut into pieces that overlap.
use Rattle.std.specs.Prelude.{◌≡◌, ⊤, ℕ, ◌+◌, ◌≤◌, Bool, true, false, List, [], ◌∷◌, ◌++◌, length, take, drop, Option, None, Some}
use Rattle.csv_streams.specs.FilePieces.{EndsRecord, IsUnmarked}
use Rattle.csv_streams.specs.Records.{csv_records}
use Rattle.csv_streams.specs.Rows.{headers}
use Rattle.csv_cuts.specs.Cut.{append_pieces}
use Rattle.csv_cuts.specs.Window.{CutsOff}
use Rattle.river_outside.specs.Held.{Held}
use Rattle.piece_work.specs.Faults.{WhyUnread, most_file}
use Rattle.piece_work.specs.declared.fault.WorkFault.{WorkFault}
use Rattle.piece_work.specs.declared.fault.WorkFault.TheVariants as why

-- PIECES THAT OVERLAP

-- so many records stand at the front of the bytes, and behind them a record may begin and no byte-order mark does
pub record IsFrontOf (many : ℕ) (bytes front rest : List ℕ) : Type 0 where
  pub is : bytes ≡ front ++ rest
  pub ends : EndsRecord front
  pub unmarked : IsUnmarked rest
  pub records : length (csv_records front) ≡ many

-- The first piece has so many records, and behind so many of them the next one begins.
pub record IsLap (many step : ℕ) (bytes piece next : List ℕ) : Type 0 where
  pub rest : List ℕ
  pub front : IsFrontOf many bytes piece rest
  pub passed : List ℕ
  pub begins : IsFrontOf step bytes passed next

-- The bytes are cut into these pieces, at least one. The last one has all that is left.
abbrev pub AreLaps : ℕ → ℕ → List ℕ → List (List ℕ) → Type 0
AreLaps many step bytes [] = ⊥
AreLaps many step bytes (x ∷ []) = x ≡ bytes
AreLaps many step bytes (x ∷ y ∷ ys) = (next : List ℕ) × IsLap many step bytes x next × AreLaps many step next (y ∷ ys)

-- so of their records
abbrev pub AreRecordLaps : ℕ → ℕ → List (List (List ℕ)) → List (List ℕ) → Type 0
AreRecordLaps many step recs [] = ⊥
AreRecordLaps many step recs (x ∷ []) = csv_records x ≡ recs
AreRecordLaps many step recs (x ∷ y ∷ ys) =
    (csv_records x ≡ take many recs) × (many ≤ length recs) × AreRecordLaps many step (drop step recs) (y ∷ ys)

abbrev pub LapsAreRecords : Type 0
LapsAreRecords = (many step : ℕ) (bytes : List ℕ) (pieces : List (List ℕ)) → AreLaps many step bytes pieces → AreRecordLaps many step (csv_records bytes) pieces

-- WHAT WAS TAKEN

-- the bytes were cut into pieces, which were taken
pub record TookLaps (many step : ℕ) (bytes : List ℕ) (old new : Option (List (List ℕ))) : Type 0 where
  pub pieces : List (List ℕ)
  pub laps : AreLaps many step bytes pieces
  pub took : new ≡ append_pieces old pieces

-- The file is held, and its records, without the header if there is one, were cut so.
pub record LapsHeld (file : Option (List ℕ)) (skip_first : Bool) (many step : ℕ) (old new : Option (List (List ℕ))) : Type 0 where
  pub bytes : List ℕ
  pub is : file ≡ Some bytes
  pub body : List ℕ
  pub behind : csv_records body ≡ drop (headers skip_first) (csv_records bytes)
  pub took : TookLaps many step body old new

-- Why not: the file is not read, the count of faults of what takes the pieces rose, which says `lost`, or memory was wanting. What stands
-- where a piece would have to end or begin is not told.
abbrev pub WhyNotLapped : Option Held → Type 0 → Type 0 → List ℕ → WorkFault → Type 0
WhyNotLapped held rose lost file why.Large = ⊤
WhyNotLapped held rose lost file why.Unwritten = lost
WhyNotLapped held rose lost file fault = WhyUnread held rose most_file file fault

-- HOW IT IS FOUND

-- At one place of the bytes a piece ends, and at another the next one begins.
pub record CutsLap (many step : ℕ) (bytes : List ℕ) (end next : ℕ) : Type 0 where
  pub ends : CutsOff bytes end
  pub many_is : length (csv_records (take end bytes)) ≡ many
  pub begins : CutsOff bytes next
  pub step_is : length (csv_records (take next bytes)) ≡ step

-- If the bytes that are left are cut in their turn, all the pieces together are cut from the bytes.
abbrev pub LapsInto : ℕ → ℕ → List ℕ → List (List ℕ) → List ℕ → Type 0
LapsInto many step bytes pieces left = (others : List (List ℕ)) → AreLaps many step left others → AreLaps many step bytes (pieces ++ others)

-- Pieces were cut off a window and taken, and so many bytes of it are passed. Whatever follows the window, the file may be cut so.
pub record TookFrom (many step : ℕ) (window : List ℕ) (count : ℕ) (old new : Option (List (List ℕ))) : Type 0 where
  pub within : count ≤ length window
  pub pieces : List (List ℕ)
  pub cut : (more : List ℕ) → LapsInto many step (window ++ more) pieces (drop count window ++ more)
  pub took : new ≡ append_pieces old pieces

-- the header, if there is one, is at the front of the bytes, of which more may come or not
abbrev pub HeaderEnds : Bool → List ℕ → ℕ → Type 0
HeaderEnds true bytes place = (place + 3 ≤ length bytes) × CutsOff bytes place × (length (csv_records (take place bytes)) ≡ 1)
HeaderEnds false bytes place = csv_records (drop place bytes) ≡ drop 1 (csv_records bytes)

-- what the file has behind so many bytes has its records without the header
abbrev pub PassedHeader : Option (List ℕ) → Bool → ℕ → Type 0
PassedHeader None skip_first start = ⊤
PassedHeader (Some bytes) skip_first start = csv_records (drop start bytes) ≡ drop (headers skip_first) (csv_records bytes)

-- what the file has behind so many bytes was cut into pieces, which were taken
pub record LapsFrom (file : Option (List ℕ)) (from many step : ℕ) (old new : Option (List (List ℕ))) : Type 0 where
  pub bytes : List ℕ
  pub is : file ≡ Some bytes
  pub took : TookLaps many step (drop from bytes) old new
