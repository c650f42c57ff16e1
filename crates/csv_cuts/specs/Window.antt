-- A file that is cut as it is read: only some bytes of it are in memory.
use Rattle.std.specs.Prelude.{◌≡◌, ◌⊎◌, ℕ, ◌+◌, ◌<◌, ◌≤◌, ◌==◌, ◌&&◌, ◌||◌, not, nat_lt, nat_le, Bool, if◌then◌else◌, List, ◌++◌, length, take, drop, Option}
use Rattle.std.specs.List.{AllByRecursion}
use Rattle.csv.specs.Machine.{ends_at_end}
use Rattle.csv.specs.declared.parser.State.{State}
use Rattle.csv_streams.specs.FilePieces.{EndsRecord, IsUnmarked}
use Rattle.csv_streams.specs.Records.{csv_records}
use Rattle.csv_cuts.specs.Cut.{AreCut, HasFew, append_pieces, is_start, is_marked}
use Rattle.csv_cuts.specs.Faults.{header_behind}

-- WHERE A PIECE ENDS

-- Before this place a piece may be cut off: a record is before it, another may begin there, and no byte-order mark does.
pub record CutsOff (bytes : List ℕ) (place : ℕ) : Type 0 where
  pub ends : EndsRecord (take place bytes)
  pub unmarked : IsUnmarked (drop place bytes)
  pub some : 0 < length (csv_records (take place bytes))

-- there is no such place up to this one
abbrev pub NoneUpTo : List ℕ → ℕ → Type 0
NoneUpTo bytes most = (place : ℕ) → place ≤ most → CutsOff bytes place → ⊥

-- there is none before this one
abbrev pub IsFirstEnd : List ℕ → ℕ → Type 0
IsFirstEnd bytes place = (other : ℕ) → other < place → CutsOff bytes other → ⊥

-- It is the last such place, up to `most`, at which the piece has at most so many records; where no piece has so few, the first such place.
pub record IsPieceEnd (bytes : List ℕ) (records most place : ℕ) : Type 0 where
  pub within : place ≤ most
  pub cuts : CutsOff bytes place
  pub few : HasFew bytes records place ⊎ IsFirstEnd bytes place
  pub last : (other : ℕ) → place < other → other ≤ most → CutsOff bytes other → HasFew bytes records other → ⊥

-- WHAT IS CUT OFF

-- The pieces are cut off the bytes, and these are left: if they are cut in their turn, all the pieces together are cut from the bytes.
abbrev pub CutsInto : List ℕ → List (List ℕ) → List ℕ → Type 0
CutsInto bytes pieces left =
    (skip_first : Bool) (others : List (List ℕ)) → AreCut left (header_behind skip_first pieces) others → AreCut bytes skip_first (pieces ++ others)

-- So many bytes at the front of a window were cut into pieces, and the pieces taken. Whatever follows the window, the file may be cut so.
pub record TookFrom (window : List ℕ) (count : ℕ) (old new : Option (List (List ℕ))) : Type 0 where
  pub within : count ≤ length window
  pub pieces : List (List ℕ)
  pub cut : (more : List ℕ) → CutsInto (window ++ more) pieces (drop count window ++ more)
  pub took : new ≡ append_pieces old pieces

-- The bytes may be cut into these pieces and what is left, which has more than so many bytes, and no place up to there at which a piece may be cut off.
pub record IsUncut (bytes : List ℕ) (most : ℕ) : Type 0 where
  pub pieces : List (List ℕ)
  pub left : List ℕ
  pub cut : CutsInto bytes pieces left
  pub long : most < length left
  pub none : NoneUpTo left most

-- HOW LARGE THE PIECES ARE

-- The piece has at most so many bytes, and at most so many records, but where no piece can be cut off it.
pub record IsWithin (records most : ℕ) (piece : List ℕ) : Type 0 where
  pub bytes : length piece ≤ most
  pub few : (length (csv_records piece) ≤ records) ⊎ IsFirstEnd piece (length piece)

-- pieces were taken, each no larger
pub record TookWithin (records most : ℕ) (old new : Option (List (List ℕ))) : Type 0 where
  pub pieces : List (List ℕ)
  pub took : new ≡ append_pieces old pieces
  pub all : AllByRecursion (IsWithin records most) pieces

-- HOW IT IS FOUND

-- whether a piece may be cut off here: where the reader stands, how many records ended so far, and what follows
abbrev pub is_end : State → ℕ → List ℕ → Bool
is_end s count rest = is_start s && (nat_lt 0 count && not (is_marked rest))

-- the better of the last place and this one
abbrev pub better : Bool → ℕ → ℕ → ℕ → ℕ → ℕ
better here count records last place = if here && (nat_le count records || (last == 0)) then place else last

-- the end of the bytes ends one record more, or none
abbrev pub at_last : State → ℕ
at_last s = if ends_at_end s then 1 else 0

abbrev pub count_on : Bool → ℕ → ℕ
count_on ended count = if ended then count + 1 else count
