-- The front of a file that was cut: all of it but the last piece.
use Rattle.std.specs.Prelude.{◌≡◌, ℕ, ◌≤◌, Bool, List, [], ◌∷◌, ◌++◌, length}
use Rattle.csv_streams.specs.FilePieces.{EndsRecord, IsUnmarked}
use Rattle.csv_streams.specs.Records.{csv_records}
use Rattle.csv_streams.specs.Rows.{headers}
use Rattle.csv_cuts.specs.Cut.{AreCut}

-- pieces one behind another
abbrev pub bytes_in : List (List ℕ) → List ℕ
bytes_in [] = []
bytes_in (x ∷ xs) = x ++ bytes_in xs

-- The bytes are a front of these pieces, which is cut between them where it may be, and a rest. The front ends with a record and has the header, if there is
-- one, and no byte-order mark begins the rest.
pub record IsFrontOf (bytes : List ℕ) (skip_first : Bool) (fronts : List (List ℕ)) (last : List ℕ) : Type 0 where
  pub is : bytes ≡ bytes_in fronts ++ last
  pub cut : AreCut (bytes_in fronts) skip_first fronts
  pub ends : EndsRecord (bytes_in fronts)
  pub unmarked : IsUnmarked last
  pub header : headers skip_first ≤ length (csv_records (bytes_in fronts))

-- Where bytes are cut into more than one piece, all but the last are such a front.
abbrev pub FrontsAreCut : Type 0
FrontsAreCut =
    (bytes : List ℕ) (skip_first : Bool) (first : List ℕ) (more : List (List ℕ)) (last : List ℕ)
    → AreCut bytes skip_first ((first ∷ more) ++ (last ∷ []))
    → IsFrontOf bytes skip_first (first ∷ more) last
