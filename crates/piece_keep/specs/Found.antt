-- What an earlier call kept of a file, and whether it is still of this file.
use Rattle.std.specs.Prelude.{◌≡◌, ℕ, ◌≤◌, ◌-◌, ◌^◌, Bool, List, take, drop, length, Option, None, Some}
use Rattle.sha2.specs.Hashers.{Holds256}
use Rattle.csv_streams.specs.FilePieces.{IsUnmarked}
use Rattle.piece_files.specs.Held.{HeldFiles}
use Rattle.piece_files.specs.declared.file.JobFile.TheVariants as file
use Rattle.piece_work.specs.Faults.{most_file}
use Rattle.piece_work.specs.Held.{bytes_of}
use Rattle.river_outside.specs.Fetched.{FetchesAll}
use Rattle.piece_keep.specs.Mark.{mark_text}
use Rattle.piece_keep.specs.declared.extent.Extent.{Extent}
use Rattle.piece_keep.specs.declared.found.Front.{Front}
use Rattle.piece_keep.specs.declared.found.Found.{Found}
use Rattle.piece_keep.specs.declared.found.Found.TheVariants as is

-- The mark is that of the first bytes of this file, so many as the extent says, of this header and program, and of these tables. No byte-order mark
-- stands behind those bytes.
pub record IsMarkOf (mark : List ℕ) (bytes : Option (List ℕ)) (header : Bool) (program tables : List ℕ) (extent : Extent) : Type 0 where
  pub within : extent.at ≤ length (bytes_of bytes)
  pub is : mark ≡ mark_text extent.at extent.records header (take extent.at (bytes_of bytes)) program tables
  pub unmarked : IsUnmarked (drop extent.at (bytes_of bytes))

-- the numbers have 64 bits
abbrev pub HasPlaces : Extent → Type 0
HasPlaces extent = (extent.at ≤ 2 ^ 64 - 1) × (extent.records ≤ 2 ^ 64 - 1)

-- what a mark is of, and a hasher that was fed with these bytes; or it is of no front of this file
abbrev pub IsMarked : List ℕ → Option (List ℕ) → Bool → List ℕ → List ℕ → Option Front → Type 0
IsMarked mark bytes header program tables None = (extent : Extent) → HasPlaces extent → IsMarkOf mark bytes header program tables extent → ⊥
IsMarked mark bytes header program tables (Some front) =
    IsMarkOf mark bytes header program tables front.extent × Holds256 front.hasher (take front.extent.at (bytes_of bytes))

-- the folder keeps these tables, under this mark
pub record Keeps (k : HeldFiles) (mark tables : List ℕ) : Type 0 where
  pub mark_is : FetchesAll (k file.State) most_file mark
  pub tables_are : FetchesAll (k file.Kept) most_file tables

-- The folder keeps nothing; or what it keeps is not of this file, header and program; or it keeps this, and it is.
abbrev pub IsFoundIn : Option (List ℕ) → Bool → List ℕ → HeldFiles → Found → Type 0
IsFoundIn bytes header program k is.Nothing = (mark tables : List ℕ) → Keeps k mark tables → ⊥
IsFoundIn bytes header program k is.Changed = (mark tables : List ℕ) × Keeps k mark tables × IsMarked mark bytes header program tables None
IsFoundIn bytes header program k (is.This kept) =
    (mark : List ℕ) × Keeps k mark kept.tables × IsMarked mark bytes header program kept.tables (Some kept.front)
