-- What becomes of a file whose rows are spread over instants.
use Rattle.std.specs.Prelude.{◌≡◌, ℕ, ℤ, Bool, true, false, int_lt, int_le, List, map, flat_map, Ok}
use Rattle.std.specs.List.{Contains}
use Rattle.std.specs.List.Sorted.{IsStrictlySortedBy, IsPartitionPoint}
use Rattle.std.specs.Ordering.{int_cmp}
use Rattle.river_base.specs.declared.item.Batch.{Batch}
use Rattle.river_base.specs.Held.{batches}
use Rattle.river_base.specs.Instants.{at_instant, spread}
use Rattle.csv_streams.specs.Timed.{Entry, timed_of}

-- before this place stand the timed rows below an instant, and from there on the others
abbrev pub IsFirstItem : List Entry → ℤ → ℕ → Type 0
IsFirstItem rows t n = IsPartitionPoint (λ (e : Entry). int_lt e.0 t ≡ true) (λ (e : Entry). int_lt e.0 t ≡ false) rows n

-- before this place stand the timed rows that are not above an instant, and from there on the others
abbrev pub IsEnd : List Entry → ℤ → ℕ → Type 0
IsEnd rows t m = IsPartitionPoint (λ (e : Entry). int_le e.0 t ≡ true) (λ (e : Entry). int_le e.0 t ≡ false) rows m

-- the rows of batches, each behind the instant of its batch
abbrev pub rows_behind : List Batch → List Entry
rows_behind bs = flat_map (λ (b : Batch). map (λ row. (b.at, row)) b.rows) bs

-- there is a batch for each instant, in their order
abbrev pub EachInstantHasABatch : Type 0
EachInstantHasABatch = (ts : List ℤ) (file : List Entry) → map (λ (b : Batch). b.at) (batches (spread ts (at_instant file))) ≡ ts

-- of a file that is read no row is lost or doubled, where the instants rise and have all its timestamps
abbrev pub NoRowIsLost : Type 0
NoRowIsLost =
    (bytes : List ℕ) (width : ℕ) (skip_first : Bool) (file : List Entry) (ts : List ℤ)
    → timed_of bytes width skip_first ≡ Ok file
    → IsStrictlySortedBy int_cmp ts
    → ((t : ℤ) → Contains (map (λ (e : Entry). e.0) file) t → Contains ts t)
    → rows_behind (batches (spread ts (at_instant file))) ≡ file
