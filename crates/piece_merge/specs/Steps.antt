-- One step of merging.
use Rattle.std.specs.Prelude.{◌≡◌, ℕ, ℤ, false, List, slice_set}
use Rattle.csv_streams.specs.Written.{WritesRow}
use Rattle.kern_tables.specs.declared.kept.Aggregate.{Aggregate}
use Rattle.kern_tables.specs.Kept.{with_row, added_all, kind_of_table, width_of_table}
use Rattle.river_plan.specs.declared.plan.TableDecl.{TableDecl}
use Rattle.piece_merge.specs.Added.{SectionWrites, SectionsWrite}
use Rattle.piece_merge.specs.Merging.{added_each}

-- the row of a record was added
pub record AddedRecord (fields : List (List ℕ)) (old new : Aggregate) : Type 0 where
  pub row : List ℤ
  pub writes : WritesRow (width_of_table old) false fields row
  pub is : new ≡ with_row old row

-- the rows of a section were added
pub record AddedSection (section : List ℕ) (old new : Aggregate) : Type 0 where
  pub rows : List (List ℤ)
  pub write : SectionWrites (kind_of_table old) section rows
  pub is : new ≡ added_all old rows

-- so at the place of a table
pub record AddedAt (section : List ℕ) (place : ℕ) (at : Aggregate) (old new : List Aggregate) : Type 0 where
  pub next : Aggregate
  pub added : AddedSection section at next
  pub is : new ≡ slice_set old place next

-- the rows of each section were added to its table
pub record AddedSections (tables : List TableDecl) (sections : List (List ℕ)) (old new : List Aggregate) : Type 0 where
  pub rows : List (List (List ℤ))
  pub write : SectionsWrite tables sections rows
  pub is : new ≡ added_each old rows
