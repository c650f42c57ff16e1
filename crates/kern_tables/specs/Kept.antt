-- What a table keeps: what stands at each key.
use Rattle.std.specs.Prelude.{ℕ, ℤ, pos, List, [], fold}
use Rattle.kern_tables.specs.declared.kind.TableKind.{TableKind}
use Rattle.kern_tables.specs.declared.kind.TableKind.TheVariants.{Sum, Collection, Maximum}
use Rattle.river_base.specs.Bags.{put_in_order}
use Rattle.kern_tables.specs.Keyed.{put, keyed}
use Rattle.river_base.specs.Row.{row_cmp, row_lt, in_order}
use Rattle.kern_tables.specs.declared.kept.Aggregate.{Aggregate}
use Rattle.kern_tables.specs.declared.kept.Aggregate.TheVariants.{Sums, Rows, Maxima}
use Rattle.kern_tables.specs.Entries.{split, splits, best_more, sum_rows, maximum_rows}
use Rattle.kern_tables.specs.Tables.{table_width, add_value}

-- what a table keeps after these rows were added
abbrev pub kept_of : TableKind → List (List ℤ) → Aggregate
kept_of (Sum keys) adds = Sums keys (keyed row_cmp (pos 0) add_value (splits keys adds))
kept_of (Collection keys) adds = Rows keys (in_order adds)
kept_of (Maximum best keys) adds = Maxima best keys (keyed row_cmp [] (best_more best) (splits keys adds))

-- and after one more
abbrev pub with_row : Aggregate → List ℤ → Aggregate
with_row (Sums keys es) row = Sums keys (put row_cmp (pos 0) add_value es (split keys row))
with_row (Rows keys rows) row = Rows keys (put_in_order row_lt row rows)
with_row (Maxima best keys es) row = Maxima best keys (put row_cmp [] (best_more best) es (split keys row))

-- and after these, one after another
abbrev pub added_all : Aggregate → List (List ℤ) → Aggregate
added_all t rows = fold with_row t rows

-- its rows
abbrev pub rows_of : Aggregate → List (List ℤ)
rows_of (Sums keys es) = sum_rows es
rows_of (Rows keys rows) = rows
rows_of (Maxima best keys es) = maximum_rows es

-- a table that keeps rows as they came is seen with its rows in order
abbrev pub shown : Aggregate → Aggregate
shown (Sums keys es) = Sums keys es
shown (Rows keys rows) = Rows keys (in_order rows)
shown (Maxima best keys es) = Maxima best keys es

-- the kind of a table
abbrev pub kind_of_table : Aggregate → TableKind
kind_of_table (Sums keys es) = Sum keys
kind_of_table (Rows keys rows) = Collection keys
kind_of_table (Maxima best keys es) = Maximum best keys

-- how many values a row of it has
abbrev pub width_of_table : Aggregate → ℕ
width_of_table t = table_width (kind_of_table t)
