-- What is printed of rows is a file of these rows.
use Rattle.std.specs.Prelude.{◌≡◌, ℕ, ◌<◌, ◌≤◌, ℤ, Bool, false, All, List, length, Ok}
use Rattle.river_base.specs.Number.{IsValue}
use Rattle.river_base.specs.Row.{HaveWidth}
use Rattle.csv_streams.specs.Outcome.{row_line, texts_of}
use Rattle.csv_streams.specs.Rows.{most_rows, rows_of_file}

-- Rows of values, at most 100,000, that are printed line by line, are read of these lines as a file without a header.
abbrev pub PrintedRowsAreRead : Type 0
PrintedRowsAreRead =
    (width : ℕ) (more : Bool) (rows : List (List ℤ)) → 0 < width → HaveWidth width rows → All (λ row. All IsValue row) rows → length rows ≤ most_rows
    → rows_of_file (texts_of row_line rows) width false more ≡ Ok rows
