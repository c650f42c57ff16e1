-- What differences of bags need.
use Rattle.std.specs.Prelude.{ℤ, List, [], ◌∷◌, if◌then◌else◌}
use Rattle.river_base.specs.Row.{row_lt}

-- rows from the first one on that is not below a row
abbrev pub rows_from : List ℤ → List (List ℤ) → List (List ℤ)
rows_from row [] = []
rows_from row (x ∷ xs) = if row_lt x row then rows_from row xs else x ∷ xs
