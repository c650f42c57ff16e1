-- Rows of one width: their values one after another, and the type of a queue of them.
use Rattle.std.specs.Prelude.{ℕ, zero, suc, ℤ, List, [], ◌∷◌, take, drop}
use Rattle.river_base.specs.declared.kind.FlatType.TheVariants.{Rows}
use Rattle.river_base.specs.declared.kind.QueueType.{QueueType}
use Rattle.river_base.specs.declared.kind.QueueType.TheVariants.{Flat as FlatOf}

-- so many rows of this width, cut off the values from the front
abbrev pub cut_rows : ℕ → ℕ → List ℤ → List (List ℤ)
cut_rows width zero values = []
cut_rows width (suc n) values = take width values ∷ cut_rows width n (drop width values)

-- the type of a queue of rows of this width
abbrev pub rows_type : ℕ → QueueType
rows_type width = FlatOf (Rows width)
