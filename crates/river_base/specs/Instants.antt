-- Instants: the timestamps of files, and the rows of a file at each instant.
use Rattle.std.specs.Prelude.{ℤ, Bool, List, map, filter, flat_map}
use Rattle.std.specs.List.{dedup}
use Rattle.std.specs.Ordering.{int_eq, int_cmp, is_lt}
use Rattle.river_base.specs.Bags.{ascending}
use Rattle.river_base.specs.declared.item.Item as item
use Rattle.river_base.specs.declared.item.Flat.TheVariants.{Batch as Batched}
use Rattle.river_base.specs.declared.item.Item.TheVariants.{Flat}

-- rows at each instant
abbrev pub Timed : Type 0
Timed = ℤ → List (List ℤ)

-- a file's rows with this timestamp, in file order
abbrev pub at_instant : List (ℤ × List ℤ) → Timed
at_instant file t = map (λ e. e.1) (filter (λ e. int_eq e.0 t) file)

-- the timestamps of all files
abbrev pub stamps : List (List (ℤ × List ℤ)) → List ℤ
stamps files = flat_map (λ file. map (λ e. e.0) file) files

abbrev pub earlier : ℤ → ℤ → Bool
earlier t u = is_lt (int_cmp t u)

-- the values in ascending order, each once
abbrev pub each_once : List ℤ → List ℤ
each_once ts = dedup int_eq (ascending earlier ts)

-- the instants of files: all their timestamps in ascending order, each once
abbrev pub instants : List (List (ℤ × List ℤ)) → List ℤ
instants files = each_once (stamps files)

-- the batch of these rows at an instant
abbrev pub item_at : ℤ → List (List ℤ) → item.Item
item_at t rows = Flat (Batched (record { at = t; rows = rows }))

-- a batch for each instant
abbrev pub spread : List ℤ → Timed → List item.Item
spread ts s = map (λ t. item_at t (s t)) ts
