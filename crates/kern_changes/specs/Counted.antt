-- A bag of rows by the number of copies of each.
use Rattle.std.specs.Prelude.{◌≡◌, ◌+◌, ◌-◌, ℕ, ℤ, List, [], ◌∷◌, ◌++◌, replicate, if◌then◌else◌}
use Rattle.river_base.specs.Row.{row_eq, copies}
use Rattle.river_base.specs.declared.item.Change.{Change}

-- each row so often
abbrev pub rows_counted : List (List ℤ × ℕ) → List (List ℤ)
rows_counted [] = []
rows_counted (e ∷ es) = replicate e.1 e.0 ++ rows_counted es

-- the lists are one bag
pub record AreSame (xs ys : List (List ℤ)) : Type 0 where
  pub each : (row : List ℤ) → copies row xs ≡ copies row ys

-- one more such row
pub record CameOne (row : List ℤ) (old new : List (List ℤ)) : Type 0 where
  pub each : (r : List ℤ) → copies r new ≡ copies r old + (if row_eq r row then 1 else 0)

-- one such row less, where there is one
pub record WentOne (row : List ℤ) (old new : List (List ℤ)) : Type 0 where
  pub each : (r : List ℤ) → copies r new ≡ copies r old - (if row_eq r row then 1 else 0)

-- these rows came
pub record CameAll (rows old new : List (List ℤ)) : Type 0 where
  pub each : (r : List ℤ) → copies r new ≡ copies r old + copies r rows

-- these rows went, as far as they were there
pub record WentAll (rows old new : List (List ℤ)) : Type 0 where
  pub each : (r : List ℤ) → copies r new ≡ copies r old - copies r rows

-- a change was made: what goes was taken out, and what comes put in
pub record Changed (c : Change) (old new : List (List ℤ)) : Type 0 where
  pub each : (r : List ℤ) → copies r new ≡ copies r old - copies r c.minus + copies r c.plus
