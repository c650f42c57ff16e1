-- Rows of one width, kept as their values one after another.
use Rattle.std.specs.Prelude.{◌≡◌, ℕ, ℤ, ◌*◌, ◌≤◌, List, All, length, map}
use Rattle.river_base.specs.declared.item.Item as item
use Rattle.river_base.specs.declared.item.Flat.TheVariants.{One}
use Rattle.river_base.specs.declared.item.Item.TheVariants.{Flat}

-- the values are those of so many rows, each of 1 to 16 values
pub record AreEven (width count : ℕ) (values : List ℤ) : Type 0 where
  pub some : 1 ≤ width
  pub at_most : width ≤ 16
  pub whole : length values ≡ count * width

-- each row is as wide as this one
abbrev pub AreAsWide : List ℤ → List (List ℤ) → Type 0
AreAsWide row rows = All (λ r. length r ≡ length row) rows

-- rows as items
abbrev pub row_items : List (List ℤ) → List item.Item
row_items rows = map (λ row. Flat (One row)) rows
