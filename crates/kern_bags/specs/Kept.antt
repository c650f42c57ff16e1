-- What windows keep of the batches that came, and what it stands for.
use Rattle.std.specs.Prelude.{◌≡◌, ℤ, pos, ◌-◌, ◌-ℤ◌, ◌≤ℤ◌, Option, Some, None, List, [], ◌∷◌, ◌++◌, length, drop, map, filter, flat_map, int_le, int_lt}
use Rattle.std.specs.List.{AllByRecursion}
use Rattle.river_base.specs.declared.item.Batch.{Batch}
use Rattle.river_base.specs.declared.item.Item as item
use Rattle.river_base.specs.Held.{batches}
use Rattle.kern_bags.specs.Contents.{later, greatest, by_instant}
use Rattle.kern_bags.specs.declared.kernel.Window.{Window}
use Rattle.kern_bags.specs.declared.kernel.Window.TheVariants.{Now, Range, Unbounded, Latest}

-- a row that came, behind its instant
abbrev pub Stamped : Type 0
Stamped = ℤ × List ℤ

-- the rows of an instant
abbrev pub stamped : ℤ → List (List ℤ) → List Stamped
stamped at rows = map (λ row. (at, row)) rows

-- the rows that came, in order of their instants, and of their places where these are equal
abbrev pub stamped_in_order : List Batch → List Stamped
stamped_in_order bs = flat_map (λ b. stamped b.at b.rows) (by_instant bs)

-- no row stands before one of an earlier instant
abbrev pub AreInTurn : List Stamped → Type 0
AreInTurn [] = Unit {0}
AreInTurn (e ∷ es) = AllByRecursion (λ f. e.0 ≤ℤ f.0) es × AreInTurn es

-- rows of an instant come among them, behind those of the same instant
abbrev pub inserted : ℤ → List (List ℤ) → List Stamped → List Stamped
inserted at rows es = filter (λ e. int_le e.0 at) es ++ (stamped at rows ++ filter (λ e. int_lt at e.0) es)

-- those from an instant on
abbrev pub since : ℤ → List Stamped → List Stamped
since low es = filter (λ e. int_le low e.0) es

-- those that stand in a window where now is t
abbrev pub still_in : Window → ℤ → List Stamped → List Stamped
still_in Now t es = since t es
still_in (Range span) t es = since (later (pos 0) (t -ℤ span)) es
still_in Unbounded t es = es
still_in (Latest n) t es = drop (length es - n) es

-- now, the greatest instant so far; there is none before the first batch
abbrev pub now_of : List Batch → Option ℤ
now_of [] = None
now_of (b ∷ bs) = Some (greatest (b ∷ bs))

-- the same after one more batch
abbrev pub now_after : Option ℤ → ℤ → ℤ
now_after None at = at
now_after (Some t) at = later t at

-- what a window keeps: now, and the rows that stand in it
pub record WindowKept : Type 0 where
  pub now : Option ℤ
  pub rows : List Stamped

abbrev pub window_start : WindowKept
window_start = record { now = None; rows = [] }

-- it is kept of these items: the rows that stand in the window, and no others
pub record StandsForWindow (w : Window) (kept : WindowKept) (past : List item.Item) : Type 0 where
  pub now : kept.now ≡ now_of (batches past)
  pub rows : kept.rows ≡ still_in w (greatest (batches past)) (stamped_in_order (batches past))

-- some items are there of which it is kept
pub record IsWindowKept (w : Window) (kept : WindowKept) : Type 0 where
  pub past : List item.Item
  pub stands : StandsForWindow w kept past
