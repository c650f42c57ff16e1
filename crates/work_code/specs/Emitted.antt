-- Rows that were pushed, kept as their values one after another.
use Rattle.std.specs.Prelude.{ℕ, ℤ, ◌+◌, ◌≤◌, List, take, drop}
use Rattle.work_code.specs.declared.emitted.Mark.{Mark}

-- a row that a mark cuts off the values, with its port
abbrev pub row_at : List ℤ → Mark → ℕ × List ℤ
row_at values m = (m.port, take m.width (drop m.start values))

-- a mark is that of a row of 1 to 16 of so many values
pub record IsMark (all : ℕ) (m : Mark) : Type 0 where
  pub some : 1 ≤ m.width
  pub at_most : m.width ≤ 16
  pub within : m.start + m.width ≤ all
