-- How many fields a unit reads.
use Rattle.std.specs.Prelude.{ℕ}
use Rattle.saw_text.specs.Tree.{UnitForm, TableUnit, StatementUnit}
use Rattle.saw_model.specs.Meaning.{reach_statement}

abbrev pub reach_unit : UnitForm → ℕ
reach_unit (TableUnit tb) = 0
reach_unit (StatementUnit c) = reach_statement c
