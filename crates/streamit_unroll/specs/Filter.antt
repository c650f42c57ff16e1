-- What reading a filter sees to.
use Rattle.std.specs.Prelude.{Option, Some, None}
use Rattle.streamit_text.specs.Program.{WorkTree, FilterTree}
use Rattle.streamit_unroll.specs.Unrolling.{AreWritten, AreWrittenOptional}
use Rattle.streamit_model.specs.Shallow.{AreShallowOptional, KeepAllOptional}

abbrev pub IsWrittenPrework : Option WorkTree → Type 0
IsWrittenPrework None = Unit {0}
IsWrittenPrework (Some w) = AreWritten w.block

-- what the grammar sees to: numbers are values, expressions are not too deep, and `init` pops nothing
pub record IsReadable (t : FilterTree) : Type 0 where
  pub init : AreWrittenOptional t.init
  pub prework : IsWrittenPrework t.prework
  pub work : AreWritten t.work.block
  pub low : AreShallowOptional t.init
  pub kept : KeepAllOptional t.init
