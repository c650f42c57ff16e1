-- The names that a plan makes.
use Rattle.std.specs.Prelude.{ℕ, ◌<◌, ◌^◌, List, [], ◌++◌, codes}
use Rattle.river_plan.specs.Forms.{Name}
use Rattle.cql_model.specs.Numeral.{numeral}
use Rattle.cql_model.specs.Plan.{at_word}
use Rattle.cql_build.specs.declared.names.Mark.{Mark}
use Rattle.cql_build.specs.declared.names.Mark.TheVariants.{Window, Cross, Copy, Select, Project, Stream, Output, Copies}

-- the word of a mark
abbrev pub word : Mark → List ℕ
word (Window k) = codes "w" ++ numeral k
word (Cross k) = codes "x" ++ numeral k
word (Copy k) = [] ++ numeral k
word Select = codes "s"
word Project = codes "p"
word Stream = codes "i"
word Output = codes "o"
word Copies = codes "d"

-- a name with a mark behind it
abbrev pub name_marked : Name → Mark → Name
name_marked base mark = at_word base (word mark)

-- the numbers of a mark have a place in 64 bits
abbrev pub IsLowMark : Mark → Type 0
IsLowMark (Window k) = k < 2 ^ 64
IsLowMark (Cross k) = k < 2 ^ 64
IsLowMark (Copy k) = k < 2 ^ 64
IsLowMark Select = Unit {0}
IsLowMark Project = Unit {0}
IsLowMark Stream = Unit {0}
IsLowMark Output = Unit {0}
IsLowMark Copies = Unit {0}
