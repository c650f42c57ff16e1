-- What reading a program sees to.
use Rattle.std.specs.List.{AllByRecursion}
use Rattle.streamit_text.specs.Program.{Body, AFilter, APipeline, ASplitJoin, Program}
use Rattle.streamit_unroll.specs.Filter.{IsReadable}

-- what the grammar sees to
abbrev pub IsReadableBody : Body → Type 0
IsReadableBody (AFilter t) = IsReadable t
IsReadableBody (APipeline a) = Unit {0}
IsReadableBody (ASplitJoin d a ws) = Unit {0}

-- and in all units
abbrev pub AreReadable : Program → Type 0
AreReadable p = AllByRecursion (λ d. IsReadableBody d.body) p
