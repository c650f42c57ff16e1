-- What reading a program sees to: no expression is deeper than 64.
use Rattle.std.specs.Prelude.{◌≤◌, List, [], ◌∷◌}
use Rattle.saw_text.specs.Tree.{Expression, depth_of}
use Rattle.saw_text.specs.Tree.{Statement, Declare, Assign, Emit, If, Block, End, Then, Optional, Unwritten, Written, UnitForm, TableUnit, StatementUnit, Program}
use Rattle.saw_model.specs.Meaning.{listed}

abbrev pub IsLow : Expression → Type 0
IsLow t = depth_of t ≤ 64

abbrev pub AreLow : List Expression → Type 0
AreLow [] = Unit {0}
AreLow (t ∷ ts) = IsLow t × AreLow ts

abbrev mutual
  pub IsShallow : Statement → Type 0
  IsShallow (Declare n t) = AreLow (listed t)
  IsShallow (Assign n t) = IsLow t
  IsShallow (Emit t is v w) = AreLow is × IsLow v × AreLow (listed w)
  IsShallow (If t a b) = IsLow t × AreShallow a × AreShallowOptional b

  pub AreShallow : Block → Type 0
  AreShallow End = Unit {0}
  AreShallow (Then c b) = IsShallow c × AreShallow b

  pub AreShallowOptional : Optional → Type 0
  AreShallowOptional Unwritten = Unit {0}
  AreShallowOptional (Written b) = AreShallow b

abbrev pub IsShallowPart : UnitForm → Type 0
IsShallowPart (TableUnit tb) = Unit {0}
IsShallowPart (StatementUnit c) = IsShallow c

abbrev pub AreShallowUnits : Program → Type 0
AreShallowUnits [] = Unit {0}
AreShallowUnits (c ∷ ps) = IsShallowPart c × AreShallowUnits ps
