-- What reading sees to: numbers are values, and tables have short names.
use Rattle.std.specs.Prelude.{◌<◌, ◌≤◌, ◌^◌, List, [], ◌∷◌, length}
use Rattle.saw_text.specs.Tree.{Expression}
use Rattle.saw_text.specs.Tree as tree
use Rattle.saw_text.specs.Tree.{Statement, Declare, Assign, Emit, If, Block, End, Then, Optional, Unwritten, Written, UnitForm, TableUnit, StatementUnit, Program}
use Rattle.saw_model.specs.Meaning.{listed}

-- each number of an expression is below 2^63
abbrev pub AreValues : Expression → Type 0
AreValues (tree.Number v) = v < 2 ^ 63
AreValues (tree.Name n) = Unit {0}
AreValues (tree.Input p) = Unit {0}
AreValues (tree.Neg t) = AreValues t
AreValues (tree.Not t) = AreValues t
AreValues (tree.Bin o l r) = AreValues l × AreValues r

abbrev pub AllValues : List Expression → Type 0
AllValues [] = Unit {0}
AllValues (t ∷ ts) = AreValues t × AllValues ts

abbrev mutual
  pub IsValued : Statement → Type 0
  IsValued (Declare n t) = AllValues (listed t)
  IsValued (Assign n t) = AreValues t
  IsValued (Emit t is v w) = AllValues is × AreValues v × AllValues (listed w)
  IsValued (If t a b) = AreValues t × AreValued a × AreValuedOptional b

  pub AreValued : Block → Type 0
  AreValued End = Unit {0}
  AreValued (Then c b) = IsValued c × AreValued b

  pub AreValuedOptional : Optional → Type 0
  AreValuedOptional Unwritten = Unit {0}
  AreValuedOptional (Written b) = AreValued b

abbrev pub IsValuedUnit : UnitForm → Type 0
IsValuedUnit (TableUnit tb) = length tb.name ≤ 40
IsValuedUnit (StatementUnit c) = IsValued c

abbrev pub AreValuedUnits : Program → Type 0
AreValuedUnits [] = Unit {0}
AreValuedUnits (c ∷ ps) = IsValuedUnit c × AreValuedUnits ps
