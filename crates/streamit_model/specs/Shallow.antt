-- What reading sees to: no expression is deeper than 64, and `init` pops nothing.
use Rattle.std.specs.Prelude.{◌≡◌, ◌≤◌, Option, Some, None, [], ◌∷◌}
use Rattle.streamit_text.specs.Tree.{Expression, depth_of, Statement, Declare, Assign, Push, Discard, If, For, Block, End, Then, Optional, Unwritten, Written}
use Rattle.streamit_model.specs.Meaning.{pops}
use Rattle.streamit_text.specs.Program.{WorkTree, FilterTree, Body, AFilter, APipeline, ASplitJoin, Program}

abbrev pub IsLow : Expression → Type 0
IsLow t = depth_of t ≤ 64

abbrev pub IsLowFirst : Option Expression → Type 0
IsLowFirst None = Unit {0}
IsLowFirst (Some t) = IsLow t

abbrev mutual
  pub IsShallow : Statement → Type 0
  IsShallow (Declare n t) = IsLowFirst t
  IsShallow (Assign n t) = IsLow t
  IsShallow (Push t) = IsLow t
  IsShallow Discard = Unit {0}
  IsShallow (If t a b) = IsLow t × AreShallow a × AreShallowOptional b
  IsShallow (For n low upto high b) = AreShallow b

  pub AreShallow : Block → Type 0
  AreShallow End = Unit {0}
  AreShallow (Then c b) = IsShallow c × AreShallow b

  pub AreShallowOptional : Optional → Type 0
  AreShallowOptional Unwritten = Unit {0}
  AreShallowOptional (Written b) = AreShallow b

-- no item is popped in an expression
abbrev pub IsItemless : Expression → Type 0
IsItemless t = pops t ≡ 0

abbrev pub IsItemlessFirst : Option Expression → Type 0
IsItemlessFirst None = Unit {0}
IsItemlessFirst (Some t) = IsItemless t

-- a block as `init` has it: it pops nothing
abbrev mutual
  pub KeepsItems : Statement → Type 0
  KeepsItems (Declare n t) = IsItemlessFirst t
  KeepsItems (Assign n t) = IsItemless t
  KeepsItems (Push t) = ⊥
  KeepsItems Discard = ⊥
  KeepsItems (If t a b) = IsItemless t × KeepAll a × KeepAllOptional b
  KeepsItems (For n low upto high b) = KeepAll b

  pub KeepAll : Block → Type 0
  KeepAll End = Unit {0}
  KeepAll (Then c b) = KeepsItems c × KeepAll b

  pub KeepAllOptional : Optional → Type 0
  KeepAllOptional Unwritten = Unit {0}
  KeepAllOptional (Written b) = KeepAll b

abbrev pub IsShallowPrework : Option WorkTree → Type 0
IsShallowPrework None = Unit {0}
IsShallowPrework (Some w) = AreShallow w.block

-- the expressions of `prework` and of `work`
abbrev pub IsShallowFilter : FilterTree → Type 0
IsShallowFilter t = IsShallowPrework t.prework × AreShallow t.work.block

-- no expression of the program is deeper than 64
abbrev pub IsShallowBody : Body → Type 0
IsShallowBody (AFilter t) = IsShallowFilter t
IsShallowBody (APipeline a) = Unit {0}
IsShallowBody (ASplitJoin d a ws) = Unit {0}

abbrev pub AreShallowUnits : Program → Type 0
AreShallowUnits [] = Unit {0}
AreShallowUnits (u ∷ us) = IsShallowBody u.body × AreShallowUnits us
