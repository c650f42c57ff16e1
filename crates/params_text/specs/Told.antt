-- The programs that a text can stand for.
use Rattle.std.specs.Prelude.{◌≡◌, ◌≤◌, ℕ, zero, suc, true, List, [], ◌∷◌, Option, Some, None}
use Rattle.streamit_text.specs.Tree.{Expression, depth_of}
use Rattle.streamit_text.specs.Tree as tree
use Rattle.streamit_text.specs.Tree.{Statement, Declare, Assign, Push, Discard, If, For, Block, End, Then, Optional, Unwritten, Written}
use Rattle.streamit_text.specs.Program.{WorkTree, FilterTree, Dealing, Copies, Turns, Adds, Body, AFilter, APipeline, ASplitJoin, UnitForm, Program}
use Rattle.streamit_text.specs.Grammar.{stay_optional}
use Rattle.streamit_text.specs.Words.{is_own}

abbrev pub IsOwnName : List ℕ → Type 0
IsOwnName n = is_own n ≡ true

abbrev pub AreOwnNames : List (List ℕ) → Type 0
AreOwnNames [] = Unit {0}
AreOwnNames (n ∷ ns) = IsOwnName n × AreOwnNames ns

abbrev pub IsToldTree : Expression → Type 0
IsToldTree (tree.Number v) = v ≤ 9223372036854775807
IsToldTree (tree.Name n) = IsOwnName n
IsToldTree (tree.Peek t) = IsToldTree t
IsToldTree tree.Pop = Unit {0}
IsToldTree (tree.Neg t) = IsToldTree t
IsToldTree (tree.Not t) = IsToldTree t
IsToldTree (tree.Bin o a b) = IsToldTree a × IsToldTree b

-- at most 64 deep
abbrev pub IsToldExpr : Expression → Type 0
IsToldExpr t = IsToldTree t × (depth_of t ≤ 64)

-- each expression is such a one
abbrev pub FirstBy : (Expression → Type 0) → Option Expression → Type 0
FirstBy E None = Unit {0}
FirstBy E (Some t) = E t

-- `if` and `for` together nest so deep at most
abbrev mutual
  pub OnceBy : (Expression → Type 0) → ℕ → Statement → Type 0
  OnceBy E nest (Declare n t) = IsOwnName n × FirstBy E t
  OnceBy E nest (Assign n t) = IsOwnName n × E t
  OnceBy E nest (Push t) = E t
  OnceBy E nest Discard = Unit {0}
  OnceBy E zero (If t a b) = ⊥
  OnceBy E (suc nest) (If t a b) = E t × AllBy E nest a × OptionalBy E nest b
  OnceBy E zero (For n low upto high b) = ⊥
  OnceBy E (suc nest) (For n low upto high b) = IsOwnName n × E low × E high × AllBy E nest b

  pub AllBy : (Expression → Type 0) → ℕ → Block → Type 0
  AllBy E nest End = Unit {0}
  AllBy E nest (Then c b) = OnceBy E nest c × AllBy E nest b

  pub OptionalBy : (Expression → Type 0) → ℕ → Optional → Type 0
  OptionalBy E nest Unwritten = Unit {0}
  OptionalBy E nest (Written b) = AllBy E nest b

abbrev pub IsToldAll : ℕ → Block → Type 0
IsToldAll nest b = AllBy IsToldExpr nest b

abbrev pub IsToldOptional : ℕ → Optional → Type 0
IsToldOptional nest b = OptionalBy IsToldExpr nest b

abbrev pub IsToldRate : Option ℕ → Type 0
IsToldRate None = Unit {0}
IsToldRate (Some n) = n ≤ 4294967295

pub record IsToldWork (w : WorkTree) : Type 0 where
  pub push : IsToldRate w.push
  pub pop : IsToldRate w.pop
  pub peek : IsToldRate w.peek
  pub block : IsToldAll 16 w.block

abbrev pub IsToldPrework : Option WorkTree → Type 0
IsToldPrework None = Unit {0}
IsToldPrework (Some w) = IsToldWork w

pub record IsToldFilter (t : FilterTree) : Type 0 where
  pub fields : AreOwnNames t.fields
  pub init : IsToldOptional 16 t.init
  pub stays : stay_optional t.init ≡ true
  pub prework : IsToldPrework t.prework
  pub work : IsToldWork t.work

abbrev pub AreToldAdds : Adds → Type 0
AreToldAdds a = IsOwnName a.first × AreOwnNames a.others

abbrev pub AreToldNumbers : List ℕ → Type 0
AreToldNumbers [] = Unit {0}
AreToldNumbers (n ∷ ns) = (n ≤ 9223372036854775807) × AreToldNumbers ns

abbrev pub AreToldWeights : Option (List ℕ) → Type 0
AreToldWeights None = Unit {0}
AreToldWeights (Some ws) = AreToldNumbers ws

abbrev pub IsToldDealing : Dealing → Type 0
IsToldDealing Copies = Unit {0}
IsToldDealing (Turns ws) = AreToldWeights ws

abbrev pub IsToldBody : Body → Type 0
IsToldBody (AFilter t) = IsToldFilter t
IsToldBody (APipeline a) = AreToldAdds a
IsToldBody (ASplitJoin d a ws) = IsToldDealing d × AreToldAdds a × AreToldWeights ws

abbrev pub IsToldUnit : UnitForm → Type 0
IsToldUnit u = IsOwnName u.name × IsToldBody u.body

abbrev pub IsToldProgram : Program → Type 0
IsToldProgram [] = Unit {0}
IsToldProgram (u ∷ us) = IsToldUnit u × IsToldProgram us
