-- StreamIt's statements and expressions as trees, without their places in memory.
use Rattle.std.specs.Prelude.{ℕ, suc, max, Bool, true, false, List, [], ◌∷◌, Option, Some, None}
use Rattle.work_code.specs.declared.expr.BinOp.{BinOp}
use Rattle.text_blocks.specs.Parts.{optional}
use Rattle.streamit_text.specs.declared.tree.Expr.{Expr, fold-Expr}
use Rattle.streamit_text.specs.declared.tree.Expr.TheOpen.{Expr-F}
use Rattle.streamit_text.specs.declared.tree.Expr.TheOpen as part
use Rattle.streamit_text.specs.declared.tree.Statement as made
use Rattle.streamit_text.specs.declared.tree.Statement.{fold-Statement}
use Rattle.streamit_text.specs.declared.tree.Statement.TheOpen.{Statement-F, Block-F}
use Rattle.streamit_text.specs.declared.tree.Statement.TheOpen as layer
use Rattle.streamit_text.specs.declared.tree.Block as made_block
use Rattle.streamit_text.specs.declared.tree.Block.{fold-Block}
use Rattle.streamit_text.specs.declared.tree.Until.{Until}
use Rattle.streamit_text.specs.declared.tree.Until.TheVariants.{Below, UpTo}

pub data Expression : Type 0 where
  Number : ℕ → Expression
  Name : List ℕ → Expression
  Peek : Expression → Expression
  Pop : Expression
  Neg : Expression → Expression
  Not : Expression → Expression
  Bin : BinOp → Expression → Expression → Expression

-- a leaf is 1 deep
abbrev pub depth_of : Expression → ℕ
depth_of (Number value) = 1
depth_of (Name text) = 1
depth_of (Peek t) = suc (depth_of t)
depth_of Pop = 1
depth_of (Neg t) = suc (depth_of t)
depth_of (Not t) = suc (depth_of t)
depth_of (Bin o a b) = suc (max (depth_of a) (depth_of b))

mutual
  pub data Statement : Type 0 where
    Declare : List ℕ → Option Expression → Statement
    Assign : List ℕ → Expression → Statement
    Push : Expression → Statement
    Discard : Statement
    -- the condition, the first arm, and the second, if it is written
    If : Expression → Block → Optional → Statement
    -- the variable, the lower bound, whether the upper bound is a turn too, and the upper bound
    For : List ℕ → Expression → Bool → Expression → Block → Statement

  pub data Block : Type 0 where
    End : Block
    Then : Statement → Block → Block

  -- a block that may be left out: an option, which a tree cannot hold itself in
  pub data Optional : Type 0 where
    Unwritten : Optional
    Written : Block → Optional

-- one layer of an expression, whose parts are trees already
abbrev pub expression_layer : Expr-F Expression → Expression
expression_layer (part.Bin o l r) = Bin o l.value r.value
expression_layer (part.Neg t) = Neg t.value
expression_layer (part.Not t) = Not t.value
expression_layer (part.Number v) = Number v
expression_layer (part.Name n) = Name n
expression_layer (part.Peek t) = Peek t.value
expression_layer part.Pop = Pop

abbrev pub expression : Expr → Expression
expression e = fold-Expr Expression expression_layer e

abbrev pub option_expression : Option Expr → Option Expression
option_expression e = optional expression e

-- whether the upper bound of a loop is a turn too
abbrev pub is_turn : Until → Bool
is_turn Below = false
is_turn UpTo = true

-- the statements, one after another
abbrev pub in_turn : List Statement → Block
in_turn [] = End
in_turn (s ∷ ss) = Then s (in_turn ss)

abbrev pub or_unwritten : Option Block → Optional
or_unwritten None = Unwritten
or_unwritten (Some b) = Written b

abbrev pub statement_layer : Statement-F Statement Block → Statement
statement_layer (layer.Declare name value) = Declare name (option_expression value)
statement_layer (layer.Assign name value) = Assign name (expression value)
statement_layer (layer.Push value) = Push (expression value)
statement_layer layer.Pop = Discard
statement_layer (layer.If cond one two) = If (expression cond) one (or_unwritten two)
statement_layer (layer.For name low until high body) = For name (expression low) (is_turn until) (expression high) body

abbrev pub block_layer : Block-F Statement Block → Block
block_layer all = in_turn all.items.items

abbrev pub statement : made.Statement → Statement
statement s = fold-Statement Statement Block statement_layer block_layer s

abbrev pub block : made_block.Block → Block
block b = fold-Block Statement Block statement_layer block_layer b

-- a block that may be left out
abbrev pub optional_block : Option made_block.Block → Optional
optional_block b = or_unwritten (optional block b)
