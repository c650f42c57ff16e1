-- Sawzall programs as trees, without their places in memory.
use Rattle.std.specs.Prelude.{ℕ, suc, max, List, [], ◌∷◌, map, Option, Some, None}
use Rattle.work_code.specs.declared.expr.BinOp.{BinOp}
use Rattle.text_blocks.specs.Parts.{optional}
use Rattle.saw_text.specs.declared.tree.Expr.{Expr, fold-Expr}
use Rattle.saw_text.specs.declared.tree.Expr.TheOpen.{Expr-F}
use Rattle.saw_text.specs.declared.tree.Expr.TheOpen as part
use Rattle.saw_text.specs.declared.tree.Statement as made
use Rattle.saw_text.specs.declared.tree.Statement.TheOpen.{Statement-F, Block-F}
use Rattle.saw_text.specs.declared.tree.Statement.TheOpen as layer
use Rattle.saw_text.specs.declared.tree.Statement.{fold-Statement}
use Rattle.saw_text.specs.declared.tree.Block as made_block
use Rattle.saw_text.specs.declared.tree.Block.{fold-Block}
use Rattle.saw_text.specs.declared.tree.SawProgram.{SawProgram}
use Rattle.saw_text.specs.declared.tree.Kind.{Kind}
use Rattle.saw_text.specs.declared.tree.Field.{Field}
use Rattle.saw_text.specs.declared.tree.Table as made_table
use Rattle.saw_text.specs.declared.tree.Unit as unit
use Rattle.saw_text.specs.declared.tree.Unit.TheVariants as unit_of

pub data Expression : Type 0 where
  Number : ℕ → Expression
  Name : List ℕ → Expression
  Input : ℕ → Expression
  Neg : Expression → Expression
  Not : Expression → Expression
  Bin : BinOp → Expression → Expression → Expression

-- a leaf is 1 deep
abbrev pub depth_of : Expression → ℕ
depth_of (Number value) = 1
depth_of (Name text) = 1
depth_of (Input place) = 1
depth_of (Neg t) = suc (depth_of t)
depth_of (Not t) = suc (depth_of t)
depth_of (Bin o a b) = suc (max (depth_of a) (depth_of b))

mutual
  pub data Statement : Type 0 where
    Declare : List ℕ → Option Expression → Statement
    Assign : List ℕ → Expression → Statement
    -- the table, the indexes, the value, the weight
    Emit : List ℕ → List Expression → Expression → Option Expression → Statement
    If : Expression → Block → Optional → Statement

  pub data Block : Type 0 where
    End : Block
    Then : Statement → Block → Block

  -- what may be written behind `else`
  pub data Optional : Type 0 where
    Unwritten : Optional
    Written : Block → Optional

-- a table
pub record TableForm : Type 0 where
  pub name : List ℕ
  pub kind : Kind
  pub indexes : List Field
  pub value : Field
  pub weight : Option Field

-- a unit: a table, or a statement
pub data UnitForm : Type 0 where
  TableUnit : TableForm → UnitForm
  StatementUnit : Statement → UnitForm

abbrev pub Program : Type 0
Program = List UnitForm

-- WHAT THE CODE'S TREES STAND FOR

-- one layer of an expression, whose parts are trees already
abbrev pub expression_at : Expr-F Expression → Expression
expression_at (part.Number value) = Number value
expression_at (part.Name text) = Name text
expression_at (part.Input place) = Input place
expression_at (part.Neg x) = Neg x.value
expression_at (part.Not x) = Not x.value
expression_at (part.Bin op l r) = Bin op l.value r.value

abbrev pub expression : Expr → Expression
expression e = fold-Expr Expression expression_at e

abbrev pub option_expression : Option Expr → Option Expression
option_expression e = optional expression e

-- the statements, one after another
abbrev pub in_turn : List Statement → Block
in_turn [] = End
in_turn (s ∷ ss) = Then s (in_turn ss)

abbrev pub or_unwritten : Option Block → Optional
or_unwritten None = Unwritten
or_unwritten (Some b) = Written b

abbrev pub statement_at : Statement-F Statement Block → Statement
statement_at (layer.Declare name value) = Declare name (option_expression value)
statement_at (layer.Assign name value) = Assign name (expression value)
statement_at (layer.Emit table indexes value weight) = Emit table (map expression indexes.items) (expression value) (option_expression weight)
statement_at (layer.If cond one two) = If (expression cond) one (or_unwritten two)

abbrev pub block_at : Block-F Statement Block → Block
block_at all = in_turn all.statements.items

abbrev pub statement : made.Statement → Statement
statement s = fold-Statement Statement Block statement_at block_at s

abbrev pub block : made_block.Block → Block
block b = fold-Block Statement Block statement_at block_at b

abbrev pub table_form : made_table.Table → TableForm
table_form t = record { name = t.name; kind = t.kind; indexes = t.indexes.items; value = t.value; weight = t.weight }

abbrev pub unit_form : unit.Unit → UnitForm
unit_form (unit_of.Table t) = TableUnit (table_form t)
unit_form (unit_of.Statement s) = StatementUnit (statement s)

abbrev pub unit_forms : List unit.Unit → Program
unit_forms us = map unit_form us

abbrev pub program_of : SawProgram → Program
program_of p = unit_forms p.units.items
