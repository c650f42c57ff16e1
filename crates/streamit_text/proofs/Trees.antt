-- The trees of statements and expressions, layer by layer.
use Rattle.std.proofs.Common.{◌≡◌, ℕ, List, map, Option, Some, None, sym, ap, ◌∙◌, Global, Box}
use Rattle.streamit_text.specs.declared.tree.Until.{Until}
use Rattle.streamit_text.specs.declared.tree.Expr.{Expr, fold-roll-Expr}
use Rattle.streamit_text.specs.declared.tree.Expr as written
use Rattle.streamit_text.specs.declared.tree.Expr.TheVariants.{rolls-Peek}
use Rattle.streamit_text.specs.declared.tree.Expr.TheOpen as layer
use Rattle.streamit_text.specs.declared.tree.Statement.{Statement, fold-roll-Statement}
use Rattle.streamit_text.specs.declared.tree.Statement as made
use Rattle.streamit_text.specs.declared.tree.Statement.TheVariants.{rolls-Declare, rolls-Assign, rolls-Push, rolls-Pop, rolls-If, rolls-For}
use Rattle.streamit_text.specs.declared.tree.Statement.TheOpen as part
use Rattle.streamit_text.specs.declared.tree.Statement.TheFolds.{fold_out-Block}
use Rattle.streamit_text.specs.declared.tree.Block.{Block, size-Block}
use Rattle.streamit_text.specs.Tree.{expression, expression_layer, option_expression, is_turn, statement, block, optional_block, statement_layer, block_layer}
use Rattle.streamit_text.specs.Tree.{in_turn}
use Rattle.streamit_text.specs.Tree as source

-- the tree of `peek`
pub expression-peek : (t : Box Expr Global) → expression (written.Peek t) ≡ source.Peek (expression t.value)
expression-peek t = ap expression (sym (rolls-Peek t)) ∙ fold-roll-Expr source.Expression expression_layer (layer.Peek t)

-- the tree of a block
pub block-is : (all : Block) → block all ≡ in_turn (map statement all.items.items)
block-is all = fold_out-Block source.Statement source.Block statement_layer block_layer all

-- of a declaration
pub statement-declare : (name : List ℕ) (value : Option Expr) → statement (made.Declare name value) ≡ source.Declare name (option_expression value)
statement-declare name value =
    ap statement (sym (rolls-Declare name value)) ∙ fold-roll-Statement source.Statement source.Block statement_layer block_layer (part.Declare name value)

-- of an assignment
pub statement-assign : (name : List ℕ) (value : Expr) → statement (made.Assign name value) ≡ source.Assign name (expression value)
statement-assign name value =
    ap statement (sym (rolls-Assign name value)) ∙ fold-roll-Statement source.Statement source.Block statement_layer block_layer (part.Assign name value)

-- of a push
pub statement-push : (value : Expr) → statement (made.Push value) ≡ source.Push (expression value)
statement-push value = ap statement (sym (rolls-Push value)) ∙ fold-roll-Statement source.Statement source.Block statement_layer block_layer (part.Push value)

-- of a pop
pub statement-pop : statement made.Pop ≡ source.Discard
statement-pop = ap statement (sym rolls-Pop) ∙ fold-roll-Statement source.Statement source.Block statement_layer block_layer part.Pop

-- of an `if`
pub statement-if : (cond : Expr) (one : Block) (two : Option Block)
    → statement (made.If cond one two) ≡ source.If (expression cond) (block one) (optional_block two)
statement-if cond one None =
    ap statement (sym (rolls-If cond one None)) ∙ fold-roll-Statement source.Statement source.Block statement_layer block_layer (part.If cond one None)
statement-if cond one (Some two) =
    ap statement (sym (rolls-If cond one (Some two)))
    ∙ fold-roll-Statement source.Statement source.Block statement_layer block_layer (part.If cond one (Some two))

-- of a loop
pub statement-for : (name : List ℕ) (low : Expr) (until : Until) (high : Expr) (body : Block)
    → statement (made.For name low until high body) ≡ source.For name (expression low) (is_turn until) (expression high) (block body)
statement-for name low until high body =
    ap statement (sym (rolls-For name low until high body))
    ∙ fold-roll-Statement source.Statement source.Block statement_layer block_layer (part.For name low until high body)

-- how deep an arm that may be left out is
abbrev pub optional_size : Option Block → ℕ
optional_size None = 0
optional_size (Some b) = size-Block b

pub ruleset trees = (block-is, statement-declare, statement-assign, statement-push, statement-pop, statement-if, statement-for)
