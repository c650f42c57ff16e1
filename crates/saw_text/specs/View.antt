-- What lists and optional parts of the code's trees stand for.
use Rattle.std.specs.Prelude.{List, Option, map}
use Rattle.text_blocks.specs.Parts.{optional}
use Rattle.saw_text.specs.declared.tree.Expr.{Expr}
use Rattle.saw_text.specs.declared.tree.Block as made
use Rattle.saw_text.specs.Tree.{Expression, Block, expression, block}

abbrev pub expressions : List Expr → List Expression
expressions es = map expression es

abbrev pub option_block : Option made.Block → Option Block
option_block b = optional block b
