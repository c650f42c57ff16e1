-- The trees of names and of `peek`.
use Rattle.std.proofs.Common.{◌≡◌, ℕ, List, sym, ap, ◌∙◌}
use Rattle.streamit_text.specs.Tree.{Expression, Name, expression, expression_layer}
use Rattle.streamit_text.specs.declared.tree.Expr as written
use Rattle.streamit_text.specs.declared.tree.Expr.{fold-roll-Expr}
use Rattle.streamit_text.specs.declared.tree.Expr.TheVariants.{rolls-Name}
use Rattle.streamit_text.specs.declared.tree.Expr.TheOpen as layer
use Rattle.streamit_text.proofs.Trees.{expression-peek}

-- the tree of a name
pub expression-name : (n : List ℕ) → expression (written.Name n) ≡ Name n
expression-name n = ap expression (sym (rolls-Name n)) ∙ fold-roll-Expr Expression expression_layer (layer.Name n)

pub ruleset names = (expression-name, expression-peek)
