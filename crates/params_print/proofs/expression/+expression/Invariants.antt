use Rattle.std.proofs.Common.{◌+◌, ◌*◌}
use Rattle.std.specs.Prelude.{max}
use Rattle.streamit_text.specs.declared.tree.Expr.{size-Expr}
use Rattle.params_print.proofs.expression.+expression.Given as goal

abbrev pub decreases-expression : goal.decreases-expression
decreases-expression l = goal.size-expression l * 3

abbrev pub decreases-operation : goal.decreases-operation
decreases-operation l = max (size-Expr l.left.now) (size-Expr l.right.now) * 3 + 2

abbrev pub decreases-between : goal.decreases-between
decreases-between l = goal.size-between l * 3 + 1
