use Rattle.std.proofs.Common.{◌+◌, ◌*◌}
use Rattle.std.specs.Prelude.{max}
use Rattle.streamit_text.specs.declared.tree.Expr.{size-Expr}
use Rattle.streamit_unroll.proofs.term.+term.Given as goal

abbrev pub decreases-term : goal.decreases-term
decreases-term l = goal.size-term l * 2

abbrev pub decreases-terms : goal.decreases-terms
decreases-terms l = max (size-Expr l.left.now) (size-Expr l.right.now) * 2 + 1
