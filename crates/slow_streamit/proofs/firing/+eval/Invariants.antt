use Rattle.std.proofs.Common.{◌+◌, ◌*◌}
use Rattle.std.specs.Prelude.{max}
use Rattle.streamit_text.specs.declared.tree.Expr.{size-Expr}
use Rattle.slow_streamit.proofs.firing.+eval.Given as goal

abbrev pub decreases-eval : goal.decreases-eval
decreases-eval l = goal.size-eval l * 2

abbrev pub decreases-both : goal.decreases-both
decreases-both l = max (size-Expr l.left.now) (size-Expr l.right.now) * 2 + 1
