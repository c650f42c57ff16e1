use Rattle.std.proofs.Common.{◌+◌, ◌*◌}
use Rattle.std.specs.Prelude.{max}
use Rattle.streamit_text.specs.declared.tree.Expr.{size-Expr}
use Rattle.streamit_unroll.proofs.term.+constant.Given as goal

abbrev pub decreases-constant : goal.decreases-constant
decreases-constant l = goal.size-constant l * 2

abbrev pub decreases-constants : goal.decreases-constants
decreases-constants l = max (size-Expr l.left.now) (size-Expr l.right.now) * 2 + 1
