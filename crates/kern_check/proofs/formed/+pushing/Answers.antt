use Rattle.std.proofs.Common.{sym}
use Rattle.kern_check.proofs.FormLemmas.{pushes_next}
use Rattle.kern_check.proofs.formed.+pushing.Goals as goal

pub left_after-loop-s-preserved : goal.left_after-loop-s-preserved
left_after-loop-s-preserved t c =
    pushes_next _ c.loop-s.s-index c.s-item.result c.loop-s.left _ _ c.loop-s-test.true c.s-item.is (sym c.in_ok-left.ensures) c.loop-s.invariant
