use Rattle.std.proofs.Common.{sym, ◌∙◌}
use Rattle.kern_check.proofs.FormLemmas.{steps_next}
use Rattle.kern_check.proofs.formed.+formed.Goals as goal

pub are_formed_stmts-loop-s-preserved : goal.are_formed_stmts-loop-s-preserved
are_formed_stmts-loop-s-preserved t c =
    steps_next c.args.inputs c.args.slots c.args.outs.now _ c.loop-s.s-index c.s-item.result _ c.loop-s-test.true c.s-item.is
    (sym c.is_formed_stmt.ensures ∙ c.if-not-is_formed_stmt.false) c.loop-s.invariant
