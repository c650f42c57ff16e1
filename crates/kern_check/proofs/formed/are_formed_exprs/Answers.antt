use Rattle.std.proofs.Common.{sym, ◌∙◌}
use Rattle.kern_check.proofs.FormLemmas.{terms_next}
use Rattle.kern_check.proofs.formed.are_formed_exprs.Goals as goal

pub loop-e-preserved : goal.loop-e-preserved
loop-e-preserved c =
    terms_next c.args.inputs c.args.slots _ c.loop-e.e-index c.e-item.result _ c.loop-e-test.true c.e-item.is
    (sym c.is_formed_expr.ensures ∙ c.if-not-is_formed_expr.false) c.loop-e.invariant
