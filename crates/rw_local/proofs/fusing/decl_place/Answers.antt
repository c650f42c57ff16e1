use Rattle.std.proofs.Common.{◌+◌, sym, ap, ◌∙◌}
use Rattle.river_plan.specs.Forms.{decl_names}
use Rattle.plan_edits.specs.Lists.{place_of_name}
use Rattle.rw_local.proofs.FuseCode.{decl_next_at, decl_at, decl_past}
use Rattle.rw_local.proofs.fusing.decl_place.Goals as goal

pub returns-then-eq : goal.returns-then-eq
returns-then-eq c =
    c.loop-decl.invariant.1 ∙ decl_at c.args.queue _ _ c.decl-item.result c.loop-decl-test.true c.decl-item.is (sym c.if-eq.ensures) c.loop-decl.invariant.0
    ∙ ap (λ l. place_of_name c.args.queue (decl_names l)) c.as_slice-decl-items.ensures

pub loop-decl-preserved : goal.loop-decl-preserved
loop-decl-preserved c = (
  decl_next_at c.args.queue _ _ c.decl-item.result c.loop-decl-test.true c.decl-item.is (sym c.if-eq.ensures) c.loop-decl.invariant.0,
  ap (λ n. n + 1) c.loop-decl.invariant.1,
)

pub returns : goal.returns
returns c =
    c.loop-decl.invariant.1 ∙ decl_past c.args.queue _ _ c.loop-decl-test.false c.loop-decl.auto.decl-index-end c.loop-decl.invariant.0
    ∙ ap (λ l. place_of_name c.args.queue (decl_names l)) c.as_slice-decl-items.ensures
