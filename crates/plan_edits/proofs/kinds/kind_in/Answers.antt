use Rattle.std.proofs.Common.{refl, sym, ap, ◌∙◌}
use Rattle.std.proofs.lemmas.List.{at_drop_all}
use Rattle.river_plan.specs.Kinds.{kind_in}
use Rattle.plan_edits.proofs.KindLoops.{kind_next, kind_found}
use Rattle.plan_edits.proofs.kinds.kind_in.Goals as goal

pub loop-decl-init : goal.loop-decl-init
loop-decl-init c = refl

pub loop-decl-preserved : goal.loop-decl-preserved
loop-decl-preserved c =
    kind_next c.args.queue.now c.as_slice-decl-items.result.now c.loop-decl.decl-index c.decl-item.result c.loop-decl-test.true c.decl-item.is
    (sym c.eq.ensures ∙ c.if-eq.false) c.loop-decl.invariant

pub returns-then-eq : goal.returns-then-eq
returns-then-eq c =
    kind_found c.args.queue.now c.as_slice-decl-items.result.now c.loop-decl.decl-index c.decl-item.result c.loop-decl-test.true c.decl-item.is
    (sym c.eq.ensures ∙ c.if-eq.true) c.loop-decl.invariant
    ∙ ap (λ l. kind_in l c.args.queue.now) c.as_slice-decl-items.ensures

pub returns : goal.returns
returns c =
    sym (at_drop_all (λ l. kind_in l c.args.queue.now) c.as_slice-decl-items.result.now c.loop-decl.decl-index c.loop-decl-test.false)
    ∙ c.loop-decl.invariant
    ∙ ap (λ l. kind_in l c.args.queue.now) c.as_slice-decl-items.ensures
