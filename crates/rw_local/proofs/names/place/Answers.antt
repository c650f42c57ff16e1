use Rattle.std.proofs.Common.{◌+◌, sym, ap, ◌∙◌}
use Rattle.plan_edits.specs.Lists.{place_of_name}
use Rattle.rw_local.proofs.NameLoops.{none_next, place_at, place_past}
use Rattle.rw_local.proofs.names.place.Goals as goal

pub returns-then-eq : goal.returns-then-eq
returns-then-eq c =
    c.loop-other.invariant.1
    ∙ place_at c.args.name _ _ c.other-item.result c.loop-other-test.true c.other-item.is (sym c.if-eq.ensures) c.loop-other.invariant.0
    ∙ ap (place_of_name c.args.name) c.as_slice-other-items.ensures

pub loop-other-preserved : goal.loop-other-preserved
loop-other-preserved c = (
  none_next c.args.name _ _ c.other-item.result c.loop-other-test.true c.other-item.is (sym c.if-eq.ensures) c.loop-other.invariant.0,
  ap (λ n. n + 1) c.loop-other.invariant.1,
)

pub returns : goal.returns
returns c =
    c.loop-other.invariant.1 ∙ place_past c.args.name _ _ c.loop-other-test.false c.loop-other.auto.other-index-end c.loop-other.invariant.0
    ∙ ap (place_of_name c.args.name) c.as_slice-other-items.ensures
