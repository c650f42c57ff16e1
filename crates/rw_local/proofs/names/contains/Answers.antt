use Rattle.std.proofs.Common.{◌<◌, List, refl, sym, subst}
use Rattle.river_plan.specs.Forms.{Name}
use Rattle.river_plan.specs.Names.{count}
use Rattle.rw_local.proofs.NameLoops.{none_next, there_at}
use Rattle.rw_local.proofs.names.contains.Goals as goal

pub returns-then-eq : goal.returns-then-eq
returns-then-eq c = (
  (λ h. subst (λ (l : List Name). 0 < count c.args.name l) c.as_slice-other-items.ensures
      (there_at c.args.name _ _ c.other-item.result c.loop-other-test.true c.other-item.is (sym c.if-eq.ensures))),
  (λ h. refl),
)

pub loop-other-preserved : goal.loop-other-preserved
loop-other-preserved c = none_next c.args.name _ _ c.other-item.result c.loop-other-test.true c.other-item.is (sym c.if-eq.ensures) c.loop-other.invariant
