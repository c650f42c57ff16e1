use Rattle.std.proofs.Common.{Some, None, List, refl, subst}
use Rattle.river_plan.specs.Forms.{Name}
use Rattle.river_plan.specs.First.{IsFirst}
use Rattle.river_plan.specs.Faults.{IsIn}
use Rattle.plan_check.proofs.Remains.{remains-start, remains-next, remains-found, remains-end}
use Rattle.river_plan.proofs.NameLemmas.{not_false}
use Rattle.plan_check.proofs.search.first_missing.Goals as goal

pub loop-name-init : goal.loop-name-init
loop-name-init c = remains-start _ _

pub loop-name-preserved : goal.loop-name-preserved
loop-name-preserved c = remains-next _ _ _ _ c.loop-name-test.true c.name-item.is (c.if-not-contains.ensures.0 refl) c.loop-name.invariant

pub returns-then-not-contains : goal.returns-then-not-contains
returns-then-not-contains c = subst (λ (l : List Name). IsFirst (IsIn c.args.set.now) l (Some c.name-item.result)) c.as_slice-name-items.ensures
    (remains-found _ _ _ _ _ c.loop-name-test.true c.name-item.is ((λ g. not_false (c.if-not-contains.ensures.1 g)), refl) c.loop-name.invariant)

pub returns : goal.returns
returns c = subst (λ (l : List Name). IsFirst (IsIn c.args.set.now) l None) c.as_slice-name-items.ensures
    (remains-end _ _ _ c.loop-name-test.false c.loop-name.invariant)
