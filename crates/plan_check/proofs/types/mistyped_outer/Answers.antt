use Rattle.std.proofs.Common.{Some, None, List, refl, subst}
use Rattle.river_plan.specs.declared.plan.Decl.{Decl}
use Rattle.river_plan.specs.First.{IsFirst}
use Rattle.river_plan.specs.Faults.{IsOuter}
use Rattle.plan_check.proofs.Remains.{remains-start, remains-next, remains-found, remains-end}
use Rattle.river_plan.proofs.NameLemmas.{not_false}
use Rattle.plan_check.proofs.types.mistyped_outer.Goals as goal

pub loop-decl-init : goal.loop-decl-init
loop-decl-init c = remains-start _ _

pub loop-decl-preserved : goal.loop-decl-preserved
loop-decl-preserved c = remains-next _ _ _ _ c.loop-decl-test.true c.decl-item.is (c.if-not-is_outer.ensures.0 refl) c.loop-decl.invariant

pub returns-then-not-is_outer : goal.returns-then-not-is_outer
returns-then-not-is_outer c = (
  c.decl-item.result,
  refl,
  subst (λ (l : List Decl). IsFirst (λ before d. IsOuter d) l (Some c.decl-item.result)) c.as_slice-decl-items.ensures
      (remains-found _ _ _ _ _ c.loop-decl-test.true c.decl-item.is ((λ g. not_false (c.if-not-is_outer.ensures.1 g)), refl) c.loop-decl.invariant),
)

pub returns : goal.returns
returns c = subst (λ (l : List Decl). IsFirst (λ before d. IsOuter d) l None) c.as_slice-decl-items.ensures
    (remains-end _ _ _ c.loop-decl-test.false c.loop-decl.invariant)
