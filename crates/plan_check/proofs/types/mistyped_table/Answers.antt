use Rattle.std.proofs.Common.{Some, None, List, refl, subst}
use Rattle.river_plan.specs.declared.plan.TableDecl.{TableDecl}
use Rattle.river_plan.specs.First.{IsFirst}
use Rattle.river_plan.specs.Faults.{IsTableKind}
use Rattle.plan_check.proofs.Remains.{remains-start, remains-next, remains-found, remains-end}
use Rattle.river_plan.proofs.NameLemmas.{not_false}
use Rattle.plan_check.proofs.types.mistyped_table.Goals as goal

pub loop-table-init : goal.loop-table-init
loop-table-init c = remains-start _ _

pub loop-table-preserved : goal.loop-table-preserved
loop-table-preserved c = remains-next _ _ _ _ c.loop-table-test.true c.table-item.is (c.if-not-is_table.ensures.0 refl) c.loop-table.invariant

pub returns-then-not-is_table : goal.returns-then-not-is_table
returns-then-not-is_table c = (
  c.table-item.result,
  refl,
  subst (λ (l : List TableDecl). IsFirst (λ before d. IsTableKind d.kind) l (Some c.table-item.result)) c.as_slice-table-items.ensures
      (remains-found _ _ _ _ _ c.loop-table-test.true c.table-item.is ((λ g. not_false (c.if-not-is_table.ensures.1 g)), refl) c.loop-table.invariant),
)

pub returns : goal.returns
returns c = subst (λ (l : List TableDecl). IsFirst (λ before d. IsTableKind d.kind) l None) c.as_slice-table-items.ensures
    (remains-end _ _ _ c.loop-table-test.false c.loop-table.invariant)
