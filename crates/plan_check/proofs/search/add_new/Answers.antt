use Rattle.std.proofs.Common.{IsTrue, ◌≡◌, Some, None, List, refl, subst, sym, ap, ◌∙◌}
use Rattle.std.proofs.lemmas.List.{take_all}
use Rattle.river_plan.specs.Forms.{Name}
use Rattle.river_plan.specs.Names.{count}
use Rattle.river_plan.specs.Faults.{IsNew}
use Rattle.river_plan.specs.First.{IsFirst}
use Rattle.river_plan.proofs.NameLemmas.{not_false, new-next}
use Rattle.plan_check.proofs.Remains.{remains-start, remains-next, remains-found, remains-end}
use Rattle.plan_check.proofs.search.add_new.Goals as goal

pub loop-name-init : goal.loop-name-init
loop-name-init c = record { seen = c.requires; rest = remains-start _ _ }

pub loop-name-preserved : goal.loop-name-preserved
loop-name-preserved c =
    let z : count c.name-item.result c.loop-name.set ≡ 0 = c.in_ok-insert.ensures.fresh.0 c.if-not-branch.false in
    record {
      seen = new-next c.as_slice-name-items.result.now c.loop-name.name-index c.name-item.result c.loop-name.set c.insert.new.self
          c.loop-name-test.true c.name-item.is z c.in_ok-insert.ensures.added c.loop-name.invariant.seen;
      rest =
          remains-next _ _ _ _ c.loop-name-test.true c.name-item.is
          (ap (count c.name-item.result) (sym c.loop-name.invariant.seen) ∙ z) c.loop-name.invariant.rest;
    }

pub returns-then-not-branch-clause-first : goal.returns-then-not-branch-clause-first
returns-then-not-branch-clause-first c = subst (λ (l : List Name). IsFirst IsNew l (Some c.name-item.result)) c.as_slice-name-items.ensures
    (remains-found _ _ _ _ _ c.loop-name-test.true c.name-item.is
    ((λ g. not_false (subst IsTrue c.if-not-branch.true (c.in_ok-insert.ensures.fresh.1 (ap (count c.name-item.result) c.loop-name.invariant.seen ∙ g)))), refl)
    c.loop-name.invariant.rest)

pub returns-clause-first : goal.returns-clause-first
returns-clause-first c = subst (λ (l : List Name). IsFirst IsNew l None) c.as_slice-name-items.ensures
    (remains-end _ _ _ c.loop-name-test.false c.loop-name.invariant.rest)

pub returns-clause-all : goal.returns-clause-all
returns-clause-all c =
    λ _. c.loop-name.invariant.seen ∙ take_all c.loop-name.name-index c.as_slice-name-items.result.now c.loop-name-test.false ∙ c.as_slice-name-items.ensures
