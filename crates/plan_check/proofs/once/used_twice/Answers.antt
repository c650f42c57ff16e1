use Rattle.std.proofs.Common.{[], length, refl, sym, ap, ◌∙◌, subst, arith}
use Rattle.river_base.specs.Places.{list_at}
use Rattle.river_plan.specs.ByUsers.{IsOnceAt}
use Rattle.river_plan.proofs.NameLemmas.{not_false}
use Rattle.plan_check.proofs.Remains.{remains_at-next, remains_at-found}
use Rattle.plan_check.proofs.once.used_twice.Goals as goal

pub loop-place-preserved : goal.loop-place-preserved
loop-place-preserved c =
    remains_at-next (λ i. IsOnceAt c.args.first c.args.count i (length (list_at c.args.users.now i))) c.args.names.now c.loop-place.place [] (omega arith)
    (subst (IsOnceAt c.args.first c.args.count c.loop-place.place) (c.len.ensures ∙ ap length (c.at.ensures []))
    (c.if-not-is_once.ensures.0 refl)) c.loop-place.invariant

pub returns-then-not-is_once : goal.returns-then-not-is_once
returns-then-not-is_once c =
    let e = c.at-then-not-is_once.ensures c.at-then-not-is_once.result.now in
    remains_at-found (λ i. IsOnceAt c.args.first c.args.count i
    (length (list_at c.args.users.now i))) c.args.names.now c.loop-place.place c.at-then-not-is_once.result.now (omega arith) e
    (λ g. not_false (c.if-not-is_once.ensures.1
    (subst (IsOnceAt c.args.first c.args.count c.loop-place.place) (sym (c.len.ensures ∙ ap length (c.at.ensures []))) g))) c.loop-place.invariant
