use Rattle.std.proofs.Common.{subst, sym, refl, [], arith}
use Rattle.river_base.specs.Places.{list_at}
use Rattle.river_plan.specs.ByUsers.{IsApartAt}
use Rattle.river_plan.proofs.NameLemmas.{not_false}
use Rattle.plan_check.proofs.Remains.{remains_at-next, remains_at-found}
use Rattle.plan_check.proofs.once.first_shared.Goals as goal

pub loop-place-preserved : goal.loop-place-preserved
loop-place-preserved c =
    remains_at-next (λ i. IsApartAt c.args.tables i (list_at c.args.users.now i)) c.args.names.now c.loop-place.place [] (omega arith)
    (subst (IsApartAt c.args.tables c.loop-place.place) (c.at.ensures []) (c.if-not-is_apart.ensures.0 refl)) c.loop-place.invariant

pub returns-then-not-is_apart : goal.returns-then-not-is_apart
returns-then-not-is_apart c =
    let e = c.at-then-not-is_apart.ensures c.at-then-not-is_apart.result.now in
    remains_at-found (λ i. IsApartAt c.args.tables i (list_at c.args.users.now i)) c.args.names.now c.loop-place.place c.at-then-not-is_apart.result.now
    (omega arith) e (λ g. not_false
    (c.if-not-is_apart.ensures.1 (subst (IsApartAt c.args.tables c.loop-place.place) (sym (c.at.ensures [])) g))) c.loop-place.invariant
