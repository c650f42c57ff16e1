use Rattle.std.proofs.lemmas.List.{get_or_default}
use Rattle.plan_check.proofs.Remains.{remains-start, remains-next, remains-found, remains-end}
use Rattle.plan_check.proofs.limit.over_limits.Goals as goal

pub loop-limit-init : goal.loop-limit-init
loop-limit-init c = remains-start _ _

pub loop-limit-preserved : goal.loop-limit-preserved
loop-limit-preserved c = remains-next _ _ _ _ c.loop-limit-test.true (get_or_default _ _ _ _ c.loop-limit-test.true) c.in_default.ensures c.loop-limit.invariant

pub returns-in-Some : goal.returns-in-Some
returns-in-Some c = remains-found _ _ _ _ _ c.loop-limit-test.true (get_or_default _ _ _ _ c.loop-limit-test.true) c.in-Some.ensures c.loop-limit.invariant

pub returns : goal.returns
returns c = remains-end _ _ _ c.loop-limit-test.false c.loop-limit.invariant
