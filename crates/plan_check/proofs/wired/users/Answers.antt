use Rattle.std.proofs.Common.{ap, ◌∙◌, arith}
use Rattle.std.proofs.lemmas.List.{take_all}
use Rattle.river_plan.specs.Places.{users}
use Rattle.river_plan.proofs.UserLemmas.{users-start, users-next}
use Rattle.plan_check.proofs.wired.users.Goals as goal

pub loop-number-init : goal.loop-number-init
loop-number-init c = users-start c.args.count _ c.in_ok-all.ensures

pub loop-number-preserved : goal.loop-number-preserved
loop-number-preserved c =
    users-next c.args.count c.loop-number.number c.loop-number.all c.add_user.new.all c.args.lists.now c.at.result.now (omega arith)
    (c.at.ensures c.at.result.now) c.loop-number.invariant c.in_ok-add_user.ensures

pub returns : goal.returns
returns c = c.loop-number.invariant ∙ ap (users c.args.count) (take_all c.loop-number.number c.args.lists.now (omega arith))
