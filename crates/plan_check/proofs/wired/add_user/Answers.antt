use Rattle.std.proofs.Common.{ap, ◌∙◌, arith}
use Rattle.std.proofs.lemmas.List.{take_all}
use Rattle.river_base.specs.Places.{each_grew}
use Rattle.river_plan.specs.Places.{as_often}
use Rattle.river_plan.proofs.UserLemmas.{often-start, often-next}
use Rattle.plan_check.proofs.wired.add_user.Goals as goal

pub loop-port-init : goal.loop-port-init
loop-port-init c = often-start c.args.all.now c.args.number

pub loop-port-preserved : goal.loop-port-preserved
loop-port-preserved c = often-next c.args.all.now c.loop-port.all c.add_at.new.all c.args.places.now c.loop-port.port c.at.result.now c.args.number
    (omega arith) (c.at.ensures c.at.result.now) c.loop-port.invariant c.in_ok-add_at.ensures

pub returns : goal.returns
returns c = c.loop-port.invariant ∙ ap (λ l. each_grew c.args.all.now (as_often l c.args.number)) (take_all c.loop-port.port c.args.places.now (omega arith))
