use Rattle.river_plan.specs.Places.{place}
use Rattle.plan_check.proofs.MapLoops.{map_next}
use Rattle.plan_check.proofs.wired.places_in.Goals as goal

pub loop-name-preserved : goal.loop-name-preserved
loop-name-preserved c =
    map_next (place c.args.set.now) c.loop-name.all c.push.new.self _ c.loop-name.name-index c.name-item.result c.place.result c.loop-name-test.true
    c.name-item.is c.place.ensures c.in_ok-push.ensures.ok c.loop-name.invariant
