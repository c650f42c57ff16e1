use Rattle.river_outside.specs.Causes.{Rose}
use Rattle.river_road.proofs.Scripts.{none-passes}
use Rattle.river_road.proofs.road.scripted.Goals as goal

pub returns-in-None-clause-passes : goal.returns-in-None-clause-passes
returns-in-None-clause-passes g c caps source is =
    let rose = Rose g.S.Shelf.stays_at_last (g.S.Shelf.faults c.args.shelf.now) (g.S.Shelf.faults c.args.shelf.now) in
    rw c.in-None.is (none-passes caps source c.args.plan (g.S.Shelf.held c.args.shelf.now) rose is)

pub returns-in-Some-clause-passes : goal.returns-in-Some-clause-passes
returns-in-Some-clause-passes g c caps source is = rw c.in-Some.is ((rw c.as_slice.ensures at c.rewritten.ensures.passes) caps source is)
