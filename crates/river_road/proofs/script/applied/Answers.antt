use Rattle.river_road.proofs.Scripts.{made-stands}
use Rattle.river_road.proofs.script.applied.Goals as goal

pub returns-in-Ok : goal.returns-in-Ok
returns-in-Ok c caps source is = made-stands caps source c.args.plan.now c.in-Ok.made c.args.text.now c.raw-lists.ensures.valid is c.in-Ok.ensures.plan
