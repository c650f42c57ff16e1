use Rattle.fire_open.proofs.OpenLemmas.{fresh_there}
use Rattle.fire_run.proofs.opening.tasks_with_rings.Goals as goal

pub put_rings-requires-clause-there : goal.put_rings-requires-clause-there
put_rings-requires-clause-there c =
    fresh_there c.args.plan.now c.args.inputs c.in_ok-tasks.tasks c.args.links.now c.requires.valid c.in_ok-tasks.ensures c.requires.links

pub returns : goal.returns
returns c = (c.in_ok-tasks.tasks, c.in_ok-tasks.ensures, c.in_ok-put_rings.ensures)
