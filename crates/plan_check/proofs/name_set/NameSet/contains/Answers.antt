use Rattle.river_plan.proofs.NameLemmas.{member-count}
use Rattle.plan_check.proofs.name_set.NameSet.contains.Goals as goal

pub returns : goal.returns
returns c = member-count c.args.name c.args.self.now c.self.inside.names.keys c.contains.result c.self.view_is c.contains.ensures
