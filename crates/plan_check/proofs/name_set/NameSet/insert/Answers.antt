use Rattle.river_plan.proofs.NameLemmas.{fresh-count, with_name-is}
use Rattle.plan_check.proofs.name_set.NameSet.insert.Goals as goal

pub returns-clause-fresh : goal.returns-clause-fresh
returns-clause-fresh c = fresh-count c.args.name c.args.self.now c.self.inside.names.keys c.in_ok-fresh.fresh c.self.view_is c.in_ok-fresh.ensures.added

pub returns-clause-added : goal.returns-clause-added
returns-clause-added c = with_name-is c.args.name c.args.self.now c.self.inside.names.keys c.insert_full.new.self.keys c.self.view_is c.in_ok-fresh.ensures.keys
