use Rattle.std.proofs.Common.{◌∙◌}
use Rattle.river_plan.proofs.PlaceLemmas.{place-found}
use Rattle.plan_check.proofs.name_set.NameSet.place.Goals as goal

pub returns : goal.returns
returns c =
    c.unwrap_or.ensures
    ∙ place-found c.args.self.now c.self.inside.names.keys c.args.name c.get_index_of.result c.len.result c.self.view_is c.get_index_of.ensures.index
    c.len.ensures.len
