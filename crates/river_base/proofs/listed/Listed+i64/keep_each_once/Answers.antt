use Rattle.std.proofs.Common.{ap, ◌∙◌}
use Rattle.river_base.specs.Instants.{each_once}
use Rattle.river_base.proofs.Instants.{once_from_sort}
use Rattle.river_base.proofs.listed.Listed+i64.keep_each_once.Goals as goal

pub returns : goal.returns
returns c =
    let sorted = c.sort_unstable.ensures in
    once_from_sort c.self.inside.items.items c.sort_unstable.new.self.items c.dedup.new.self.items sorted.permutation sorted.sorted c.dedup.ensures.filtered
    ∙ ap each_once c.self.view_is
