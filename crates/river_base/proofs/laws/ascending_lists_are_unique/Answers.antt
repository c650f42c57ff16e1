use Rattle.river_base.proofs.Rows.{same_from_sorted}
use Rattle.river_base.proofs.laws.ascending_lists_are_unique.Goals as goal

pub returns : goal.returns
returns c = same_from_sorted
