use Rattle.river_base.specs.Instants.{stamps}
use Rattle.river_base.proofs.Instants.{once_rises, once_has, has_once}
use Rattle.river_base.proofs.laws.instants_are_timestamps.Goals as goal

pub returns : goal.returns
returns c = record { rise = λ files. once_rises (stamps files); exact = λ files t. (has_once (stamps files) t, once_has (stamps files) t) }
