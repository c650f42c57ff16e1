-- The streams that are declared above, as the code knows them.
use Rattle.std.specs.Prelude.{◌≡◌}
use Rattle.indexmap.specs.IndexMap.{get}
use Rattle.river_base.specs.Name.{name_eq}
use Rattle.river_plan.specs.Forms.{Name}
use Rattle.streamit_model.specs.Meaning.{look}
use Rattle.params_model.specs.Judged.{Above}
use Rattle.params_build.specs.declared.above.StreamsAbove.{StreamsAbove}

-- each name has the number of parameters of the nearest stream of this name
pub record CountsParameters (streams : StreamsAbove) (above : Above) : Type 0 where
  pub arities : (n : Name) → get name_eq streams.arities n ≡ look above n
