use Rattle.streamit_text.specs.Program.{unit_forms}
use Rattle.streamit_build.proofs.Checked.{planned-valid}
use Rattle.streamit_build.proofs.planning.plan.Goals as goal

pub plan_of-requires : goal.plan_of-requires
plan_of-requires c = planned-valid (unit_forms c.args.units.now) c.in_ok-raw.raw c.requires.shallow c.in_ok-raw.ensures
