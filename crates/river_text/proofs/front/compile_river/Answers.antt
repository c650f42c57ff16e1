use Rattle.river_text.specs.Entries.{text_form}
use Rattle.river_text.proofs.Capped.{caps_fit}
use Rattle.river_text.proofs.Fronts.{valid-means}
use Rattle.river_text.proofs.front.compile_river.Goals as goal

pub returns-clause-plan : goal.returns-clause-plan
returns-clause-plan c =
    valid-means c.args.text.now (text_form c.in_ok-raw.field-0) c.in_ok-plan.plan c.in_ok-raw.ensures.read c.in_ok-plan.ensures.told

pub returns-clause-caps : goal.returns-clause-caps
returns-clause-caps c = caps_fit c.args.text.now (text_form c.in_ok-raw.field-0) c.in_ok-raw.ensures.read
