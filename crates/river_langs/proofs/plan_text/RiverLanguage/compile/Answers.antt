use Rattle.river_text.specs.Meaning.{plan_in}
use Rattle.river_langs.proofs.RiverCompiled.{river-compiled}
use Rattle.river_langs.proofs.plan_text.RiverLanguage.compile.Goals as goal

pub returns-in-Ok : goal.returns-in-Ok
returns-in-Ok c = river-compiled (plan_in c.args.text.now) c.in-Ok.field-0.plan c.in-Ok.field-0.caps c.in-Ok.ensures.plan c.in-Ok.ensures.caps
