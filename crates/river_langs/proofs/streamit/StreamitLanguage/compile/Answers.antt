use Rattle.river_langs.proofs.StreamitCompiled.{streamit-compiled}
use Rattle.river_langs.proofs.streamit.StreamitLanguage.compile.Goals as goal

pub returns-in-Ok : goal.returns-in-Ok
returns-in-Ok c = rw c.new.ensures (streamit-compiled c.args.text.now c.in-Ok.program c.in-Ok.plan c.in-Ok.ensures.plan)
