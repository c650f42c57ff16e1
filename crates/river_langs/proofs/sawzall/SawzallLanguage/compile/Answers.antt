use Rattle.river_langs.proofs.SawCompiled.{saw-compiled}
use Rattle.river_langs.proofs.sawzall.SawzallLanguage.compile.Goals as goal

pub returns-in-Ok : goal.returns-in-Ok
returns-in-Ok c = rw c.new.ensures (saw-compiled c.args.text.now c.in-Ok.program c.in-Ok.plan c.in-Ok.ensures.plan)
