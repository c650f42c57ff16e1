use Rattle.river_langs.proofs.ParamsCompiled.{params-compiled}
use Rattle.river_langs.proofs.params.ParamsLanguage.compile.Goals as goal

pub returns-in-Ok : goal.returns-in-Ok
returns-in-Ok c = rw c.new.ensures (params-compiled c.args.text.now _ c.in-Ok.program c.in-Ok.plan c.in-Ok.ensures.plan)
