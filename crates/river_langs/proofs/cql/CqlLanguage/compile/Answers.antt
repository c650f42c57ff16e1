use Rattle.river_langs.proofs.CqlCompiled.{cql-compiled}
use Rattle.river_langs.proofs.cql.CqlLanguage.compile.Goals as goal

pub returns-in-Ok : goal.returns-in-Ok
returns-in-Ok c = rw c.new.ensures (cql-compiled c.args.text.now c.in-Ok.program c.in-Ok.plan c.in-Ok.ensures.plan)
