use Rattle.piece_jobs.proofs.Tells.{plan-width}
use Rattle.piece_jobs.proofs.told.width_of_program.Goals as goal

pub returns-in-Ok-clause-width : goal.returns-in-Ok-clause-width
returns-in-Ok-clause-width g c =
    plan-width (g.J.JobFiles.held c.args.files.now) c.in-Ok.plan c.width_of.result c.in-Ok.ensures.plan c.width_of.ensures.width
