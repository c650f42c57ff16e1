use Rattle.piece_jobs.proofs.Follows.{refused-ended}
use Rattle.piece_jobs.proofs.going_on.follow.Goals as goal

pub told-requires-clause-ended : goal.told-requires-clause-ended
told-requires-clause-ended g c =
    refused-ended (g.J.JobFiles.held c.args.files.now) c.args.progress.turn c.args.found.now c.in-Refused.place c.in-Refused.turn c.requires.came
    (rw c.in-Refused.is at c.judge.ensures)
