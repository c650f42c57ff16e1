use Rattle.std.proofs.Common.{refl}
use Rattle.piece_jobs.proofs.Keeps.{lacking-not-done, refused-not-done, nothing-kept}
use Rattle.piece_jobs.proofs.going_on.follow_keeping.Goals as goal

pub returns-in-Lacking-clause-kept : goal.returns-in-Lacking-clause-kept
returns-in-Lacking-clause-kept g c =
    nothing-kept (g.J.JobFiles.held c.args.files.now) (g.J.JobFiles.held c.follow.new.files) c.args.progress c.args.found.now
    (g.K.JobFiles.held c.args.keep.now) _ c.follow.result
    (lacking-not-done c.args.found.now c.in-Lacking.place (rw c.in-Lacking.is at c.judge.ensures)) refl c.follow.ensures.follows

pub returns-in-Refused-clause-kept : goal.returns-in-Refused-clause-kept
returns-in-Refused-clause-kept g c =
    nothing-kept (g.J.JobFiles.held c.args.files.now) (g.J.JobFiles.held c.follow-in-Refused.new.files) c.args.progress c.args.found.now
    (g.K.JobFiles.held c.args.keep.now) _ c.follow-in-Refused.result
    (refused-not-done c.args.found.now c.in-Refused.place c.in-Refused.turn (rw c.in-Refused.is at c.judge.ensures)) refl
    c.follow-in-Refused.ensures.follows
