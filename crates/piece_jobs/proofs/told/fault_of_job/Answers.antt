use Rattle.piece_jobs.proofs.Tells.{piece-fault}
use Rattle.piece_jobs.proofs.told.fault_of_job.Goals as goal

pub returns-in_ok-fault_in-in-Some-2-clause-fault : goal.returns-in_ok-fault_in-in-Some-2-clause-fault
returns-in_ok-fault_in-in-Some-2-clause-fault g c =
    piece-fault (g.J.JobFiles.held c.args.files.now) (g.J.JobFiles.held c.width_of_program.new.files) c.args.header c.args.job c.in-Some.width
    c.in-Some-2.piece c.in_ok-fault_in-in-Some-2.field-0 c.width_of_program.ensures.stays
    (rw c.in-Some.is at c.in_ok-width.ensures.width) (rw c.in-Some-2.is at c.in_ok-piece.ensures.found) c.in_ok-fault_in-in-Some-2.ensures
