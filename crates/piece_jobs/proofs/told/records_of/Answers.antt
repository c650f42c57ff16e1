use Rattle.river_outside.specs.Causes.{Rose}
use Rattle.piece_jobs.proofs.Tells.{records-absent}
use Rattle.piece_jobs.proofs.told.records_of.Goals as goal

pub returns-in-Err-Absent-clause-count : goal.returns-in-Err-Absent-clause-count
returns-in-Err-Absent-clause-count g c =
    let rose = Rose g.J.JobFiles.stays_at_last (g.J.JobFiles.faults c.args.files.now) (g.J.JobFiles.faults c.fetch_file.new.files) in
    records-absent (g.J.JobFiles.held c.args.files.now) rose c.args.job (rw c.in-Err-Absent.field-0-is at c.in-Err-Absent.ensures.refused)
