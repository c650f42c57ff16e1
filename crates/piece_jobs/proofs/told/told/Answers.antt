use Rattle.std.proofs.Common.{List, ℕ, ◌+◌, ◌≡◌}
use Rattle.std.specs.Prelude.{IfSome}
use Rattle.piece_files.specs.declared.file.JobFile.TheVariants.{Err as Told}
use Rattle.piece_work.specs.Faults.{most_file}
use Rattle.river_outside.specs.Fetched.{FetchesAll}
use Rattle.piece_keep.specs.Fed.{records_held}
use Rattle.piece_jobs.specs.Next.{IsTold, fault_text}
use Rattle.piece_jobs.proofs.Tells.{told-of-record, told-as}
use Rattle.piece_jobs.proofs.Whys.{ok-map}
use Rattle.piece_jobs.proofs.told.told.Goals as goal

pub returns-in-Some-clause-told : goal.returns-in-Some-clause-told
returns-in-Some-clause-told g c =
    let held = g.J.JobFiles.held c.args.files.now in
    let there = g.J.JobFiles.held c.fault_of_job.new.files in
    ok-map (λ (t : List ℕ). IfSome there (λ h. t ≡ fault_text (c.args.kept + records_held h c.args.before) c.in-Some.fault))
    (λ (t : List ℕ). IfSome held (λ h. IsTold h c.args.header c.args.kept c.args.before c.args.turn t)) c.told_of_record.result
    (λ t is. told-of-record held there c.args.header c.args.kept c.args.before c.args.turn t c.in-Some.fault c.fault_of_job.ensures.stays
    (rw (c.in-Some.is, c.begins.ensures) at c.in_ok-fault.ensures.fault) is)
    c.told_of_record.ensures.told

pub returns-in-None-clause-told : goal.returns-in-None-clause-told
returns-in-None-clause-told g c =
    let held = g.J.JobFiles.held c.args.files.now in
    let there = g.J.JobFiles.held c.fault_of_job.new.files in
    ok-map (λ (t : List ℕ). IfSome there (λ h. FetchesAll (h (Told (c.args.before + 1) c.args.turn)) most_file t))
    (λ (t : List ℕ). IfSome held (λ h. IsTold h c.args.header c.args.kept c.args.before c.args.turn t)) c.told_by_job.result
    (λ t is. told-as held there c.args.header c.args.kept c.args.before c.args.turn t c.fault_of_job.ensures.stays
    (rw (c.in-None.is, c.begins.ensures) at c.in_ok-fault.ensures.fault) is)
    c.told_by_job.ensures.told
