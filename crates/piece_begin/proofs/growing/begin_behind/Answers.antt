use Rattle.std.proofs.Common.{rules, ◌<◌, ◌^◌}
use Rattle.std.specs.Prelude.{Some, false}
use Rattle.sha2.specs.Hashers.{Holds256}
use Rattle.piece_begin.proofs.Grows.{grown-told, ok-two}
use Rattle.piece_begin.proofs.growing.begin_behind.Goals as goal

pub returns-clause-grown : goal.returns-clause-grown
returns-clause-grown g c =
    let few : c.in_ok-jobs.jobs < 2 ^ 32 = search rules in
    let kept = c.args.kept.now in
    ok-two c.put_files.result
    (λ laid few_old. grown-told (g.S.Shelf.held c.args.shelf.now) c.args.text.now c.args.call.now.file.now c.args.call.now.header (Holds256 kept.front.hasher)
    kept.front.extent false (Some (record { tables = kept.tables; records = kept.front.extent.records })) c.in_ok-jobs.jobs
    (g.J.JobFiles.held c.args.inputs.now.files) (g.J.JobFiles.held c.cut_jobs.new.inputs.files) (g.J.JobFiles.held c.put.new.self)
    (g.J.JobFiles.held c.put_mark.new.files) (g.J.JobFiles.held c.put_files.new.files) few c.in_ok-jobs.ensures.cut
    (rw c.as_slice.ensures at c.in_ok-put.ensures.put) c.in_ok-put_mark.ensures.put laid few_old)
    (rw c.first_try-progress.ensures at c.put_files.ensures.laid) (rw c.first_try-progress.ensures at c.put_files.ensures.few)
