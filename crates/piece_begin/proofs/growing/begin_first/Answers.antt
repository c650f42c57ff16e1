use Rattle.std.proofs.Common.{rules, ◌<◌, ◌^◌, []}
use Rattle.piece_begin.proofs.Grows.{first-told, ok-two}
use Rattle.piece_begin.proofs.growing.begin_first.Goals as goal

pub returns-clause-grown : goal.returns-clause-grown
returns-clause-grown g c =
    let few : c.in_ok-jobs.jobs < 2 ^ 32 = search rules in
    ok-two c.put_files.result
    (λ laid few_old. first-told (g.S.Shelf.held c.args.shelf.now) c.args.text.now c.args.call.now.file.now c.args.call.now.header c.in_ok-jobs.jobs
    (g.J.JobFiles.held c.args.inputs.now.files) (g.J.JobFiles.held c.cut_jobs.new.inputs.files) (g.J.JobFiles.held c.put_mark.new.files)
    (g.J.JobFiles.held c.put_files.new.files) few c.in_ok-jobs.ensures.cut
    ((rw c.no_front-front.ensures.extent at c.in_ok-put_mark.ensures.put) [] c.no_front-front.ensures.holds) laid)
    (rw c.first_try-progress.ensures at c.put_files.ensures.laid) (rw c.first_try-progress.ensures at c.put_files.ensures.few)
