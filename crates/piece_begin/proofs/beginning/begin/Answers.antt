use Rattle.std.proofs.Common.{rules, ◌<◌, ◌^◌}
use Rattle.piece_files.specs.Inputs.{inputs_told}
use Rattle.piece_begin.proofs.Begins.{begun-told, within-told}
use Rattle.piece_begin.proofs.beginning.begin.Goals as goal

pub returns-clause-begun : goal.returns-clause-begun
returns-clause-begun g c =
    let few : c.in_ok-jobs.jobs < 2 ^ 32 = search rules in
    begun-told (g.S.Shelf.held c.args.shelf.now) (g.S.Shelf.held c.read_file.new.shelf) 67108864 c.args.call.now.program.now c.args.call.now.file.now
    c.in_ok-text.text c.args.call.now.header c.in_ok-jobs.jobs (g.J.JobFiles.held c.args.inputs.now.files) (g.J.JobFiles.held c.cut_jobs.new.inputs.files)
    (g.J.JobFiles.held c.put_files.new.files) c.read_file.ensures.stays c.in_ok-text.ensures.reads few c.in_ok-jobs.ensures.cut
    (rw (c.as_slice.ensures, c.first_try-progress.ensures) at c.in_ok-put_files.ensures.laid)

pub returns-clause-within : goal.returns-clause-within
returns-clause-within g c =
    within-told c.args.call.now.size.records c.args.call.now.size.bytes c.as_slice.result.now c.first_try-progress.result c.cut_jobs.new.inputs.count
    (inputs_told (g.J.JobFiles.held c.args.inputs.now.files) c.args.inputs.now.count) (g.J.JobFiles.held c.cut_jobs.new.inputs.files)
    (g.J.JobFiles.held c.put_files.new.files) c.in_ok-put_files.ensures.laid c.in_ok-jobs.ensures.within
