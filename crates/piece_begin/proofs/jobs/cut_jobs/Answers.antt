use Rattle.std.proofs.Common.{◌≡◌, rules}
use Rattle.piece_begin.proofs.Begins.{cut-in-told}
use Rattle.piece_begin.proofs.jobs.cut_jobs.Goals as goal

pub returns-in-Ok-clause-cut : goal.returns-in-Ok-clause-cut
returns-in-Ok-clause-cut g c =
    let e : c.cut_shelf.new.to.count ≡ c.in-Ok.jobs = search rules in
    cut-in-told (g.S.Shelf.held c.args.shelf.now) c.args.call.now.file.now c.args.from c.args.header c.args.inputs.now.count c.in-Ok.jobs
    (g.J.JobFiles.held c.args.inputs.now.files) (g.J.JobFiles.held c.cut_shelf.new.to.files) c.requires.none
    (rw e at c.in_ok-cut_shelf.ensures.cut)
