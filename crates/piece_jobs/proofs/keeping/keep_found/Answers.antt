use Rattle.std.proofs.Common.{arith}
use Rattle.piece_jobs.proofs.Keeps.{front-kept}
use Rattle.piece_jobs.proofs.keeping.keep_found.Goals as goal

pub returns-clause-kept : goal.returns-clause-kept
returns-clause-kept g c =
    let two = c.if-found-lt2.false in
    front-kept (g.J.JobFiles.held c.args.files.now) (g.J.JobFiles.held c.fetch_file.new.files) c.args.kept c.args.found.now c.in_ok-front.front
    (g.K.JobFiles.held c.args.keep.now) (g.K.JobFiles.held c.keep_front.new.keep) c.keep_front.result c.fetch_file.ensures.stays (omega (arith, two))
    c.in_ok-front.ensures.bytes (rw c.as_slice.ensures at c.keep_front.ensures.kept)
