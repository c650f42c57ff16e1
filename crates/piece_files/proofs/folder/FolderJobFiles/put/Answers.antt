use Rattle.piece_files.proofs.Folders.{put_in, maybe_in, ok_then, err_then}
use Rattle.piece_files.proofs.folder.FolderJobFiles.put.Goals as goal

pub returns-in-Ok-clause-put : goal.returns-in-Ok-clause-put
returns-in-Ok-clause-put g c =
    ok_then c.put.result (put_in c.args.self.now.path.now c.args.file c.in-Ok.ensures.fits c.args.bytes.now _ _)
    (rw (c.as_slice.ensures, c.in-Ok.ensures.is) at c.put.ensures.put)

pub returns-in-Ok-clause-others : goal.returns-in-Ok-clause-others
returns-in-Ok-clause-others g c =
    err_then c.put.result (maybe_in c.args.self.now.path.now c.args.file c.in-Ok.ensures.fits _ _)
    (rw (c.as_slice.ensures, c.in-Ok.ensures.is) at c.put.ensures.others)
