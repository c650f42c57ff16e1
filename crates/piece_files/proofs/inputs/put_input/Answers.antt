use Rattle.piece_files.proofs.JobInputs.{more_told}
use Rattle.piece_files.proofs.inputs.put_input.Goals as goal

pub returns-clause-took : goal.returns-clause-took
returns-clause-took g c =
    more_told c.args.count c.args.piece.now (g.J.JobFiles.held c.args.files.now) (g.J.JobFiles.held c.put.new.self) c.in_ok-put.ensures.put
