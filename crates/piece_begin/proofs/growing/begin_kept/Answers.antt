use Rattle.std.proofs.Common.{◌∙◌, arith}
use Rattle.std.specs.Prelude.{true}
use Rattle.piece_files.specs.Counts.{with_more}
use Rattle.river_outside.specs.Causes.{Rose}
use Rattle.piece_begin.proofs.Grows.{grown-why}
use Rattle.piece_begin.proofs.growing.begin_kept.Goals as goal

pub returns-clause-refused : goal.returns-clause-refused
returns-clause-refused g c =
    let first = c.read_file.ensures.later in
    let more = c.find_kept.ensures.later in
    grown-why (g.S.Shelf.held c.args.shelf.now) (g.S.Shelf.held c.find_kept.new.shelf) g.S.Shelf.stays_at_last (g.S.Shelf.faults c.args.shelf.now)
    (g.S.Shelf.faults c.find_kept.new.shelf) (g.S.Shelf.faults c.begin_found.new.shelf)
    (Rose true (with_more (g.J.JobFiles.faults c.args.inputs.now.files) c.args.inputs.now.unnumbered)
    (with_more (g.J.JobFiles.faults c.begin_found.new.inputs.files) c.begin_found.new.inputs.unnumbered))
    (Rose g.K.JobFiles.stays_at_last (g.K.JobFiles.faults c.args.keep.now) (g.K.JobFiles.faults c.find_kept.new.keep)) c.args.call.now.size.bytes
    c.args.call.now.program.now c.args.call.now.file.now (g.J.JobFiles.held c.begin_found.new.inputs.files) c.begin_found.result
    (c.find_kept.ensures.stays ∙ c.read_file.ensures.stays) (omega (arith, first, more)) c.begin_found.ensures.refused
