use Rattle.std.proofs.lemmas.Result.{err_from_is_err_and}
use Rattle.river_outside.specs.Causes.{Rose}
use Rattle.river_road.proofs.Inputs.{known-widths, names-stop, fetch-stop, files-pass}
use Rattle.river_road.proofs.Contents.{read-contents}
use Rattle.river_road.proofs.gather.gather.Goals as goal

pub returns-in_err-check_names-clause-passes : goal.returns-in_err-check_names-clause-passes
returns-in_err-check_names-clause-passes g c =
    let p = err_from_is_err_and c.from_residual.result c.from_residual.ensures.1 in
    let held = g.S.Shelf.held c.args.shelf.now in
    let rose = Rose g.S.Shelf.stays_at_last (g.S.Shelf.faults c.args.shelf.now) (g.S.Shelf.faults c.args.shelf.now) in
    rw (p.1, p.2) (names-stop c.args.decls.now c.args.ins.now c.args.layout held rose c.in_err-check_names.field-0.0 c.in_err-check_names.ensures)

pub returns-in_err-files-clause-passes : goal.returns-in_err-files-clause-passes
returns-in_err-files-clause-passes g c =
    let p = err_from_is_err_and c.from_residual-in_err-files.result c.from_residual-in_err-files.ensures.1 in
    let held = g.S.Shelf.held c.args.shelf.now in
    let rose = Rose g.S.Shelf.stays_at_last (g.S.Shelf.faults c.args.shelf.now) (g.S.Shelf.faults c.fetch_all.new.shelf) in
    rw (p.1, p.2) (fetch-stop c.args.decls.now c.args.ins.now c.args.layout held rose c.in_err-files.field-0.0 c.in_ok-check_names.ensures
    c.in_err-files.ensures.passes)

pub read_inputs-requires-clause-widths : goal.read_inputs-requires-clause-widths
read_inputs-requires-clause-widths g c = known-widths c.args.decls.now c.args.ins.now c.requires.outer c.in_ok-check_names.ensures

pub returns-clause-passes : goal.returns-clause-passes
returns-clause-passes g c =
    let held = g.S.Shelf.held c.args.shelf.now in
    let rose = Rose g.S.Shelf.stays_at_last (g.S.Shelf.faults c.args.shelf.now) (g.S.Shelf.faults c.fetch_all.new.shelf) in
    let told = rw c.as_slice.ensures at c.read_inputs.ensures in
    files-pass c.args.decls.now c.args.ins.now c.args.layout held rose c.in_ok-files.files c.read_inputs.result c.in_ok-check_names.ensures
    c.in_ok-files.ensures.passes told

pub returns-clause-contents : goal.returns-clause-contents
returns-clause-contents g c =
    let told = rw c.as_slice.ensures at c.read_inputs.ensures in
    read-contents c.args.decls.now c.args.layout c.args.ins.now c.in_ok-files.files c.read_inputs.result c.requires.outer c.requires.apart
    c.in_ok-check_names.ensures c.in_ok-files.ensures.count told
