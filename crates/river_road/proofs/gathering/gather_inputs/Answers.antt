use Rattle.std.proofs.lemmas.Result.{err_from_is_err_and}
use Rattle.river_outside.specs.Causes.{Rose}
use Rattle.river_road.proofs.Supplied.{files-gathered}
use Rattle.river_road.proofs.Points.{supplied-stops, supplied-comes}
use Rattle.river_road.proofs.gathering.gather_inputs.Goals as goal

pub returns-in_err-files-clause-passes : goal.returns-in_err-files-clause-passes
returns-in_err-files-clause-passes g c source is =
    let p = err_from_is_err_and c.from_residual.result c.from_residual.ensures.1 in
    let rose = Rose g.S.Shelf.stays_at_last (g.S.Shelf.faults c.args.shelf.now) (g.S.Shelf.faults c.files_for.new.shelf) in
    rw (p.1, p.2) (supplied-stops c.args.ins.now c.args.layout source c.args.plan (g.S.Shelf.held c.args.shelf.now) is.plan rose
    c.in_err-files.field-0.0 c.in_err-files.ensures.passes)

pub returns-clause-passes : goal.returns-clause-passes
returns-clause-passes g c source is = (
  record { source = source; files = c.in_ok-files.files },
  files-gathered source c.args.plan c.args.caps c.in_ok-files.files c.in_ok-over.field-0 is c.in_ok-files.ensures.contents c.in_ok-over.ensures,
  supplied-comes c.args.ins.now c.args.layout source c.args.plan (g.S.Shelf.held c.args.shelf.now) is.plan c.in_ok-files.files c.in_ok-files.ensures.passes,
)
