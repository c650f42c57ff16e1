use Rattle.std.proofs.Common.{false}
use Rattle.std.proofs.lemmas.Result.{err_from_is_err_and}
use Rattle.river_outside.specs.Causes.{Rose}
use Rattle.river_road.specs.Supplied.{printed_for}
use Rattle.river_road.proofs.Points.{supplied-stops, meaning-comes}
use Rattle.river_road.proofs.road.mean_over.Goals as goal

pub returns-in_err-files-clause-passes : goal.returns-in_err-files-clause-passes
returns-in_err-files-clause-passes g c source is =
    let p = err_from_is_err_and c.from_residual.result c.from_residual.ensures.1 in
    let rose = Rose g.S.Shelf.stays_at_last (g.S.Shelf.faults c.args.shelf.now) (g.S.Shelf.faults c.files_for.new.shelf) in
    let stops = supplied-stops c.args.ins.now c.args.layout source c.args.compiled.now.plan (g.S.Shelf.held c.args.shelf.now) is.planned.plan rose
    c.in_err-files.field-0.0 c.in_err-files.ensures.passes in
    rw (p.1, p.2) (λ next. stops (λ s. next (printed_for false s)))

pub returns-clause-passes : goal.returns-clause-passes
returns-clause-passes g c source is =
    meaning-comes c.args.ins.now c.args.layout source c.args.compiled.now.plan (g.S.Shelf.held c.args.shelf.now) is.planned.plan c.in_ok-files.files
    c.in_ok-mean_text.field-0 c.in_ok-files.ensures.passes (c.in_ok-mean_text.ensures source is)
