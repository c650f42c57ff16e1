use Rattle.std.proofs.lemmas.Result.{err_from_is_err_and}
use Rattle.river_outside.specs.Causes.{Rose}
use Rattle.river_road.specs.Source.{IsCompiled}
use Rattle.river_road.proofs.Points.{program-passes, program-stops}
use Rattle.river_road.proofs.road.compiled.Goals as goal

pub returns-in_err-text-clause-passes : goal.returns-in_err-text-clause-passes
returns-in_err-text-clause-passes g c =
    let p = err_from_is_err_and c.from_residual.result c.from_residual.ensures.1 in
    let rose = Rose g.S.Shelf.stays_at_last (g.S.Shelf.faults c.args.shelf.now) (g.S.Shelf.faults c.fetch_program.new.shelf) in
    rw (p.1, p.2) (program-stops g.L.Language.source c.args.file.now c.args.file.now (g.S.Shelf.held c.args.shelf.now) rose c.in_err-text.field-0.0
    c.in_err-text.ensures.passes)

pub returns-clause-passes : goal.returns-clause-passes
returns-clause-passes g c =
    let rose = Rose g.S.Shelf.stays_at_last (g.S.Shelf.faults c.args.shelf.now) (g.S.Shelf.faults c.fetch_program.new.shelf) in
    program-passes g.L.Language.source c.args.file.now c.in_ok-text.text (g.S.Shelf.held c.args.shelf.now) rose
    (IsCompiled g.L.Language.stands) c.compile.result c.in_ok-text.ensures.passes c.compile.ensures
