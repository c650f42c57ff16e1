use Rattle.std.proofs.lemmas.Result.{err_from_is_err_and}
use Rattle.river_outside.specs.Causes.{Rose}
use Rattle.river_road.proofs.Scripts.{script-passes, fetch-stops}
use Rattle.river_road.proofs.road.rewritten.Goals as goal

pub returns-in_err-text-clause-passes : goal.returns-in_err-text-clause-passes
returns-in_err-text-clause-passes g c caps source is =
    let p = err_from_is_err_and c.from_residual.result c.from_residual.ensures.1 in
    let rose = Rose g.S.Shelf.stays_at_last (g.S.Shelf.faults c.args.shelf.now) (g.S.Shelf.faults c.fetch_turn.new.shelf) in
    rw (p.1, p.2) (fetch-stops c.args.file.now source (g.S.Shelf.held c.args.shelf.now) rose c.in_err-text.field-0.0 c.in_err-text.ensures.passes)

pub returns-clause-passes : goal.returns-clause-passes
returns-clause-passes g c caps source is =
    let held = g.S.Shelf.held c.args.shelf.now in
    let early = Rose g.S.Shelf.stays_at_last (g.S.Shelf.faults c.args.shelf.now) (g.S.Shelf.faults c.fetch_turn.new.shelf) in
    script-passes caps c.args.file.now source c.in_ok-text.text held early c.applied.result c.in_ok-text.ensures.passes (c.applied.ensures caps source is)
