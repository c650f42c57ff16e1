use Rattle.std.proofs.lemmas.Result.{err_from_is_err_and}
use Rattle.river_outside.specs.Causes.{Rose}
use Rattle.river_road.proofs.Points.{upgrade-first, upgrade-last}
use Rattle.river_road.proofs.road.upgrade.Goals as goal

pub upgraded-requires : goal.upgraded-requires
upgraded-requires g c = c.in_ok-compiled.ensures.passes.1.planned.fit

pub returns-in_err-compiled-clause-passes : goal.returns-in_err-compiled-clause-passes
returns-in_err-compiled-clause-passes g c =
    let p = err_from_is_err_and c.from_residual.result c.from_residual.ensures.1 in
    let rose = Rose g.S.Shelf.stays_at_last (g.S.Shelf.faults c.args.shelf.now) (g.S.Shelf.faults c.compiled.new.shelf) in
    rw (p.1, p.2) (upgrade-first g.L.Language.source c.args.file.now
    (g.S.Shelf.held c.args.shelf.now) rose c.in_err-compiled.field-0.0 c.in_err-compiled.ensures.passes)

pub returns-clause-passes : goal.returns-clause-passes
returns-clause-passes g c =
    let rose = Rose g.S.Shelf.stays_at_last (g.S.Shelf.faults c.args.shelf.now) (g.S.Shelf.faults c.compiled.new.shelf) in
    upgrade-last g.L.Language.source c.args.file.now
    (g.S.Shelf.held c.args.shelf.now) g.L.Language.stands c.in_ok-compiled.compiled c.upgraded.result rose c.in_ok-compiled.ensures.passes c.upgraded.ensures
