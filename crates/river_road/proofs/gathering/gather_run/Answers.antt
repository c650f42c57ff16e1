use Rattle.std.proofs.lemmas.Result.{err_from_is_err_and}
use Rattle.river_outside.proofs.Counts.{rose_before}
use Rattle.river_outside.specs.Causes.{Rose}
use Rattle.river_road.proofs.Points.{gathered-first, gathered-last}
use Rattle.river_road.proofs.gathering.gather_run.Goals as goal

pub returns-in_err-compiled-clause-passes : goal.returns-in_err-compiled-clause-passes
returns-in_err-compiled-clause-passes g c =
    let p = err_from_is_err_and c.from_residual.result c.from_residual.ensures.1 in
    let rose = Rose g.S.Shelf.stays_at_last (g.S.Shelf.faults c.args.shelf.now) (g.S.Shelf.faults c.compiled.new.shelf) in
    rw (p.1, p.2) (gathered-first g.L.Language.source g.L.Language.more c.args.words.now
    (g.S.Shelf.held c.args.shelf.now) rose c.in_err-compiled.field-0.0 c.in_err-compiled.ensures.passes)

pub returns-clause-passes : goal.returns-clause-passes
returns-clause-passes g c =
    let mid = Rose g.S.Shelf.stays_at_last (g.S.Shelf.faults c.args.shelf.now) (g.S.Shelf.faults c.compiled.new.shelf) in
    let early = Rose g.S.Shelf.stays_at_last (g.S.Shelf.faults c.args.shelf.now) (g.S.Shelf.faults c.gather_scripted.new.shelf) in
    let late = Rose g.S.Shelf.stays_at_last (g.S.Shelf.faults c.compiled.new.shelf) (g.S.Shelf.faults c.gather_scripted.new.shelf) in
    let gathers = rw (c.compiled.ensures.stays, c.of-layout.ensures) at c.gather_scripted.ensures.passes in
    gathered-last g.L.Language.source g.L.Language.more c.args.words.now (g.S.Shelf.held c.args.shelf.now) g.L.Language.stands mid early late
    (rose_before g.S.Shelf.stays_at_last _ _ _ c.compiled.ensures.later) c.in_ok-compiled.compiled c.gather_scripted.result
    c.in_ok-compiled.ensures.passes gathers
