use Rattle.std.proofs.lemmas.Result.{err_from_is_err_and}
use Rattle.river_outside.proofs.Counts.{rose_before}
use Rattle.river_outside.specs.Causes.{Rose}
use Rattle.river_road.specs.Supplied.{IsGathered}
use Rattle.river_road.specs.Points.{of_script, of_supplied}
use Rattle.river_road.specs.Source.{IsPlanned}
use Rattle.river_road.proofs.Points.{as-then-as}
use Rattle.river_road.proofs.gathering.gather_scripted.Goals as goal

pub returns-in_err-made-clause-passes : goal.returns-in_err-made-clause-passes
returns-in_err-made-clause-passes g c source is =
    let p = err_from_is_err_and c.from_residual.result c.from_residual.ensures.1 in
    let stops = c.in_err-made.ensures.passes c.args.caps source is in
    rw (p.1, p.2) (λ next. stops (λ later. of_supplied c.args.words.now.ins c.args.layout later next))

pub returns-clause-passes : goal.returns-clause-passes
returns-clause-passes g c source is =
    let held = g.S.Shelf.held c.args.shelf.now in
    let mid = Rose g.S.Shelf.stays_at_last (g.S.Shelf.faults c.args.shelf.now) (g.S.Shelf.faults c.scripted.new.shelf) in
    let early = Rose g.S.Shelf.stays_at_last (g.S.Shelf.faults c.args.shelf.now) (g.S.Shelf.faults c.gather_inputs.new.shelf) in
    let late = Rose g.S.Shelf.stays_at_last (g.S.Shelf.faults c.scripted.new.shelf) (g.S.Shelf.faults c.gather_inputs.new.shelf) in
    let over = rw c.scripted.ensures.stays at c.gather_inputs.ensures.passes in
    as-then-as (IsPlanned c.args.caps) IsGathered (of_script c.args.words.now.script source)
    (of_supplied c.args.words.now.ins c.args.layout) held mid early late
    (rose_before g.S.Shelf.stays_at_last _ _ _ c.scripted.ensures.later) c.in_ok-made.made c.gather_inputs.result
    (c.in_ok-made.ensures.passes c.args.caps source is) over
