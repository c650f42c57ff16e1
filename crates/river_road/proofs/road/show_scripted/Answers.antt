use Rattle.std.proofs.lemmas.Result.{err_from_is_err_and}
use Rattle.river_outside.specs.Causes.{Rose}
use Rattle.river_road.specs.Points.{of_script, of_shown}
use Rattle.river_road.specs.Source.{IsPlanned}
use Rattle.river_road.proofs.Points.{as-then, shown-passes}
use Rattle.river_road.proofs.road.show_scripted.Goals as goal

pub returns-in_err-made-clause-passes : goal.returns-in_err-made-clause-passes
returns-in_err-made-clause-passes g c source is =
    let p = err_from_is_err_and c.from_residual.result c.from_residual.ensures.1 in
    let stops = c.in_err-made.ensures.passes c.args.caps.now source is in
    rw (p.1, p.2) (λ next. stops (λ later. of_shown later next))

pub returns-clause-passes : goal.returns-clause-passes
returns-clause-passes g c source is =
    let held = g.S.Shelf.held c.args.shelf.now in
    let rose = Rose g.S.Shelf.stays_at_last (g.S.Shelf.faults c.args.shelf.now) (g.S.Shelf.faults c.scripted.new.shelf) in
    as-then (IsPlanned c.args.caps.now) (of_script c.args.name.now source) of_shown held rose rose rose (λ r. r) c.in_ok-made.made c.shown.result
    (c.in_ok-made.ensures.passes c.args.caps.now source is)
    (λ later of. shown-passes c.args.caps.now later c.in_ok-made.made held rose c.shown.result of c.shown.ensures)
