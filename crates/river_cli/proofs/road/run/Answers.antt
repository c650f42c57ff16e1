use Rattle.std.proofs.lemmas.Result.{err_from_is_err_and}
use Rattle.river_outside.specs.Causes.{Rose}
use Rattle.river_road.specs.Supplied.{printed_for}
use Rattle.river_road.specs.Points.{of_gathered}
use Rattle.river_road.proofs.Points.{printed-passes}
use Rattle.river_cli.specs.Points.{source_in, takes_more}
use Rattle.river_cli.proofs.road.run.Goals as goal

pub run_by_workers-requires-clause-ready : goal.run_by_workers-requires-clause-ready
run_by_workers-requires-clause-ready g c = λ _ _. (c.in_ok-gathered.ensures.passes.0, c.in_ok-gathered.ensures.passes.1)

pub returns-in_err-gathered-clause-passes : goal.returns-in_err-gathered-clause-passes
returns-in_err-gathered-clause-passes g c =
    let p = err_from_is_err_and c.from_residual.result c.from_residual.ensures.1 in
    let stops = c.in_err-gathered.ensures.passes in
    rw (p.1, p.2) (λ next. stops (λ s. next (printed_for c.args.words.now.counts s)))

pub returns-clause-passes : goal.returns-clause-passes
returns-clause-passes g c =
    let words = c.args.words.now in
    let rose = Rose g.S.Shelf.stays_at_last (g.S.Shelf.faults c.args.shelf.now) (g.S.Shelf.faults c.gather_in.new.shelf) in
    printed-passes words.counts (of_gathered (source_in words.lang) (takes_more words.lang) words) (g.S.Shelf.held c.args.shelf.now) rose
    c.in_ok-gathered.gathered c.in_ok-run_by_workers.field-0 c.in_ok-gathered.ensures.passes c.in_ok-run_by_workers.ensures
