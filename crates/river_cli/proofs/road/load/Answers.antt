use Rattle.std.proofs.Common.{false}
use Rattle.std.specs.Prelude.{Ok}
use Rattle.std.proofs.lemmas.Result.{err_from_is_err_and}
use Rattle.river_langs.specs.Sources.{saw_in}
use Rattle.river_road.specs.Supplied.{printed_for}
use Rattle.river_road.specs.Points.{load_supplied}
use Rattle.river_road.proofs.Loaded.{then-refused, loaded-printed}
use Rattle.river_road.proofs.Supplied.{found-ready}
use Rattle.river_cli.proofs.road.load.Goals as goal

pub run_by_workers-requires-clause-ready : goal.run_by_workers-requires-clause-ready
run_by_workers-requires-clause-ready g c = λ _ _. found-ready (load_supplied saw_in c.args.number) c.in_ok-gathered.gathered c.in_ok-gathered.ensures

pub returns-in_err-gathered : goal.returns-in_err-gathered
returns-in_err-gathered g c =
    let p = err_from_is_err_and c.from_residual.result c.from_residual.ensures.1 in
    rw (p.1, p.2) (then-refused (load_supplied saw_in c.args.number) (λ s. Ok (printed_for false s)) c.in_err-gathered.field-0.0 c.in_err-gathered.ensures)

pub returns : goal.returns
returns g c =
    loaded-printed (load_supplied saw_in c.args.number) c.in_ok-gathered.gathered c.in_ok-run_by_workers.field-0 c.in_ok-gathered.ensures
    c.in_ok-run_by_workers.ensures
