use Rattle.std.proofs.lemmas.Result.{err_from_is_err_and}
use Rattle.river_road.proofs.Loaded.{load-refused, load-answers}
use Rattle.river_road.proofs.loading.gather_load.Goals as goal

pub returns-in_err-compiled : goal.returns-in_err-compiled
returns-in_err-compiled g c =
    let p = err_from_is_err_and c.from_residual.result c.from_residual.ensures.1 in
    rw (p.1, p.2) (load-refused g.L.Language.source c.args.number c.in_err-compiled.field-0.0 c.in_err-compiled.ensures)

pub returns : goal.returns
returns g c =
    load-answers g.L.Language.source c.args.number g.L.Language.stands c.in_ok-compiled.compiled c.load_scripted.result
    c.in_ok-compiled.ensures c.load_scripted.ensures
