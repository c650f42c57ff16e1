use Rattle.std.proofs.lemmas.Result.{err_from_is_err_and}
use Rattle.river_road.specs.Supplied.{IsGathered}
use Rattle.river_road.specs.Load.{load_script}
use Rattle.river_road.specs.Points.{supplied_by, with_plan}
use Rattle.river_road.specs.Source.{IsPlanned}
use Rattle.river_script.specs.Meaning.{rewritten}
use Rattle.river_road.proofs.Loaded.{then-refused, then-answers}
use Rattle.river_road.proofs.loading.load_scripted.Goals as goal

pub returns-in_err-made : goal.returns-in_err-made
returns-in_err-made c source is =
    let p = err_from_is_err_and c.from_residual.result c.from_residual.ensures.1 in
    rw (p.1, p.2) (then-refused (with_plan source (rewritten source.plan load_script)) (supplied_by c.args.number) c.in_err-made.field-0.0
    (c.in_err-made.ensures c.args.caps source is))

pub returns : goal.returns
returns c source is =
    then-answers (IsPlanned c.args.caps) IsGathered (with_plan source (rewritten source.plan load_script)) (supplied_by c.args.number)
    c.in_ok-made.made c.load_over.result (c.in_ok-made.ensures c.args.caps source is) c.load_over.ensures
