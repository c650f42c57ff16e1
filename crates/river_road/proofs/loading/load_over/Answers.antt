use Rattle.std.proofs.Common.{◌≡◌, ap, ◌∙◌}
use Rattle.std.proofs.lemmas.Result.{err_from_is_err_and}
use Rattle.river_plan.specs.Forms.{PlanForm}
use Rattle.river_road.proofs.Supplied.{files-gathered}
use Rattle.river_road.proofs.Loaded.{files-refused, files-given}
use Rattle.river_road.proofs.loading.load_over.Goals as goal

pub returns-in_err-files : goal.returns-in_err-files
returns-in_err-files c source is =
    let p = err_from_is_err_and c.from_residual.result c.from_residual.ensures.1 in
    let decls : c.as_slice.result.now ≡ c.args.plan.inputs = c.as_slice.ensures ∙ ap (λ (q : PlanForm). q.inputs) c.raw.ensures.raw in
    let refuses = rw decls at c.in_err-files.ensures.answers in
    rw (p.1, p.2) (files-refused c.args.number c.args.plan source is.plan c.in_err-files.field-0.0 refuses)

pub returns : goal.returns
returns c source is =
    let decls : c.as_slice.result.now ≡ c.args.plan.inputs = c.as_slice.ensures ∙ ap (λ (q : PlanForm). q.inputs) c.raw.ensures.raw in
    let told = rw decls at c.in_ok-files.ensures.answers in
    let typed = rw decls at c.in_ok-files.ensures.contents in
    files-given c.args.number c.args.plan source is.plan c.in_ok-files.files c.in_ok-over.field-0 told
    (files-gathered source c.args.plan c.args.caps c.in_ok-files.files c.in_ok-over.field-0 is typed c.in_ok-over.ensures)
