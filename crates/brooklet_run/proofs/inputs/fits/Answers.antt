use Rattle.std.proofs.Common.{ap, subst, []}
use Rattle.brooklet_step.proofs.StartLemmas.{inputs_many}
use Rattle.river_plan.specs.Forms.{PlanForm}
use Rattle.brooklet_step.specs.Fit.{IsStreamAt}
use Rattle.brooklet_run.proofs.FitLemmas.{always, stream_in, fits_then, fits_else, fits_none}
use Rattle.brooklet_run.proofs.inputs.fits.Goals as goal

pub at-first-requires : goal.at-first-requires
at-first-requires c =
    stream_in c.args.plan.now c.raw.result.now.inputs c.args.inputs.now (ap (λ (x : PlanForm). x.inputs) c.raw.ensures.raw)
    (c.are_typed.ensures.0 c.if-not-are_typed.false) c.in-Some.place (subst (IsStreamAt c.raw.result.now.inputs) c.in-Some.is c.stream_place.ensures)

pub all_follow-requires : goal.all_follow-requires
all_follow-requires c = inputs_many c.raw.result.now.inputs c.args.inputs.now (c.are_typed.ensures.0 c.if-not-are_typed.false)

pub returns-then-rise : goal.returns-then-rise
returns-then-rise c =
    fits_then c.args.plan.now c.raw.result.now.inputs c.args.inputs.now (ap (λ (x : PlanForm). x.inputs) c.raw.ensures.raw)
    (c.are_typed.ensures.0 c.if-not-are_typed.false) c.in-Some.place c.at-first.result.now c.all_follow.result
    (subst (IsStreamAt c.raw.result.now.inputs) c.in-Some.is c.stream_place.ensures) (c.at-first.ensures [])
    (c.rise.ensures.0 c.if-rise.true) c.all_follow.ensures

pub returns-else-rise : goal.returns-else-rise
returns-else-rise c =
    fits_else c.args.plan.now c.raw.result.now.inputs c.args.inputs.now (ap (λ (x : PlanForm). x.inputs) c.raw.ensures.raw)
    (c.are_typed.ensures.0 c.if-not-are_typed.false) c.in-Some.place c.at-first.result.now c.rise.result
    (subst (IsStreamAt c.raw.result.now.inputs) c.in-Some.is c.stream_place.ensures) (c.at-first.ensures []) c.if-rise.false c.rise.ensures

pub returns-in-None : goal.returns-in-None
returns-in-None c =
    always (fits_none c.args.plan.now c.raw.result.now.inputs c.args.inputs.now (ap (λ (x : PlanForm). x.inputs) c.raw.ensures.raw)
    (c.are_typed.ensures.0 c.if-not-are_typed.false) (subst (IsStreamAt c.raw.result.now.inputs) c.in-None.is c.stream_place.ensures))
