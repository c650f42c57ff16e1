use Rattle.std.proofs.Common.{◌≡◌, Some, sym, ap, ◌∙◌, subst}
use Rattle.std.specs.Prelude.{Result}
use Rattle.river_plan.specs.Forms.{PlanForm, plan_form}
use Rattle.river_plan.specs.Valid.{IsPlan}
use Rattle.plan_edits.specs.declared.unfit.Unfit.{Unfit}
use Rattle.rw_fission.specs.Asked.{HoldsOfAnswer, by_op, fission_of}
use Rattle.rw_fission.proofs.StepLemmas.{step_answered}
use Rattle.rw_fission.proofs.step.fission.Goals as goal

pub split_place-requires-clause-valid : goal.split_place-requires-clause-valid
split_place-requires-clause-valid c = subst IsPlan (sym c.raw-raw.ensures.raw) c.raw-raw.ensures.valid

pub split_place-requires-clause-place : goal.split_place-requires-clause-place
split_place-requires-clause-place c = c.in-Some.ensures

pub returns-in-None : goal.returns-in-None
returns-in-None c =
    let p : PlanForm = plan_form c.raw-raw.result.now in
    ap (λ (q : PlanForm). fission_of q c.args.label.now c.args.n) (sym c.raw-raw.ensures.raw) ∙ ap (by_op p c.args.label.now c.args.n) c.in-None.ensures

pub returns-in-Some : goal.returns-in-Some
returns-in-Some c =
    let p : PlanForm = plan_form c.raw-raw.result.now in
    let place = c.in-Some.ensures in
    let told : fission_of c.args.plan.now c.args.label.now c.args.n ≡ by_op p c.args.label.now c.args.n (Some place.op) =
    ap (λ (q : PlanForm). fission_of q c.args.label.now c.args.n) (sym c.raw-raw.ensures.raw) ∙ ap (by_op p c.args.label.now c.args.n) place.first in
    step_answered (fission_of c.args.plan.now c.args.label.now c.args.n) c.split_place.result
    (subst (λ (y : Result PlanForm Unfit). HoldsOfAnswer (λ x. x ≡ y) c.split_place.result) (sym told) (c.split_place.ensures place.op place.at))
