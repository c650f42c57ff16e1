use Rattle.std.proofs.Common.{sym, ap, ◌∙◌, subst}
use Rattle.std.specs.Prelude.{Result}
use Rattle.work_code.specs.Term.{term}
use Rattle.river_plan.specs.Forms.{PlanForm, plan_form, op_form}
use Rattle.plan_edits.specs.declared.unfit.Unfit.{Unfit}
use Rattle.plan_edits.specs.Answered.{IsAnswered}
use Rattle.rw_local.specs.Hoist.{passes, hoist_passed}
use Rattle.rw_local.proofs.HoistCode.{hoist_below, hoist_may, passing_err}
use Rattle.rw_local.proofs.hoisting.hoist_past.Goals as goal

pub hoist_to-requires : goal.hoist_to-requires
hoist_to-requires c src e =
    let a = c.args.above.now in
    hoist_may (plan_form c.args.raw.now) c.requires.selects.0 (op_form a.op.now) (op_form c.in-Some.below.now) (term a.cond.now) a.mid a.out
    c.first_width-width.result c.in-Ok.side (term c.in-Ok.moved)
    c.requires.valid c.requires.selects.1 c.in-Some.ensures (sym c.len.ensures ∙ c.if-len-ne1.false) c.first_width-width.ensures c.in-Ok.ensures src e

pub returns-in-Ok : goal.returns-in-Ok
returns-in-Ok c =
    let p : PlanForm = plan_form c.args.raw.now in
    let a = c.args.above.now in
    let b = op_form c.in-Some.below.now in
    subst (λ (told : Result PlanForm Unfit). IsAnswered told c.hoist_to.result)
    (sym (hoist_below p (op_form a.op.now) b (term a.cond.now) a.mid a.out c.first_width-width.result _ c.in-Some.ensures
    (sym c.len.ensures ∙ c.if-len-ne1.false) c.first_width-width.ensures
    ∙ ap (hoist_passed p (op_form a.op.now) b a.mid a.out) c.in-Ok.ensures))
    c.hoist_to.ensures

pub returns-in-Err : goal.returns-in-Err
returns-in-Err c =
    let p : PlanForm = plan_form c.args.raw.now in
    let a = c.args.above.now in
    let u = op_form a.op.now in
    let b = op_form c.in-Some.below.now in
    let t = term a.cond.now in
    passing_err (passes c.first_width-width.result b.kernel t) _ c.in-Err.fault
    (λ g e. hoist_below p u b t a.mid a.out c.first_width-width.result _ c.in-Some.ensures (sym c.len.ensures ∙ c.if-len-ne1.false)
    c.first_width-width.ensures ∙ ap (hoist_passed p u b a.mid a.out) e)
    c.in-Err.ensures
