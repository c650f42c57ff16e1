use Rattle.std.proofs.Common.{sym, ap, ◌∙◌, subst}
use Rattle.std.specs.Prelude.{Ok}
use Rattle.work_code.specs.Term.{term}
use Rattle.river_plan.specs.Forms.{plan_form, op_form}
use Rattle.river_plan.specs.Valid.{IsPlan}
use Rattle.rw_local.specs.Hoist.{hoist_at}
use Rattle.rw_local.proofs.HoistCode.{read_at}
use Rattle.rw_local.proofs.hoisting.hoist_to.Goals as goal

pub hoisted_lists-requires-clause-there : goal.hoisted_lists-requires-clause-there
hoisted_lists-requires-clause-there c =
    (c.requires c.at.result.now (read_at c.args.below.now.reads c.args.side _ c.at.result.now c.len.ensures c.if-side-len.false (λ d. c.at.ensures d))).0

pub plan_of-requires : goal.plan_of-requires
plan_of-requires c =
    subst IsPlan (sym c.in_ok-lists.ensures)
    (c.requires c.at.result.now (read_at c.args.below.now.reads c.args.side _ c.at.result.now c.len.ensures c.if-side-len.false (λ d. c.at.ensures d))).1

pub returns : goal.returns
returns c =
    let a = c.args.above.now in
    ap (hoist_at (plan_form c.args.raw.now) (op_form a.op.now) (op_form c.args.below.now) a.mid a.out (c.args.side, term c.args.cond.now))
    (read_at c.args.below.now.reads c.args.side _ c.at.result.now c.len.ensures c.if-side-len.false (λ d. c.at.ensures d))
    ∙ ap Ok (sym (c.in_ok-plan_of.ensures ∙ c.in_ok-lists.ensures))
