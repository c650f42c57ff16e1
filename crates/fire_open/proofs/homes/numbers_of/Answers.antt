use Rattle.std.proofs.Common.{length, ap, ◌∙◌, arith}
use Rattle.std.proofs.lemmas.List.{take_all}
use Rattle.river_plan.specs.Forms.{PlanForm}
use Rattle.plan_classes.proofs.Named.{few_tables}
use Rattle.brooklet_step.specs.Tables.{table_places}
use Rattle.fire_open.proofs.HomeLemmas.{numbers_are}
use Rattle.fire_open.proofs.homes.numbers_of.Goals as goal

pub overflow_cast-var : goal.overflow_cast-var
overflow_cast-var c =
    let f = few_tables c.args.plan.now c.raw.ensures.valid in
    let e = ap (λ (q : PlanForm). length q.tables) c.raw.ensures.raw in
    let n = c.len-count.ensures in
    let lt = c.if-var-count.true in
    omega (arith, f, e, n, lt)

pub returns : goal.returns
returns c =
    numbers_are c.args.plan.now c.args.op c.len-count.result c.vars_of-var-items.result.now c.loop-var.tables c.requires
    (c.len-count.ensures ∙ ap (λ (q : PlanForm). length q.tables) c.raw.ensures.raw) c.vars_of-var-items.ensures
    (c.loop-var.invariant ∙ ap (table_places c.len-count.result) (take_all c.loop-var.var-index c.vars_of-var-items.result.now (omega arith)))
