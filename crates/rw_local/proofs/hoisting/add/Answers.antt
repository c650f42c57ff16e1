use Rattle.std.proofs.Common.{refl}
use Rattle.std.proofs.lemmas.Result.{on_ok_weaker}
use Rattle.work_code.specs.Term.{term}
use Rattle.river_plan.specs.Forms.{op_form, op_forms}
use Rattle.river_plan.proofs.NameLemmas.{nat_zero, not_false}
use Rattle.rw_local.specs.Hoist.{hoisted_ops}
use Rattle.rw_local.proofs.HoistCode.{pushed, for_writer, for_reader, for_other}
use Rattle.rw_local.proofs.hoisting.add.Goals as goal

pub returns-then-contains : goal.returns-then-contains
returns-then-contains c =
    let x = c.args.pair.now in
    on_ok_weaker c.add_pair.result
    (λ e. for_writer x.mid (hoisted_ops (op_form x.above.now) (op_form x.below.now) x.side (term x.cond.now) x.src x.mid x.out)
    (op_form c.args.op.now) (op_forms c.args.all.now) _ (c.if-contains.ensures.0 refl) e)
    c.add_pair.ensures

pub returns-then-contains-2 : goal.returns-then-contains-2
returns-then-contains-2 c =
    let x = c.args.pair.now in
    for_reader x.mid (hoisted_ops (op_form x.above.now) (op_form x.below.now) x.side (term x.cond.now) x.src x.mid x.out) (op_form c.args.op.now)
    (op_forms c.args.all.now)
    (nat_zero (λ lt. not_false (c.if-contains.ensures.1 lt))) (c.if-contains-2.ensures.0 refl)

pub returns : goal.returns
returns c =
    let x = c.args.pair.now in
    on_ok_weaker c.push.result
    (λ e. for_other x.mid (hoisted_ops (op_form x.above.now) (op_form x.below.now) x.side (term x.cond.now) x.src x.mid x.out)
    (op_form c.args.op.now) (op_forms c.args.all.now) _
    (nat_zero (λ lt. not_false (c.if-contains.ensures.1 lt))) (nat_zero (λ lt. not_false (c.if-contains-2.ensures.1 lt)))
    (pushed c.args.all.now c.push.new.self c.in_ok-copy.field-0 (op_form c.args.op.now) e c.in_ok-copy.ensures))
    c.push.ensures.ok
