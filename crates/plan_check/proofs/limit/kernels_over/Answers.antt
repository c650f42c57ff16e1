use Rattle.std.proofs.Common.{List, refl, ap, ◌∙◌}
use Rattle.river_kernels.specs.Kern.{kern_of}
use Rattle.river_kernels.specs.Limits.{first_above, part_numbers}
use Rattle.river_plan.specs.declared.op.Op.{Op}
use Rattle.river_plan.specs.Forms.{op_forms}
use Rattle.river_plan.specs.Limits.{kernel_numbers}
use Rattle.plan_check.proofs.OverLemmas.{over-next, over-found, over-end}
use Rattle.plan_check.proofs.limit.kernels_over.Goals as goal

pub loop-op-init : goal.loop-op-init
loop-op-init c = refl

pub loop-op-preserved : goal.loop-op-preserved
loop-op-preserved c =
    over-next c.args.most (λ (l : List Op). kernel_numbers c.args.limit (op_forms (l))) (λ (x : Op). part_numbers c.args.limit (kern_of x.kernel))
    (λ x xs. refl) c.as_slice-op-items.result.now c.loop-op.op-index c.op-item.result
    c.loop-op-test.true c.op-item.is c.in_default.ensures c.loop-op.invariant

pub returns-in-Some : goal.returns-in-Some
returns-in-Some c =
    over-found c.args.most (λ (l : List Op). kernel_numbers c.args.limit (op_forms (l))) (λ (x : Op). part_numbers c.args.limit (kern_of x.kernel))
    (λ x xs. refl) c.as_slice-op-items.result.now c.loop-op.op-index c.op-item.result c.in-Some.number
    c.loop-op-test.true c.op-item.is c.in-Some.ensures c.loop-op.invariant
    ∙ ap (λ (l : List Op). first_above c.args.most (kernel_numbers c.args.limit (op_forms (l)))) c.as_slice-op-items.ensures

pub returns : goal.returns
returns c =
    over-end c.args.most (λ (l : List Op). kernel_numbers c.args.limit (op_forms (l))) (λ (x : Op). part_numbers c.args.limit (kern_of x.kernel))
    (λ x xs. refl) c.as_slice-op-items.result.now c.loop-op.op-index
    c.loop-op-test.false refl c.loop-op.invariant
    ∙ ap (λ (l : List Op). first_above c.args.most (kernel_numbers c.args.limit (op_forms (l)))) c.as_slice-op-items.ensures
