use Rattle.std.proofs.Common.{◌≡◌, take}
use Rattle.work_code.specs.Term.{term}
use Rattle.river_plan.specs.Forms.{op_form, op_forms}
use Rattle.plan_edits.specs.Lists.{replaced}
use Rattle.rw_local.specs.Hoist.{hoisted_ops}
use Rattle.rw_local.proofs.hoisting.replaced.Given as goal

abbrev pub invariant-loop-op : goal.invariant-loop-op
invariant-loop-op l =
    let x = l.pair in
    op_forms l.all ≡ replaced x.mid (hoisted_ops (op_form x.above.now) (op_form x.below.now) x.side (term x.cond.now) x.src x.mid x.out)
    (op_forms (take l.op-index l.op-items))
