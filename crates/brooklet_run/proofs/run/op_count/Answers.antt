use Rattle.std.proofs.Common.{arith}
use Rattle.brooklet_step.proofs.RunLemmas.{ops_few}
use Rattle.brooklet_run.proofs.run.op_count.Goals as goal

pub overflow_cast-result : goal.overflow_cast-result
overflow_cast-result c =
    let h = ops_few c.raw.result.now c.args.plan.now c.raw.ensures.raw c.raw.ensures.valid in
    let e = c.len.ensures in
    omega (arith, h.0, h.1, e)
