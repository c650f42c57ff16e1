use Rattle.std.proofs.Common.{arith}
use Rattle.fire_run.proofs.RunLemmas.{many_ops, own_worker}
use Rattle.fire_run.proofs.running.busy_workers.Goals as goal

pub returns-clause-same : goal.returns-clause-same
returns-clause-same c = λ i lt.
    let m = many_ops c.raw.result.now c.args.plan.now c.raw.ensures.raw in
    own_worker i _ c.args.workers (omega arith) (omega arith)
