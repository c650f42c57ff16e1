use Rattle.std.proofs.Common.{arith}
use Rattle.brooklet_step.proofs.RunLemmas.{ops_few, ports_at}
use Rattle.brooklet_run.proofs.run.port_count.Goals as goal

pub overflow_cast-result : goal.overflow_cast-result
overflow_cast-result c =
    let h = ops_few c.raw.result.now c.args.plan.now c.raw.ensures.raw c.raw.ensures.valid in
    let p = ports_at c.raw.result.now c.args.plan.now c.args.op c.len.result c.at.result.now c.raw.ensures.raw c.raw.ensures.valid
    (let r = c.requires in omega (arith, h.0, r)) (c.at.ensures c.at.result.now) c.len.ensures in
    let f = p.few in
    omega (arith, f)

pub returns : goal.returns
returns c =
    let h = ops_few c.raw.result.now c.args.plan.now c.raw.ensures.raw c.raw.ensures.valid in
    (ports_at c.raw.result.now c.args.plan.now c.args.op c.len.result c.at.result.now c.raw.ensures.raw c.raw.ensures.valid
    (let r = c.requires in omega (arith, h.0, r)) (c.at.ensures c.at.result.now) c.len.ensures).ports
