use Rattle.std.proofs.Common.{◌<◌, length, arith, ap, subst}
use Rattle.std.specs.Prelude.{slice_index_or}
use Rattle.brooklet_step.proofs.ReadLemmas.{found_place, op_there, port_there, ops_many}
use Rattle.brooklet_run.proofs.turn.place_read.Goals as goal

pub returns-then-port-places : goal.returns-then-port-places
returns-then-port-places c =
    let e = c.reads_of-places.ensures in
    let m = ops_many c.raw.result.now c.args.parts.now.plan c.raw.ensures.raw in
    found_place c.args.parts.now c.args.op c.args.port _ c.requires (omega (arith, m))
    (subst (λ l. c.args.port < length l) e (omega arith)) (ap (λ l. slice_index_or l c.args.port 0) e)

pub returns-else-port-places : goal.returns-else-port-places
returns-else-port-places c = λ q r.
    let e = ap length c.reads_of-places.ensures in
    let b = port_there c.args.parts.now.plan c.args.op c.args.port q r in
    omega (arith, b, e)

pub returns-else-op-len : goal.returns-else-op-len
returns-else-op-len c = λ q r.
    let b = op_there c.args.parts.now.plan c.args.op c.args.port q r in
    let m = ops_many c.raw.result.now c.args.parts.now.plan c.raw.ensures.raw in
    omega (arith, b, m)
