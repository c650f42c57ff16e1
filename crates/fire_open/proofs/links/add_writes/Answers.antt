use Rattle.std.proofs.Common.{length, get_or, refl, arith}
use Rattle.river_plan.specs.Forms.{OpForm}
use Rattle.fire_open.proofs.SourceLemmas.{port_at, write_below, know_next, know_op}
use Rattle.fire_open.proofs.links.add_writes.Goals as goal

pub at_mut-requires : goal.at_mut-requires
at_mut-requires c =
    let ps = c.writes_of-places.result.now in
    write_below c.args.plan.now c.args.writer c.loop-out.out (get_or ps c.loop-out.out 0) (length c.loop-out.sources) c.requires.valid
    (port_at c.args.plan.now (λ (op : OpForm). op.writes) c.args.writer c.loop-out.out
    (get_or ps c.loop-out.out 0) 0 ps c.requires.there c.writes_of-places.ensures (omega arith) refl) c.loop-out.invariant.many

pub loop-out-preserved : goal.loop-out-preserved
loop-out-preserved c =
    let ps = c.writes_of-places.result.now in
    let a = port_at c.args.plan.now (λ (op : OpForm). op.writes) c.args.writer c.loop-out.out
    (get_or ps c.loop-out.out 0) 0 ps c.requires.there c.writes_of-places.ensures (omega arith) refl in
    know_next c.args.plan.now c.args.writer c.loop-out.out (get_or ps c.loop-out.out 0) c.loop-out.sources a
    (write_below c.args.plan.now c.args.writer c.loop-out.out (get_or ps c.loop-out.out 0)
    (length c.loop-out.sources) c.requires.valid a c.loop-out.invariant.many) c.loop-out.invariant

pub returns : goal.returns
returns c = know_op c.args.plan.now c.args.writer c.loop-out.out c.loop-out.sources c.writes_of-places.result.now c.requires.there c.writes_of-places.ensures
    (omega arith) c.loop-out.invariant
