use Rattle.std.proofs.Common.{◌+◌, length, get_or, sym, ap, ◌∙◌, refl, subst, arith}
use Rattle.std.proofs.lemmas.List.{length-set}
use Rattle.river_plan.specs.Forms.{OpForm}
use Rattle.fire_open.proofs.SourceLemmas.{port_at}
use Rattle.fire_run.specs.Closed.{AreOuts, HasOuts}
use Rattle.fire_run.proofs.OutLemmas.{ends_there, end_here, ends_next, ends_set, outs_next, outs_skip, outs_op}
use Rattle.fire_run.proofs.closing.take_outs.Goals as goal
use Rattle.fire_run.proofs.closing.take_outs.Goals.{then-places-port, else-places-port}

pub at_mut-requires : goal.at_mut-requires
at_mut-requires c =
    let ps = c.writes_of-places.result.now in
    let s = c.requires.some in
    let long = ends_there c.args.plan.now s.h c.args.op 0 ps c.args.outs.now c.requires.there c.writes_of-places.ensures s.outs_are in
    let many = c.loop-port.invariant.many in
    let lt = c.loop-port-test.true in
    omega (arith, long, many, lt)

pub take_kept-requires : goal.take_kept-requires
take_kept-requires c =
    let ps = c.writes_of-places.result.now in
    let n = get_or ps c.loop-port.port 0 in
    let a = port_at c.args.plan.now (λ (op : OpForm). op.writes) c.args.op c.loop-port.port n 0 ps c.requires.there c.writes_of-places.ensures
    (omega arith) refl in
    let s = c.requires.some in
    let long = ends_there c.args.plan.now s.h c.args.op 0 ps c.args.outs.now c.requires.there c.writes_of-places.ensures s.outs_are in
    let many = c.loop-port.invariant.many in
    let lt = c.loop-port-test.true in
    let f = c.at_mut.result.now in
    let lines = (c.loop-port.invariant.lines s.h s.lines_are s.outs_are).many in
    let few = c.len.ensures in
    let below = c.if-places-port.true in
    (end_here c.args.plan.now s.h c.args.op c.loop-port.port n a c.loop-port.outs f (c.loop-port.invariant.outs s.h s.outs_are) (omega (arith, long, many, lt))
    (c.at_mut.ensures.value f)).1 (omega (arith, lines, few, below))

pub loop-port-preserved : goal.loop-port-preserved
loop-port-preserved c =
    let ps = c.writes_of-places.result.now in
    let n = get_or ps c.loop-port.port 0 in
    let a = port_at c.args.plan.now (λ (op : OpForm). op.writes) c.args.op c.loop-port.port n 0 ps c.requires.there c.writes_of-places.ensures
    (omega arith) refl in
    let p = c.args.plan.now in
    let s = c.requires.some in
    let long = ends_there p s.h c.args.op 0 ps c.args.outs.now c.requires.there c.writes_of-places.ensures s.outs_are in
    let many = c.loop-port.invariant.many in
    let lt = c.loop-port-test.true in
    let few = c.len.ensures in
    elim c.if-places-port.branch [
      | then-places-port w ↦ record {
        many = ap length w.outs-is ∙ length-set c.loop-port.outs c.loop-port.port _ ∙ many;
        lines = λ h l o.
            let f = w.at_mut.result.now in
            let e = end_here p h c.args.op c.loop-port.port n a c.loop-port.outs f (c.loop-port.invariant.outs h o) (omega (arith, long, many, lt))
            (w.at_mut.ensures.value f) in
            let below = w.if-places-port.true in
            subst (AreOuts p h c.args.op (c.loop-port.port + 1)) (sym w.lines-is)
            (outs_next p c.requires.valid h c.args.op c.loop-port.port n a c.loop-port.lines (c.loop-port.invariant.lines h l o) w.take_kept.result
            (omega (arith, few, below)) (w.take_kept.ensures ∙ e.0));
        outs = λ h o. subst (HasOuts p h c.args.op (c.loop-port.port + 1)) (sym w.outs-is)
            (ends_set p h c.args.op c.loop-port.port c.loop-port.outs _ (c.loop-port.invariant.outs h o));
      }
      | else-places-port w ↦ record {
        many = ap length w.outs-is ∙ many;
        lines = λ h l o.
            let above = w.if-places-port.false in
            subst (AreOuts p h c.args.op (c.loop-port.port + 1)) (sym w.lines-is)
            (outs_skip p c.requires.valid h c.args.op c.loop-port.port n a c.loop-port.lines (c.loop-port.invariant.lines h l o) (omega (arith, few, above)));
        outs = λ h o. subst (HasOuts p h c.args.op (c.loop-port.port + 1)) (sym w.outs-is)
            (ends_next p h c.args.op c.loop-port.port c.loop-port.outs (c.loop-port.invariant.outs h o));
      }
    ]

pub returns : goal.returns
returns c =
    λ h l o. outs_op c.args.plan.now h c.args.op c.loop-port.port c.loop-port.lines c.writes_of-places.result.now c.requires.there c.writes_of-places.ensures
    (let f = c.loop-port-test.false in omega (arith, f)) (c.loop-port.invariant.lines h l o)
