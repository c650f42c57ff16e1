use Rattle.std.proofs.Common.{◌≡◌, Some, sym, ap, ◌∙◌, subst, arith}
use Rattle.std.specs.Prelude.{slice_get}
use Rattle.std.proofs.lemmas.Option.{slice_get-get_or}
use Rattle.fire_run.specs.Closed.{AreOuts, HasOuts}
use Rattle.fire_run.proofs.OutLemmas.{tasks_next}
use Rattle.fire_run.proofs.closing.all_outs.Goals as goal

pub at_mut-requires : goal.at_mut-requires
at_mut-requires c =
    let s = c.requires.some in
    let now = (c.loop-op.invariant.tasks s.0 s.1).many in
    let first = s.1.many in
    let lt = c.loop-op-test.true in
    let end = c.len-op-end.ensures in
    omega (arith, now, first, lt, end)

pub take_outs-requires-clause-some : goal.take_outs-requires-clause-some
take_outs-requires-clause-some c =
    let s = c.requires.some in
    let k = c.loop-op.invariant.tasks s.0 s.1 in
    let now = k.many in
    let first = s.1.many in
    let lt = c.loop-op-test.true in
    let end = c.len-op-end.ensures in
    let t = c.at_mut.result.now in
    record {
      h = s.0;
      lines_are = c.loop-op.invariant.lines s.0 s.1;
      outs_are = subst (HasOuts c.args.plan.now s.0 c.loop-op.op 0) (sym c.finish-outs.ensures) (k.each c.loop-op.op t (omega arith)
          (slice_get-get_or c.loop-op.tasks c.loop-op.op t (omega (arith, now, first, lt, end)) ∙ ap Some (sym (c.at_mut.ensures.value t))));
    }

pub loop-op-preserved : goal.loop-op-preserved
loop-op-preserved c =
    let s = c.requires.some in
    let k0 = c.loop-op.invariant.tasks s.0 s.1 in
    let now = k0.many in
    let first = s.1.many in
    let lt = c.loop-op-test.true in
    let end = c.len-op-end.ensures in
    let t = c.at_mut.result.now in
    let got : slice_get c.loop-op.tasks c.loop-op.op ≡ Some t = slice_get-get_or c.loop-op.tasks c.loop-op.op t (omega (arith, now, first, lt, end))
    ∙ ap Some (sym (c.at_mut.ensures.value t)) in
    record {
      lines = λ h hv. c.take_outs.ensures h (c.loop-op.invariant.lines h hv)
          (subst (HasOuts c.args.plan.now h c.loop-op.op 0) (sym c.finish-outs.ensures) ((c.loop-op.invariant.tasks h hv).each c.loop-op.op t (omega arith) got));
      tasks = λ h hv. tasks_next c.args.plan.now h c.loop-op.op c.loop-op.tasks _ (c.loop-op.invariant.tasks h hv);
    }

pub returns : goal.returns
returns c =
    λ h hv. subst (λ n. AreOuts c.args.plan.now h n 0 c.loop-op.lines)
    (let m = hv.many in let end = c.len-op-end.ensures in let f = c.loop-op-test.false in omega (arith, m, end, f)) (c.loop-op.invariant.lines h hv)
