use Rattle.std.proofs.Common.{arith}
use Rattle.std.specs.Prelude.{IsTrue}
use Rattle.fire_tasks.proofs.BundleLemmas.{looked_one, looked_done, looked_busy, looked_all}
use Rattle.fire_tasks.proofs.bundle.all_done.Goals as goal

pub at_mut-requires : goal.at_mut-requires
at_mut-requires c = let m = c.loop-place.invariant.looked.many in omega (arith, m)

pub returns-then-not-is_done-clause-same : goal.returns-then-not-is_done-clause-same
returns-then-not-is_done-clause-same c =
    let m = c.loop-place.invariant.looked.many in
    looked_one c.loop-place.place c.args.tasks.now c.loop-place.tasks c.at_mut.result.now c.is_done.new.task c.loop-place.invariant (omega (arith, m))
    (c.at_mut.ensures.value c.at_mut.result.now) c.is_done.ensures.same

pub returns-then-not-is_done-clause-idle : goal.returns-then-not-is_done-clause-idle
returns-then-not-is_done-clause-idle c = (
  λ f. absurd (cc f),
  λ idle. absurd (
      let m = c.loop-place.invariant.looked.many in
      looked_busy c.loop-place.place c.args.tasks.now c.loop-place.tasks c.at_mut.result.now c.is_done.new.task c.loop-place.invariant (omega (arith, m))
      (c.at_mut.ensures.value c.at_mut.result.now) c.is_done.ensures.same
      (λ d. let t : IsTrue c.is_done.result = c.is_done.ensures.done.1 d in let f = c.if-not-is_done.true in absurd (cc (t, f))) idle),
)

pub loop-place-preserved : goal.loop-place-preserved
loop-place-preserved c =
    let m = c.loop-place.invariant.looked.many in
    looked_done c.loop-place.place c.args.tasks.now c.loop-place.tasks c.at_mut.result.now c.is_done.new.task c.loop-place.invariant (omega (arith, m))
    (c.at_mut.ensures.value c.at_mut.result.now) c.is_done.ensures.same (c.is_done.ensures.done.0 c.if-not-is_done.false)

pub returns-clause-same : goal.returns-clause-same
returns-clause-same c = c.loop-place.invariant.looked

pub returns-clause-idle : goal.returns-clause-idle
returns-clause-idle c = (
  λ f. looked_all c.loop-place.place c.args.tasks.now c.loop-place.tasks c.loop-place.invariant (omega arith),
  λ idle. cc,
)
