use Rattle.std.proofs.Common.{[], refl, ◌∙◌, arith}
use Rattle.brooklet_step.proofs.Moving.{moved_next, untouched_next}
use Rattle.brooklet_run.proofs.ending.first_lists.Goals as goal

pub loop-place-preserved : goal.loop-place-preserved
loop-place-preserved c =
    let u = c.loop-place.invariant.left in
    record {
      lists = moved_next c.loop-place.place [] c.loop-place.lists c.push.new.self c.args.queues.now c.loop-place.queues c.take_line.result
          (omega (arith, c.loop-place-test.true, c.requires)) u c.loop-place.invariant.lists
          (c.take_line.ensures ∙ c.at_mut.ensures.value []) c.in_ok-push.ensures.ok;
      left = untouched_next c.loop-place.place c.args.queues.now c.loop-place.queues _ c.take_line.new.line u refl;
    }
