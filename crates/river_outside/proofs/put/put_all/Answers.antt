use Rattle.std.proofs.Common.{◌∙◌, ap, arith, drop, take}
use Rattle.std.specs.Io.KnownBytes.{append_known}
use Rattle.std.proofs.lemmas.List.{take_rest, length-drop}
use Rattle.river_outside.proofs.Appends.{append_known-more}
use Rattle.river_outside.proofs.put.put_all.Goals as goal

pub loop-done-preserved : goal.loop-done-preserved
loop-done-preserved g c =
    let inv = c.loop-done.invariant in
    let bytes = c.args.bytes.now in
    let took = rw (take_rest bytes c.loop-done.done) at c.in_ok-done.ensures.took in
    let bound = rw (take_rest bytes c.loop-done.done) at c.in_ok-done.ensures.bound in
    record {
      within = omega (arith, bound, length-drop c.loop-done.done bytes, inv.within);
      later = omega (arith, inv.later, c.write.ensures.later);
      took =
          took ∙ ap (λ o. append_known o (take c.in_ok-done.field-0 (drop c.loop-done.done bytes))) inv.took
          ∙ append_known-more (g.K.Sink.taken c.args.sink.now) bytes c.loop-done.done c.in_ok-done.field-0;
    }
