use Rattle.std.proofs.Common.{arith}
use Rattle.brooklet_step.proofs.Moving.{emptied, emptied_next, emptied_all}
use Rattle.brooklet_step.proofs.emit.clear_all.Goals as goal

pub loop-place-init : goal.loop-place-init
loop-place-init g c = emptied c.args.lists.now

pub clear_at-requires : goal.clear_at-requires
clear_at-requires g c = let m = c.loop-place.invariant.left.many in omega (arith, m)

pub loop-place-preserved : goal.loop-place-preserved
loop-place-preserved g c =
    emptied_next c.loop-place.place c.args.lists.now c.loop-place.lists c.clear_at.new.lists c.loop-place.invariant (omega arith) c.clear_at.ensures

pub returns : goal.returns
returns g c = emptied_all c.loop-place.place c.args.lists.now c.loop-place.lists c.loop-place.invariant (omega arith)
