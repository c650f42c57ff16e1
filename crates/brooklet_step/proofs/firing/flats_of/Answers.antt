use Rattle.std.proofs.Common.{length, ap, arith}
use Rattle.brooklet_step.proofs.Fires.{flats_next}
use Rattle.brooklet_step.proofs.firing.flats_of.Goals as goal

pub loop-item-smaller : goal.loop-item-smaller
loop-item-smaller c = let e = ap length c.in-Some.ensures in omega (arith, e)

pub loop-item-preserved : goal.loop-item-preserved
loop-item-preserved c =
    flats_next c.loop-item.all c.add_flat.new.all c.args.items.now c.loop-item.items c.pop.new.self c.in-Some.item c.loop-item.invariant c.in-Some.ensures
    c.in_ok-add_flat.ensures
