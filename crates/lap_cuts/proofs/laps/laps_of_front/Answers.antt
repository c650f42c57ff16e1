use Rattle.std.proofs.Common.{arith}
use Rattle.lap_cuts.proofs.Cuts.{front-next}
use Rattle.lap_cuts.proofs.laps.laps_of_front.Goals as goal

pub loop-from-preserved : goal.loop-from-preserved
loop-from-preserved g c =
    let inv = c.loop-from.invariant in
    let next = c.lap_in_front-lap-in-loop-from.ensures in
    record {
      later = omega (arith, inv.later, c.take.ensures.later);
      after = next.after;
      within = next.within;
      ordered = next.ordered;
      cuts = next.cuts;
      front =
          front-next c.args.laps.records c.args.laps.step c.args.window.now c.loop-from.from c.loop-from.lap.end c.loop-from.lap.next
          (g.P.PieceSink.taken c.args.to.now) (g.P.PieceSink.taken c.loop-from.to) (g.P.PieceSink.taken c.take.new.self) c.loop-from-test.true
          (inv.ordered c.loop-from-test.true) (inv.within c.loop-from-test.true) (inv.cuts c.loop-from-test.true) inv.front c.in_ok-take.ensures.took;
    }
