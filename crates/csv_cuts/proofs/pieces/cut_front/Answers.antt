use Rattle.std.proofs.Common.{arith}
use Rattle.csv_cuts.proofs.Fronts.{front-next}
use Rattle.csv_cuts.proofs.Sizes.{within-next}
use Rattle.csv_cuts.proofs.pieces.cut_front.Goals as goal

pub loop-from-preserved : goal.loop-from-preserved
loop-from-preserved g c =
    let inv = c.loop-from.invariant in
    let next = c.front_end-end-in-loop-from.ensures in
    record {
      later = omega (arith, inv.later, c.take.ensures.later);
      after = next.after;
      within = next.within;
      cuts = next.cuts;
      none = λ e. absurd (omega (arith, e));
      size = next.size;
      sized =
          within-next c.args.size.records c.args.size.bytes (g.P.PieceSink.taken c.args.to.now) (g.P.PieceSink.taken c.loop-from.to)
          (g.P.PieceSink.taken c.take.new.self) _ inv.sized (inv.size c.loop-from-test.true) c.in_ok-take.ensures.took;
      front =
          front-next c.args.window.now c.loop-from.from c.loop-from.end (g.P.PieceSink.taken c.args.to.now)
          (g.P.PieceSink.taken c.loop-from.to) (g.P.PieceSink.taken c.take.new.self) c.loop-from-test.true (inv.within c.loop-from-test.true)
          (inv.cuts c.loop-from-test.true) inv.front c.in_ok-take.ensures.took;
    }
