use Rattle.std.proofs.Common.{arith, drop}
use Rattle.std.proofs.lemmas.List.{take_rest}
use Rattle.lap_cuts.proofs.Cuts.{rest-next, rest-last}
use Rattle.lap_cuts.proofs.laps.laps_of_rest.Goals as goal

pub loop-from-preserved : goal.loop-from-preserved
loop-from-preserved g c =
    let inv = c.loop-from.invariant in
    let next = c.lap_in_rest-lap-in-loop-from.ensures in
    let order = inv.ordered c.loop-from-test.true in
    let end = inv.within c.loop-from-test.true in
    record {
      later = omega (arith, inv.later, c.take.ensures.later);
      after = next.after;
      within = next.within;
      ordered = next.ordered;
      cuts = next.cuts;
      front =
          rest-next c.args.laps.records c.args.laps.step c.args.rest.now c.loop-from.from c.loop-from.lap.end c.loop-from.lap.next
          (g.P.PieceSink.taken c.args.to.now) (g.P.PieceSink.taken c.loop-from.to) (g.P.PieceSink.taken c.take.new.self) c.loop-from-test.true
          (inv.cuts c.loop-from-test.true) inv.front c.in_ok-take.ensures.took;
      place = omega (arith, order, end);
    }

pub returns-clause-took : goal.returns-clause-took
returns-clause-took g c =
    rest-last c.args.laps.records c.args.laps.step c.args.rest.now (drop c.loop-from.from c.args.rest.now) (g.P.PieceSink.taken c.args.to.now)
    (g.P.PieceSink.taken c.loop-from.to) (g.P.PieceSink.taken c.take-2.new.self) c.loop-from.invariant.front
    (rw (take_rest c.args.rest.now c.loop-from.from) at c.in_ok-take-2.ensures.took)
