use Rattle.std.proofs.Common.{arith, ◌≡◌, drop}
use Rattle.std.proofs.lemmas.List.{take_rest}
use Rattle.csv_cuts.proofs.Fronts.{rest-next, rest-last, rest-uncut}
use Rattle.csv_cuts.proofs.Sizes.{within-next}
use Rattle.csv_cuts.proofs.pieces.cut_rest.Goals as goal
use Rattle.csv_cuts.proofs.pieces.cut_rest.Goals.{then-loop-from-test+else-end-rest, else-loop-from-test}

pub loop-from-preserved : goal.loop-from-preserved
loop-from-preserved g c =
    let inv = c.loop-from.invariant in
    let next = c.rest_end-end-in-loop-from.ensures in
    record {
      later = omega (arith, inv.later, c.take.ensures.later);
      after = next.after;
      within = next.within;
      cuts = next.cuts;
      long = next.long;
      none = next.none;
      size = next.size;
      whole = next.whole;
      sized =
          within-next c.args.size.records c.args.size.bytes (g.P.PieceSink.taken c.args.to.now) (g.P.PieceSink.taken c.loop-from.to)
          (g.P.PieceSink.taken c.take.new.self) _ inv.sized (inv.size c.loop-from-test.true c.if-end-rest.true) c.in_ok-take.ensures.took;
      front =
          rest-next c.args.rest.now c.loop-from.from c.loop-from.end (g.P.PieceSink.taken c.args.to.now)
          (g.P.PieceSink.taken c.loop-from.to) (g.P.PieceSink.taken c.take.new.self) c.loop-from-test.true
          (inv.cuts c.loop-from-test.true c.if-end-rest.true) inv.front c.in_ok-take.ensures.took;
    }

pub returns-then-end-rest-2-clause-uncut : goal.returns-then-end-rest-2-clause-uncut
returns-then-end-rest-2-clause-uncut g c =
    let inv = c.loop-from.invariant in
    let same : c.loop-from.from ≡ c.loop-from.end =
    elim c.loop-from-test.branch [ then-loop-from-test+else-end-rest w ↦ omega arith | else-loop-from-test w ↦ omega arith ] in
    rest-uncut c.args.rest.now c.loop-from.from c.args.size.bytes (g.P.PieceSink.taken c.args.to.now) (g.P.PieceSink.taken c.loop-from.to)
    (inv.long same c.if-end-rest-2.true) (inv.none same c.if-end-rest-2.true) inv.front

pub returns-clause-cut : goal.returns-clause-cut
returns-clause-cut g c =
    rest-last c.args.rest.now (drop c.loop-from.from c.args.rest.now) (g.P.PieceSink.taken c.args.to.now) (g.P.PieceSink.taken c.loop-from.to)
    (g.P.PieceSink.taken c.take-2.new.self) c.loop-from.invariant.front
    (rw (take_rest c.args.rest.now c.loop-from.from) at c.in_ok-take-2.ensures.took)

pub returns-clause-within : goal.returns-clause-within
returns-clause-within g c =
    let inv = c.loop-from.invariant in
    within-next c.args.size.records c.args.size.bytes (g.P.PieceSink.taken c.args.to.now) (g.P.PieceSink.taken c.loop-from.to)
    (g.P.PieceSink.taken c.take-2.new.self) (drop c.loop-from.from c.args.rest.now) inv.sized (inv.whole (omega arith))
    (rw (take_rest c.args.rest.now c.loop-from.from) at c.in_ok-take-2.ensures.took)
