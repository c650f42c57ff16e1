use Rattle.fire_run.proofs.RunLemmas.{stays_has, went_end, went_next}
use Rattle.fire_run.proofs.running.make_rounds.Goals as goal

pub make_round-requires-clause-net : goal.make_round-requires-clause-net
make_round-requires-clause-net g c κs within = stays_has c.args.plan.now c.args.net c.loop-round.net c.requires.net c.loop-round.invariant.stays

pub returns-in-Still-clause-stays : goal.returns-in-Still-clause-stays
returns-in-Still-clause-stays g c =
    (went_end c.args.plan.now c.args.net c.loop-round.round c.loop-round.net c.in_ok-next.next c.in_ok-next.went c.loop-round.invariant c.in_ok-next.ensures.goes).0

pub returns-in-Late-clause-stays : goal.returns-in-Late-clause-stays
returns-in-Late-clause-stays g c =
    (went_end c.args.plan.now c.args.net c.loop-round.round c.loop-round.net c.in_ok-next.next c.in_ok-next.went c.loop-round.invariant c.in_ok-next.ensures.goes).0

pub loop-round-preserved : goal.loop-round-preserved
loop-round-preserved g c =
    went_next c.args.plan.now c.args.net c.loop-round.round c.loop-round.net c.in_ok-next.next c.in_ok-next.went c.loop-round.invariant c.in_ok-next.ensures.goes
    c.in-Moved.is
