use Rattle.std.proofs.Common.{rules, arith, ◌<◌, ◌≡◌, length, drop, get_or}
use Rattle.std.proofs.lemmas.List.{take_rest}
use Rattle.kern_rows.specs.Turns.{shares}
use Rattle.rate_code.specs.Entries.{known_of, queues_of}
use Rattle.rate_code.proofs.Turns.{turns-ok, turns-err}
use Rattle.rate_code.proofs.queues.+turns.Goals as goal

pub returns-clause-is : goal.returns-clause-is
returns-clause-is t c =
    let more : 0 < length (drop 1 c.args.reads.now) = search (rules, arith) in
    let first : c.queue-item.result ≡ get_or c.args.reads.now 0 c.queue-item.result = search rules in
    turns-ok c.args.label.now (shares c.args.weights.now) (queues_of c.args.entries.now) c.args.place c.weight_at-weight.result c.queue-item.result
    c.args.reads.now (known_of c.in_ok-spot.spot) (known_of c.in_ok-others.others) c.before-2.result c.weight_at-weight.ensures more first
    c.in_ok-spot.ensures.is (rw (take_rest c.args.reads.now 1) at c.in_ok-others.ensures.is) c.before-2.ensures.is

pub returns-clause-cause : goal.returns-clause-cause
returns-clause-cause t c =
    let more : 0 < length (drop 1 c.args.reads.now) = search (rules, arith) in
    let first : c.queue-item.result ≡ get_or c.args.reads.now 0 c.queue-item.result = search rules in
    turns-err c.args.label.now (shares c.args.weights.now) (queues_of c.args.entries.now) c.args.place c.weight_at-weight.result c.queue-item.result
    c.args.reads.now (known_of c.in_ok-spot.spot) (known_of c.in_ok-others.others) c.before-2.result c.weight_at-weight.ensures more first
    c.in_ok-spot.ensures.is (rw (take_rest c.args.reads.now 1) at c.in_ok-others.ensures.is) c.before-2.ensures.cause
