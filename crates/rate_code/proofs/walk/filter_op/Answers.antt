use Rattle.kern_rows.specs.Forms.{filter_form}
use Rattle.rate_code.specs.Cause.{SaysCause}
use Rattle.rate_code.specs.Entries.{known_of, queues_of}
use Rattle.rate_code.specs.Walked.{stops, walks, writes_one}
use Rattle.river_kernels.specs.Kern.{filter}
use Rattle.stream_periods.specs.Walk as walk
use Rattle.rate_code.proofs.Causes.{err-map, ok-map}
use Rattle.rate_code.proofs.Walked.{filter_walks, filter_unwritten}
use Rattle.rate_code.proofs.walk.filter_op.Goals as goal

pub returns-clause-is : goal.returns-clause-is
returns-clause-is c =
    let known = queues_of c.args.entries.now in
    let f = filter_form c.args.f.now in
    ok-map (writes_one c.args.writes.now (known_of c.in_ok-spot.spot) known (queues_of c.written.new.entries))
    (walks (filter f) c.args.label.now c.args.reads.now c.args.writes.now known (queues_of c.written.new.entries)) c.written.result
    (λ to. filter_walks f c.args.label.now c.args.reads.now c.args.writes.now known (queues_of c.written.new.entries) (known_of c.in_ok-s.s) c.in_ok-spot.spot
    (rw c.as_slice.ensures at c.in_ok-s.ensures.is) c.in_ok-spot.ensures.is to)
    c.written.ensures.is

pub returns-clause-cause : goal.returns-clause-cause
returns-clause-cause c =
    let known = queues_of c.args.entries.now in
    let f = filter_form c.args.f.now in
    err-map (SaysCause c.args.label.now (walk.the_one c.args.label.now c.args.writes.now))
    (stops (filter f) c.args.label.now c.args.reads.now c.args.writes.now known) c.written.result
    (λ e h. filter_unwritten f c.args.label.now c.args.reads.now c.args.writes.now known (known_of c.in_ok-s.s) c.in_ok-spot.spot e
    (rw c.as_slice.ensures at c.in_ok-s.ensures.is) c.in_ok-spot.ensures.is h)
    c.written.ensures.cause
