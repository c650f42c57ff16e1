use Rattle.std.proofs.Common.{[], refl}
use Rattle.std.specs.Prelude.{slice_index_or}
use Rattle.brooklet_step.proofs.NextLemmas.{enabled_place, front_there, op_in, can_fire, send_there, add_there, blank_again, next}
use Rattle.brooklet_step.proofs.ReadLemmas.{op_there}
use Rattle.brooklet_run.proofs.turn.fire_with.Goals as goal

pub reads_of-requires : goal.reads_of-requires
reads_of-requires c = op_there c.args.parts.now.plan c.args.op c.args.port c.requires.enabled.queue c.requires.enabled.reads

pub fire_front-requires-clause-queue : goal.fire_front-requires-clause-queue
fire_front-requires-clause-queue c =
    (front_there c.args.parts.now c.args.op c.args.port (slice_index_or c.reads_of.result.now c.args.port 0) c.requires.goes_on c.requires.enabled
    (enabled_place c.args.parts.now c.args.op c.args.port (slice_index_or c.reads_of.result.now c.args.port 0) c.reads_of.result.now
    c.requires.enabled c.reads_of.ensures refl)).0

pub fire_front-requires-clause-item : goal.fire_front-requires-clause-item
fire_front-requires-clause-item c =
    (front_there c.args.parts.now c.args.op c.args.port (slice_index_or c.reads_of.result.now c.args.port 0) c.requires.goes_on c.requires.enabled
    (enabled_place c.args.parts.now c.args.op c.args.port (slice_index_or c.reads_of.result.now c.args.port 0) c.reads_of.result.now
    c.requires.enabled c.reads_of.ensures refl)).1

pub at_mut-requires : goal.at_mut-requires
at_mut-requires c = (op_in c.args.parts.now c.args.op c.args.port c.requires.goes_on c.requires.enabled).0

pub fire_front-requires-clause-can : goal.fire_front-requires-clause-can
fire_front-requires-clause-can c x left front =
    can_fire c.args.parts.now c.args.op c.args.port (slice_index_or c.reads_of.result.now c.args.port 0) x left
    c.at_mut.result.now c.requires.goes_on c.requires.enabled
    (enabled_place c.args.parts.now c.args.op c.args.port (slice_index_or c.reads_of.result.now c.args.port 0) c.reads_of.result.now
    c.requires.enabled c.reads_of.ensures refl)
    front (c.at_mut.ensures.value [])

pub writes_of-requires : goal.writes_of-requires
writes_of-requires c = (op_in c.args.parts.now c.args.op c.args.port c.requires.goes_on c.requires.enabled).1

pub deliver-requires-clause-ports : goal.deliver-requires-clause-ports
deliver-requires-clause-ports c =
    (send_there c.args.parts.now c.args.op c.args.port (slice_index_or c.reads_of.result.now c.args.port 0) c.in_ok-fire_front.ensures.0
    c.fire_front.new.queues c.at_mut.result.now c.fire_front.new.states c.fire_front.new.out c.writes_of.result.now c.requires.goes_on
    c.requires.enabled c.in_ok-fire_front.ensures.1 (c.at_mut.ensures.value []) c.in_ok-fire_front.ensures.2 c.writes_of.ensures).0

pub deliver-requires-clause-places : goal.deliver-requires-clause-places
deliver-requires-clause-places c =
    (send_there c.args.parts.now c.args.op c.args.port (slice_index_or c.reads_of.result.now c.args.port 0) c.in_ok-fire_front.ensures.0
    c.fire_front.new.queues c.at_mut.result.now c.fire_front.new.states c.fire_front.new.out c.writes_of.result.now c.requires.goes_on
    c.requires.enabled c.in_ok-fire_front.ensures.1 (c.at_mut.ensures.value []) c.in_ok-fire_front.ensures.2 c.writes_of.ensures).1

pub vars_of-requires : goal.vars_of-requires
vars_of-requires c = (op_in c.args.parts.now c.args.op c.args.port c.requires.goes_on c.requires.enabled).1

pub deliver-requires-clause-many : goal.deliver-requires-clause-many
deliver-requires-clause-many c =
    (add_there c.args.parts.now c.args.op c.args.port (slice_index_or c.reads_of.result.now c.args.port 0) c.in_ok-fire_front.ensures.0
    c.fire_front.new.queues c.at_mut.result.now c.fire_front.new.states c.fire_front.new.out c.vars_of.result.now c.requires.goes_on c.requires.enabled
    (enabled_place c.args.parts.now c.args.op c.args.port (slice_index_or c.reads_of.result.now c.args.port 0) c.reads_of.result.now
    c.requires.enabled c.reads_of.ensures refl)
    c.in_ok-fire_front.ensures.1 (c.at_mut.ensures.value []) c.in_ok-fire_front.ensures.2 c.vars_of.ensures).0

pub deliver-requires-clause-wide : goal.deliver-requires-clause-wide
deliver-requires-clause-wide c =
    (add_there c.args.parts.now c.args.op c.args.port (slice_index_or c.reads_of.result.now c.args.port 0) c.in_ok-fire_front.ensures.0
    c.fire_front.new.queues c.at_mut.result.now c.fire_front.new.states c.fire_front.new.out c.vars_of.result.now c.requires.goes_on c.requires.enabled
    (enabled_place c.args.parts.now c.args.op c.args.port (slice_index_or c.reads_of.result.now c.args.port 0) c.reads_of.result.now
    c.requires.enabled c.reads_of.ensures refl)
    c.in_ok-fire_front.ensures.1 (c.at_mut.ensures.value []) c.in_ok-fire_front.ensures.2 c.vars_of.ensures).1

pub count_one-requires : goal.count_one-requires
count_one-requires c = (op_in c.args.parts.now c.args.op c.args.port c.requires.goes_on c.requires.enabled).2

pub returns-clause-fired : goal.returns-clause-fired
returns-clause-fired c =
    (next c.args.parts.now c.args.op c.args.port (slice_index_or c.reads_of.result.now c.args.port 0) c.in_ok-fire_front.ensures.0 c.at_mut.result.now
    c.fire_front.new.states c.fire_front.new.out c.writes_of.result.now c.fire_front.new.queues c.deliver.new.queues c.vars_of.result.now
    c.count_one.new.counts c.deliver.new.tables c.requires.goes_on c.requires.enabled
    (enabled_place c.args.parts.now c.args.op c.args.port (slice_index_or c.reads_of.result.now c.args.port 0) c.reads_of.result.now
    c.requires.enabled c.reads_of.ensures refl)
    c.in_ok-fire_front.ensures.1 (c.at_mut.ensures.value []) c.in_ok-fire_front.ensures.2 c.writes_of.ensures c.in_ok-deliver.ensures.queues c.count_one.ensures
    c.vars_of.ensures c.in_ok-deliver.ensures.tables).steps

pub returns-clause-goes_on : goal.returns-clause-goes_on
returns-clause-goes_on c =
    (next c.args.parts.now c.args.op c.args.port (slice_index_or c.reads_of.result.now c.args.port 0) c.in_ok-fire_front.ensures.0 c.at_mut.result.now
    c.fire_front.new.states c.fire_front.new.out c.writes_of.result.now c.fire_front.new.queues c.deliver.new.queues c.vars_of.result.now
    c.count_one.new.counts c.deliver.new.tables c.requires.goes_on c.requires.enabled
    (enabled_place c.args.parts.now c.args.op c.args.port (slice_index_or c.reads_of.result.now c.args.port 0) c.reads_of.result.now
    c.requires.enabled c.reads_of.ensures refl)
    c.in_ok-fire_front.ensures.1 (c.at_mut.ensures.value []) c.in_ok-fire_front.ensures.2 c.writes_of.ensures c.in_ok-deliver.ensures.queues c.count_one.ensures
    c.vars_of.ensures c.in_ok-deliver.ensures.tables).goes_on

pub returns-clause-blank : goal.returns-clause-blank
returns-clause-blank c =
    blank_again c.args.parts.now.plan c.args.op c.args.port c.in_ok-fire_front.ensures.0 c.at_mut.result.now c.fire_front.new.states c.fire_front.new.out _
    c.in_ok-fire_front.ensures.2
    c.in_ok-deliver.ensures.outs c.in_ok-deliver.ensures.adds
