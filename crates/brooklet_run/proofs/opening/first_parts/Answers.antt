use Rattle.std.proofs.Common.{false}
use Rattle.brooklet_step.proofs.StartLemmas.{First, first_by, can_start_by}
use Rattle.brooklet_run.proofs.opening.first_parts.Goals as goal

pub states_and_counts-requires : goal.states_and_counts-requires
states_and_counts-requires c = can_start_by c.raw-raw.result.now c.args.plan.now c.raw-raw.ensures.raw c.raw-raw.ensures.valid

first_of : (c : goal.In_ok-plan)
    → First c.args.plan.now c.args.inputs
    (record {
      plan = c.in_ok-plan.plan;
      queues = c.in_ok-queues.queues;
      tables = c.in_ok-tables.tables;
      states = c.in_ok-states.states;
      counts =
          c.in_ok-states.counts;
      stopped = false;
    })
first_of c =
    first_by c.raw-raw.result.now c.args.plan.now c.in_ok-plan.plan c.args.inputs c.in_ok-queues.queues c.in_ok-states.counts c.in_ok-states.states
    c.in_ok-tables.tables
    c.raw-raw.ensures.valid c.requires c.raw-raw.ensures.raw c.in_ok-plan.ensures c.in_ok-queues.ensures c.in_ok-states.ensures.states
    c.in_ok-states.ensures.counts c.in_ok-tables.ensures

pub returns-clause-starts : goal.returns-clause-starts
returns-clause-starts c = (first_of c).starts

pub returns-clause-goes_on : goal.returns-clause-goes_on
returns-clause-goes_on c = (first_of c).goes_on
