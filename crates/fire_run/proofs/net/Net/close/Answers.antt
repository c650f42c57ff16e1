use Rattle.fire_run.specs.Whole.{sent_hist}
use Rattle.fire_run.proofs.OutLemmas.{few_counts, have_outs}
use Rattle.fire_run.proofs.CloseLemmas.{ran_end}
use Rattle.fire_run.proofs.net.Net.close.Goals as goal

pub given_by-requires-clause-few : goal.given_by-requires-clause-few
given_by-requires-clause-few c = let n = c.requires.net in few_counts c.args.plan.now n.inputs n.caps c.args.self c.in_ok-tables.ensures.valid n.is

pub given_by-requires-clause-some : goal.given_by-requires-clause-some
given_by-requires-clause-some c =
    let n = c.requires.net in
    (sent_hist c.args.plan.now n.inputs, have_outs c.args.plan.now n.inputs n.caps c.args.self c.in_ok-tables.ensures.valid n.is c.requires.idle)

pub returns-clause-ran : goal.returns-clause-ran
returns-clause-ran c =
    λ inputs caps n.
    let p = c.args.plan.now in
    let v = c.in_ok-tables.ensures.valid in
    ran_end p inputs caps c.args.self v n c.requires.idle _ c.in_ok-tables.ensures.logs c.in_ok-tables.ensures.tables
    (c.in_ok-outs.ensures.outs (sent_hist p inputs) (have_outs p inputs caps c.args.self v n c.requires.idle)) c.in_ok-outs.ensures.counts c.requires.rounds
