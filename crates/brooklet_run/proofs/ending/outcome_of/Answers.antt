use Rattle.brooklet_step.proofs.RunLemmas.{outs_taken, outs_there}
use Rattle.brooklet_run.proofs.ending.outcome_of.Goals as goal

pub first_lists-requires : goal.first_lists-requires
first_lists-requires c = outs_there c.args.parts.now c.raw.result.now c.len-outputs.result c.requires c.raw.ensures.raw c.len-outputs.ensures

pub returns-clause-outs : goal.returns-clause-outs
returns-clause-outs c =
    outs_taken c.args.parts.now c.raw.result.now c.len-outputs.result c.in_ok-outs.outs c.requires c.raw.ensures.raw c.len-outputs.ensures c.in_ok-outs.ensures
