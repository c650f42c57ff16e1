use Rattle.brooklet_step.proofs.ReadLemmas.{op_there}
use Rattle.brooklet_run.proofs.turn.fire_next.Goals as goal

pub blank_of-requires : goal.blank_of-requires
blank_of-requires c = op_there c.args.parts.now.plan c.args.op c.args.port c.requires.enabled.queue c.requires.enabled.reads
