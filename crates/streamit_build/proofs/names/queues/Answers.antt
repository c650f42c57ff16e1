use Rattle.std.proofs.Common.{rules}
use Rattle.streamit_build.proofs.Numbered.{queues-more}
use Rattle.streamit_build.proofs.names.queues.Goals as goal

pub loop-i-preserved : goal.loop-i-preserved
loop-i-preserved c = rw queues-more (search rules)
