use Rattle.std.proofs.Common.{length}
use Rattle.rate_code.proofs.queues.+turns.Given as goal

abbrev pub decreases-turns : goal.decreases-turns
decreases-turns l = length l.reads.now
