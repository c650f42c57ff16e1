use Rattle.std.proofs.Common.{◌≡◌}
use Rattle.streamit_model.specs.Plan.{queues}
use Rattle.streamit_build.proofs.names.queues.Given as goal

abbrev pub invariant-loop-i : goal.invariant-loop-i
invariant-loop-i l = l.names ≡ queues l.first l.i
