use Rattle.std.proofs.Common.{◌≤◌}
use Rattle.fire_tasks.proofs.ports.room_in.Given as goal

abbrev pub invariant-loop-port : goal.invariant-loop-port
invariant-loop-port l = l.room ≤ l.most
