use Rattle.std.proofs.Common.{◌≤◌}
use Rattle.fire_tasks.proofs.lots.values_of.Given as goal

abbrev pub invariant-loop-row : goal.invariant-loop-row
invariant-loop-row l = (l.width ≤ l.values) × (l.values ≤ l.room)
