use Rattle.std.proofs.Common.{◌≡◌, ℕ, ◌<◌, []}
use Rattle.river_base.specs.Places.{list_at}
use Rattle.fire_tasks.proofs.task.first_pending.Given as goal

abbrev pub invariant-loop-port : goal.invariant-loop-port
invariant-loop-port l = (j : ℕ) → j < l.port → list_at l.pending j ≡ []
