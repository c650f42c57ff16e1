-- Room for what is pending.
use Rattle.std.specs.Prelude.{◌≡◌, ℕ, ◌^◌, ◌<◌, None, List, [], length, slice_index_or}
use Rattle.river_base.specs.Places.{list_at}
use Rattle.fire_tasks.specs.Outlet as outlet
use Rattle.fire_tasks.specs.declared.task.Task.{Task}
use Rattle.fire_tasks.specs.Ports.{HasRoom}
use Rattle.fire_tasks.specs.Tasks.{IsDone}

-- where an item is pending its ring has room
pub record CanSend (t : Task) : Type 0 where
  pub each : (j : ℕ) (d : outlet.Outlet) → (list_at t.pending j ≡ [] → ⊥) → HasRoom (slice_index_or t.outs j d)

-- no item failed its test, the ports are few, and where all tasks behind one have nothing to do, it has room for what is pending
pub record CanSendFrom (ts : List Task) : Type 0 where
  pub fine : (o : ℕ) (d : Task) → o < length ts → (slice_index_or ts o d).bad ≡ None
  pub few : (o : ℕ) (d : Task) → o < length ts → length (slice_index_or ts o d).ins < 2 ^ 32
  pub room : (o : ℕ) (d : Task) → o < length ts
      → ((n : ℕ) (e : Task) → o < n → n < length ts → IsDone (slice_index_or ts n e)) → CanSend (slice_index_or ts o d)
