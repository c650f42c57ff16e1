-- The cells of a net, to whose logs firings add.
use Rattle.std.specs.Prelude.{◌≡◌, ◌≢◌, ℕ, ◌<◌, List, length, slice_index_or}
use Rattle.river_plan.specs.Forms.{PlanForm}
use Rattle.class_locks.specs.declared.log.LogEntry.{LogEntry}
use Rattle.class_locks.specs.Logs.{Holding}
use Rattle.fire_tasks.specs.declared.task.Task.{Task}
use Rattle.fire_tasks.specs.Adds.{AreEntries, added, logs_of}
use Rattle.fire_tasks.specs.Rows.{cells_grown}

-- what operator o added came to the logs: the cells are those before, and the other operators added nothing
pub record HaveAdded (p : PlanForm) (o : ℕ) (cells cells' : List Holding) : Type 0 where
  pub more : ℕ → List LogEntry
  pub is : cells' ≡ cells_grown more 0 cells
  pub others : (n : ℕ) → n ≢ o → (j : ℕ) → added p (logs_of cells') n j ≡ added p (logs_of cells) n j
  pub entries : AreEntries p (logs_of cells) → AreEntries p (logs_of cells')

-- one operator added something, or none: the cells are those before, with more entries
pub record HaveMoved (p : PlanForm) (cells cells' : List Holding) : Type 0 where
  pub more : ℕ → List LogEntry
  pub is : cells' ≡ cells_grown more 0 cells
  pub entries : AreEntries p (logs_of cells) → AreEntries p (logs_of cells')

-- no two tasks are of one operator
abbrev pub AreSingle : List Task → Type 0
AreSingle ts = (i k : ℕ) (d : Task) → i < length ts → k < length ts → (slice_index_or ts i d).op ≡ (slice_index_or ts k d).op → i ≡ k
