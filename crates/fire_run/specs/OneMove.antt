-- One move of a net: a send or a take of the bounded state, in the items that its queues hold. A port stands for its queue.
use Rattle.std.specs.Prelude.{◌≡◌, ℕ, ℤ, ◌<◌, ◌⊎◌, None, List, ◌∷◌, ◌++◌, [], length, map, slice_index_or, slice_set}
use Rattle.river_base.specs.Places.{append_at, list_at}
use Rattle.river_base.specs.declared.item.Item as item
use Rattle.river_plan.specs.Forms.{PlanForm}
use Rattle.brooklet_step.specs.declared.emit.Emit.{Emit}
use Rattle.brooklet_step.specs.Reading.{FiredOp}
use Rattle.class_locks.specs.Logs.{Holding}
use Rattle.fire_tasks.specs.Inlet as inlet
use Rattle.fire_tasks.specs.Outlet as outlet
use Rattle.fire_tasks.specs.declared.task.Task.{Task}
use Rattle.fire_tasks.specs.Ports.{HasRoom, HasSentFront, IsIdle, known_of, received_in}
use Rattle.fire_tasks.specs.Adds.{added, logs_of}
use Rattle.fire_tasks.specs.Tasks.{HasWord, IsDone, IsTask}
use Rattle.fire_tasks.specs.Turns.{logged}
use Rattle.fire_open.specs.TaskCores.{task_core}
use Rattle.fire_tasks.specs.Rows.{cells_grown}

-- a send: the front of what is pending at a port goes to what was sent there, where its ring has room; all else of the task stays, and
-- what it fired on
pub record Sends (t t' : Task) : Type 0 where
  pub port : ℕ
  pub there : port < length t.pending
  pub room : (d : outlet.Outlet) → HasRoom (slice_index_or t.outs port d)
  pub front : HasSentFront port t.outs t.pending t'.outs t'.pending
  pub stays : t' ≡ record t { outs = t'.outs; pending = t'.pending }
  pub word : (p : PlanForm) (adds : ℕ → List (List ℤ)) (k : IsTask p adds t) → HasWord p adds t' k.word

-- a take: nothing is pending at any port of the operator; it receives one item at a port, and fires on it. Its states and what is pending
-- afterwards are those of this firing, and its rows come to the logs, each to the class of its table; what was sent stays. It fired on that
-- item behind all before. An item that fails its test there is none in a net
pub record Takes (p : PlanForm) (t t' : Task) (cells cells' : List Holding) : Type 0 where
  pub idle : IsIdle t.pending
  pub port : ℕ
  pub item : item.Item
  pub there : port < length t.ins
  pub received : received_in t'.ins ≡ append_at (received_in t.ins) port (item ∷ [])
  pub sent : t'.outs ≡ t.outs
  pub out : Emit
  pub fired : t'.bad ≡ None → FiredOp p t.op port item t.states t'.states out
  pub pends : t'.bad ≡ None → t'.pending ≡ out.outs
  pub logs : t'.bad ≡ None → cells' ≡ cells_grown (logged t.op t.classes t.tables (list_at out.adds)) 0 cells
  pub word : t'.bad ≡ None → (k : IsTask p (added p (logs_of cells) t.op) t)
      → HasWord p (added p (logs_of cells') t.op) t' (k.word ++ (port, item) ∷ [])

-- one or the other; a send leaves the logs as they are
abbrev pub TaskMoves : PlanForm → Task → Task → List Holding → List Holding → Type 0
TaskMoves p t t' cells cells' = (Sends t t' × (cells' ≡ cells)) ⊎ Takes p t t' cells cells'

-- a move of the last task that has something to do, whether or not its item failed its test
pub record MayHaveMoved (p : PlanForm) (ts ts' : List Task) (cells cells' : List Holding) : Type 0 where
  pub at : ℕ
  pub there : at < length ts
  pub last : (o : ℕ) (d : Task) → at < o → o < length ts → IsDone (slice_index_or ts o d)
  pub task : Task
  pub stands : (d : Task) → slice_index_or ts' at d ≡ task
  pub move : (d : Task) → TaskMoves p (slice_index_or ts at d) task cells cells'
  pub others : map task_core ts' ≡ map task_core (slice_set ts at task)

-- a take of an item that is the front of what is known to be there and was not received
pub record TakesFront (p : PlanForm) (t t' : Task) (cells cells' : List Holding) : Type 0 where
  pub takes : Takes p t t' cells cells'
  pub front : (d : inlet.Inlet) → (rest : List item.Item) × (known_of (slice_index_or t.ins takes.port d) ≡ takes.item ∷ rest)

-- the last task that has something to do made one move, and all others are as they were, but for what the ends of their rings know
pub record LastMoved (p : PlanForm) (ts ts' : List Task) (cells cells' : List Holding) : Type 0 where
  pub at : ℕ
  pub there : at < length ts
  pub last : (o : ℕ) (d : Task) → at < o → o < length ts → IsDone (slice_index_or ts o d)
  pub task : Task
  pub fine : task.bad ≡ None
  pub move : (d : Task) → (Sends (slice_index_or ts at d) task × (cells' ≡ cells)) ⊎ TakesFront p (slice_index_or ts at d) task cells cells'
  pub others : map task_core ts' ≡ map task_core (slice_set ts at task)
