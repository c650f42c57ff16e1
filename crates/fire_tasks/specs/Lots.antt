-- Firings on items that were taken at once.
use Rattle.std.specs.Prelude.{◌≡◌, ℕ, ℤ, min, ◌+◌, ◌<◌, None, List, ◌++◌, length}
use Rattle.river_base.specs.declared.item.Item as item
use Rattle.river_base.specs.Places.{append_at, list_at}
use Rattle.river_plan.specs.Forms.{PlanForm}
use Rattle.brooklet_model.specs.Histories.{most_firings}
use Rattle.brooklet_model.specs.Words.{word_of}
use Rattle.brooklet_step.specs.Took.{IsBlank}
use Rattle.fire_tasks.specs.declared.task.Task.{Task}
use Rattle.fire_tasks.specs.Fired.{HasFired}
use Rattle.fire_tasks.specs.Ports.{received_in, sent_in}
use Rattle.fire_tasks.specs.Tasks.{IsTask, StatesStand}
use Rattle.fire_tasks.specs.Turns.{AreRowsFor}

-- Since it was the task t its operator fired on these items at a port, in order, and sent nothing. What was given is pending, and the rows
-- for tables are owed, table by table. Of what it received it says nothing: the items are taken before the first of them is fired on
pub record HasFiredRows (p : PlanForm) (t : Task) (adds : ℕ → List (List ℤ)) (k : IsTask p adds t) (port : ℕ) (xs : List item.Item) (u : Task)
    (owed : List (List (List ℤ))) : Type 0 where
  -- the same operator, with the same ends to send to and the same tables
  pub op : u.op ≡ t.op
  pub kinds : u.kinds ≡ t.kinds
  pub outs : u.outs ≡ t.outs
  pub tables : u.tables ≡ t.tables
  pub classes : u.classes ≡ t.classes
  pub fine : (t.bad ≡ None) × (u.bad ≡ None)
  pub there : port < length t.ins
  pub pending : length u.pending ≡ length t.pending
  pub blank : IsBlank k.op.kernel u.out
  pub count : u.count ≡ min most_firings (t.count + length xs)
  -- the rows that are owed are for the task's tables
  pub many : length owed ≡ length t.tables
  pub rows : AreRowsFor p t.tables (list_at owed)
  -- with these items the operator fired on all that it received, and the states are those after them
  pub fired : HasFired p k.op (λ j. adds j ++ list_at owed j)
      (record { received = append_at (received_in t.ins) port xs; sent = sent_in t.outs; pending = u.pending; bad = None }) (k.word ++ word_of port xs)
  pub stands : StatesStand p k.op u (k.word ++ word_of port xs)

-- so it is, since some task, on some items
pub record IsFiring (p : PlanForm) (port : ℕ) (u : Task) (owed : List (List (List ℤ))) : Type 0 where
  pub t : Task
  pub adds : ℕ → List (List ℤ)
  pub task : IsTask p adds t
  pub items : List item.Item
  pub has : HasFiredRows p t adds task port items u owed
