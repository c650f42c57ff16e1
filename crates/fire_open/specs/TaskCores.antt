-- What stays of a task while ends of rings look, and nothing moves.
use Rattle.std.specs.Prelude.{ℕ, List}
use Rattle.river_base.specs.declared.item.Item as item
use Rattle.river_base.specs.declared.kind.QueueType.{QueueType}
use Rattle.brooklet_step.specs.declared.emit.Emit.{Emit}
use Rattle.brooklet_step.specs.declared.state.State.{State}
use Rattle.fire_tasks.specs.Fired.{SeenTask}
use Rattle.fire_tasks.specs.declared.task.TablePort.{TablePort}
use Rattle.fire_tasks.specs.declared.task.Task.{Task}
use Rattle.fire_tasks.specs.Tasks.{TaskEnds, ends_of, seen_task}

-- all but what the ends of its rings know
pub record TaskCore : Type 0 where
  pub ends : TaskEnds
  pub seen : SeenTask
  pub kinds : List QueueType
  pub states : List State
  pub pending : List (List item.Item)
  pub out : Emit
  pub tables : List TablePort
  pub classes : List ℕ
  pub count : ℕ

abbrev pub task_core : Task → TaskCore
task_core t = record {
  ends = ends_of t;
  seen = seen_task t;
  kinds = t.kinds;
  states = t.states;
  pending = t.pending;
  out = t.out;
  tables = t.tables;
  classes = t.classes;
  count = t.count;
}
