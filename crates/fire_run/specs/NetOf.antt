-- What a net keeps, and what its calls leave.
use Rattle.std.specs.Prelude.{◌≡◌, ℕ, ◌+◌, ◌<◌, Bool, false, IsTrue, IsFalse, List, length, slice_index_or}
use Rattle.river_base.specs.declared.item.Item as item
use Rattle.river_plan.specs.Forms.{PlanForm, Name}
use Rattle.brooklet_model.specs.Bounded.{Capacities}
use Rattle.brooklet_model.specs.Typed.{AreInputs}
use Rattle.fire_tasks.specs.declared.task.Task.{Task}
use Rattle.fire_tasks.specs.Adds.{AreEntries, added, logs_of}
use Rattle.fire_tasks.specs.Tasks.{IsDone}
use Rattle.fire_tasks.specs.Layout.{AreLaid, AreTasks, AreSettled}
use Rattle.fire_open.specs.Homes.{AreClassCells}
use Rattle.fire_open.specs.Links.{AreLinks}
use Rattle.fire_run.specs.declared.net.Net.{Net}

-- a net of this plan, these inputs and these capacities: a task for each operator, which keeps the facts of itself and added what the
-- logs of the cells have of it; rings between the tasks, whose ends know of each other; and a cell for each lock class, in whose log no
-- other operator stands. That it is a net in the sense of the bounded machine follows
pub record IsNetOf (p : PlanForm) (inputs : List (List item.Item)) (caps : Capacities) (net : Net) : Type 0 where
  pub typed : AreInputs p.inputs inputs
  pub room : (q : Name) → 0 < caps q
  pub laid : AreLaid p inputs caps net.tasks
  pub tasks : AreTasks p (added p (logs_of net.cells)) net.tasks
  pub settled : AreSettled p net.tasks
  pub links : AreLinks p net.links
  pub cells : AreClassCells p net.cells
  pub entries : AreEntries p (logs_of net.cells)

-- the net was not refused, and it is one of this plan
pub record HasNet (p : PlanForm) (net : Net) : Type 0 where
  pub fine : net.refused ≡ false
  pub inputs : List (List item.Item)
  pub caps : Capacities
  pub is : IsNetOf p inputs caps net

-- whatever its inputs and its capacities are, they stay
pub record Stays (p : PlanForm) (n n' : Net) : Type 0 where
  pub fine : n'.refused ≡ false
  pub is : (inputs : List (List item.Item)) (caps : Capacities) → IsNetOf p inputs caps n → IsNetOf p inputs caps n'

-- no operator has a pending or an untaken item
pub record AreIdle (ts : List Task) : Type 0 where
  pub each : (o : ℕ) (d : Task) → o < length ts → IsDone (slice_index_or ts o d)

-- one number grew by 1, or none
pub record OneMore (old new : ℕ) (moved : Bool) : Type 0 where
  pub one : IsTrue moved → new ≡ old + 1
  pub none : IsFalse moved → new ≡ old

-- a net of this plan, these inputs and these capacities, which was not refused
pub record HasNetAt (p : PlanForm) (inputs : List (List item.Item)) (caps : Capacities) (net : Net) : Type 0 where
  pub fine : net.refused ≡ false
  pub is : IsNetOf p inputs caps net
