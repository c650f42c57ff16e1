-- Tasks that moved nothing yet.
use Rattle.std.specs.Prelude.{◌≡◌, ℕ, List, [], length, Some, slice_get}
use Rattle.river_base.specs.declared.item.Item as item
use Rattle.river_plan.specs.Forms.{Name, OpForm, PlanForm}
use Rattle.brooklet_model.specs.Laws.{given_to}
use Rattle.fire_tasks.specs.Inlet as inlet
use Rattle.fire_tasks.specs.Outlet as outlet
use Rattle.fire_tasks.specs.declared.task.Task.{Task}
use Rattle.fire_tasks.specs.Layout.{IsInput, IsStored}
use Rattle.fire_tasks.specs.Ports.{received_of, sent_of}
use Rattle.fire_tasks.specs.Tasks.{IsTask}

-- the task of operator o: at each port that it reads the whole list of an input, or none; empty kept lists at those that it writes
pub record IsFresh (p : PlanForm) (inputs : List (List item.Item)) (o : ℕ) (t : Task) : Type 0 where
  pub task : IsTask p (λ j. []) t
  pub number : t.op ≡ o
  pub ins : (port : ℕ) (i : inlet.Inlet) → slice_get t.ins port ≡ Some i → received_of i ≡ []
  pub inputs_are : (port : ℕ) (op : OpForm) (q : Name) (i : inlet.Inlet) → slice_get p.ops o ≡ Some op → slice_get op.reads port ≡ Some q
      → slice_get t.ins port ≡ Some i → IsInput (given_to p inputs q) i
  pub outs : (j : ℕ) (f : outlet.Outlet) → slice_get t.outs j ≡ Some f → IsStored f × (sent_of f ≡ [])

pub record AreFresh (p : PlanForm) (inputs : List (List item.Item)) (ts : List Task) : Type 0 where
  pub many : length ts ≡ length p.ops
  pub each : (o : ℕ) (t : Task) → slice_get ts o ≡ Some t → IsFresh p inputs o t
