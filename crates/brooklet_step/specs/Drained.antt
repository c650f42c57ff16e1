-- Runs that go on, and operators whose ports are drained.
use Rattle.std.specs.Prelude.{◌≡◌, ℕ, ◌<◌, ◌≤◌, false, List, length, Some, slice_get}
use Rattle.river_base.specs.declared.item.Item as item
use Rattle.river_plan.specs.Forms.{Name, OpForm, PlanForm}
use Rattle.brooklet_step.specs.declared.parts.MachineState.{MachineState}
use Rattle.brooklet_step.specs.Works.{queue_of, ReadsAt, StandsAfterRun}

-- nothing is left at this port
abbrev pub IsDrained : MachineState → ℕ → ℕ → Type 0
IsDrained m o port = (q : Name) → ReadsAt m.plan o port q → length (queue_of m q) ≡ 0

-- the machine stands for the state after some run
pub record StandsAfterSomeRun (m : MachineState) : Type 0 where
  pub inputs : List (List item.Item)
  pub ran : StandsAfterRun m inputs

-- after firings of operators from number o on: what was drained at ports of operators up to number o still is
pub record Follows (m m' : MachineState) (o : ℕ) : Type 0 where
  pub plan : m'.plan ≡ m.plan
  pub running : m'.stopped ≡ false
  pub ran : (inputs : List (List item.Item)) → StandsAfterRun m inputs → StandsAfterRun m' inputs
  pub drained : (inputs : List (List item.Item)) → StandsAfterRun m inputs → (o' port' : ℕ) → o' ≤ o → IsDrained m o' port' → IsDrained m' o' port'

-- after some firings: the same plan, and a run goes on
pub record RunsOn (m m' : MachineState) : Type 0 where
  pub plan : m'.plan ≡ m.plan
  pub running : m'.stopped ≡ false
  pub ran : (inputs : List (List item.Item)) → StandsAfterRun m inputs → StandsAfterRun m' inputs

-- all ports of the operators before number o are drained
pub record DrainedBefore (m m' : MachineState) (o : ℕ) : Type 0 where
  pub plan : m'.plan ≡ m.plan
  pub running : m'.stopped ≡ false
  pub ran : (inputs : List (List item.Item)) → StandsAfterRun m inputs → StandsAfterRun m' inputs
  pub drained : (inputs : List (List item.Item)) → StandsAfterRun m inputs → (o' port' : ℕ) → o' < o → IsDrained m' o' port'

-- the operator reads so many queues
pub record HasPorts (p : PlanForm) (o n : ℕ) : Type 0 where
  pub op : OpForm
  pub op_is : slice_get p.ops o ≡ Some op
  pub many : n ≡ length op.reads
