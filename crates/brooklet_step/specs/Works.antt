-- What a machine keeps, and the state of the definition that it stands for.
use Rattle.std.specs.Prelude.{◌≡◌, ℕ, ℤ, pos, ◌<◌, false, min, List, [], ◌∷◌, ◌++◌, length, map, drop, ◌≤◌, Some, All, slice_get, slice_index_or}
use Rattle.river_base.specs.declared.item.Item as item
use Rattle.river_base.specs.declared.kind.QueueType.{QueueType}
use Rattle.river_base.specs.Held.{held, HasType, IsHeld}
use Rattle.river_base.specs.Places.{list_at}
use Rattle.river_plan.specs.Forms.{Name, OpForm, PlanForm, all_decls, table_names, queue_names}
use Rattle.river_plan.specs.Kinds.{kind_of}
use Rattle.river_plan.specs.Names.{count}
use Rattle.river_plan.specs.Places.{place}
use Rattle.river_plan.specs.Uses.{total, reads_it}
use Rattle.river_plan.specs.Valid.{IsPlan}
use Rattle.brooklet_model.specs.Histories.{most_firings}
use Rattle.brooklet_model.specs.Machine.{Machine, Step, Run, start, times}
use Rattle.brooklet_model.specs.Laws.{given_to}
use Rattle.brooklet_model.specs.Traced.{Traced}
use Rattle.brooklet_model.specs.Fire.{first_kept}
use Rattle.brooklet_model.specs.Typed.{IsWordOf, AreInputs}
use Rattle.brooklet_model.specs.Words.{Word}
use Rattle.brooklet_step.specs.declared.parts.MachineState.{MachineState}
use Rattle.brooklet_step.specs.declared.state.State.{State}
use Rattle.brooklet_step.specs.Given.{FitState, StandsAfter}
use Rattle.brooklet_step.specs.Tables.{kept_tables}

-- what is kept of a queue: the items that are not taken. From an output nothing is taken, so it is the whole history
abbrev pub queue_of : MachineState → Name → List item.Item
queue_of m q = list_at m.queues (place (queue_names m.plan) q)

-- the states of an operator, and how often it fired
abbrev pub states_of : MachineState → ℕ → List State
states_of m o = list_at m.states o

abbrev pub firing_count : MachineState → ℕ → ℕ
firing_count m o = slice_index_or m.counts o 0

abbrev pub kinds_of : MachineState → Name → QueueType
kinds_of m q = kind_of (all_decls m.plan) q

-- the machine stands for a state of the definition: of each queue it keeps what queues of its type hold for the history, without
-- as many items as were taken, of each table what is kept of the rows that were added, and some firings of each operator led to
-- that state, after which the operator's states stand
pub record StandsForMachine (m : MachineState) (s : Machine) : Type 0 where
  pub left : (q : Name) → 0 < count q (queue_names m.plan) → queue_of m q ≡ drop (s.taken q) (held (kinds_of m q) [] (s.hist q))
  pub within : (q : Name) → s.taken q ≤ length (s.hist q)
  pub unread : (q : Name) → total (reads_it q) m.plan.ops ≡ 0 → s.taken q ≡ 0
  pub typed : (q : Name) → All (HasType (kinds_of m q)) (s.hist q)
  pub tables : m.tables ≡ kept_tables m.plan.tables s.rows
  pub inputs : List (List item.Item)
  pub words : ℕ → Word
  pub traced : Traced (table_names m.plan.tables) m.plan.ops (given_to m.plan inputs) s words
  pub received : (o : ℕ) (op : OpForm) → slice_get m.plan.ops o ≡ Some op → IsWordOf (map (kinds_of m) op.reads) (words o)
  pub kept : (o : ℕ) (op : OpForm) → slice_get m.plan.ops o ≡ Some op
      → StandsAfter op.kernel (map (kinds_of m) op.reads) (first_kept op.kernel) (states_of m o) (words o)

-- operator number o has a port of this number, which reads this queue
pub record ReadsAt (p : PlanForm) (o port : ℕ) (queue : Name) : Type 0 where
  pub op : OpForm
  pub op_is : slice_get p.ops o ≡ Some op
  pub queue_is : slice_get op.reads port ≡ Some queue

-- the machine is not stopped, and the queue at the port has an item that is not taken
pub record IsEnabled (m : MachineState) (o port : ℕ) : Type 0 where
  pub running : m.stopped ≡ false
  pub queue : Name
  pub reads : ReadsAt m.plan o port queue
  pub item : 0 < length (queue_of m queue)

-- the counts are those of the firings of a run
abbrev pub Counts : MachineState → List (ℕ × ℕ) → Type 0
Counts m es = (o : ℕ) → o < length m.plan.ops → firing_count m o ≡ min most_firings (times o es)

-- the machine stands for the state after a run from these inputs
pub record StandsAfterRun (m : MachineState) (inputs : List (List item.Item)) : Type 0 where
  pub events : List (ℕ × ℕ)
  pub state : Machine
  pub run : Run m.plan (start m.plan inputs) events state
  pub stands : StandsForMachine m state
  pub counts : Counts m events

-- there is a list for each queue and for each operator
pub record IsLaidOut (m : MachineState) : Type 0 where
  pub queues : length m.queues ≡ length (queue_names m.plan)
  pub states : length m.states ≡ length m.plan.ops
  pub counts : length m.counts ≡ length m.plan.ops

-- a machine that goes on stands for a state of the definition: the state after some run from some inputs of its plan
pub record IsRunning (m : MachineState) : Type 0 where
  pub valid : IsPlan m.plan
  pub laid_out : IsLaidOut m
  pub fit : (o : ℕ) (op : OpForm) → slice_get m.plan.ops o ≡ Some op → FitState op.kernel (map (kinds_of m) op.reads) (states_of m o)
  pub items : (q : Name) → 0 < count q (queue_names m.plan) → All (IsHeld (kinds_of m q)) (queue_of m q)
  pub inputs : List (List item.Item)
  pub typed : AreInputs m.plan.inputs inputs
  pub ran : StandsAfterRun m inputs

abbrev pub IsMachine : MachineState → Type 0
IsMachine m = m.stopped ≡ false → IsRunning m

-- the machine before the first firing
pub record Starts (p : PlanForm) (inputs : List (List item.Item)) (m : MachineState) : Type 0 where
  pub plan : m.plan ≡ p
  pub running : m.stopped ≡ false
  pub stands : StandsForMachine m (start p inputs)
  pub counts : Counts m []

-- a firing, and what the new machine stands for
pub record StandsAfterFiring (m m' : MachineState) (o port : ℕ) (s : Machine) : Type 0 where
  pub state : Machine
  pub step : Step m.plan s o port state
  pub stands : StandsForMachine m' state

-- one firing: from every state that the old machine stands for, the new one stands for one after a step there
pub record Steps (m m' : MachineState) (o port : ℕ) : Type 0 where
  pub plan : m'.plan ≡ m.plan
  pub running : m'.stopped ≡ false
  pub each : (s : Machine) → StandsForMachine m s → StandsAfterFiring m m' o port s
  pub counts : (es : List (ℕ × ℕ)) → Counts m es → Counts m' (es ++ (o, port) ∷ [])

-- the counts of all operators, as values
pub record AreCounts (m : MachineState) (values : List ℤ) : Type 0 where
  pub many : length values ≡ length m.plan.ops
  pub each : (o : ℕ) → o < length m.plan.ops → slice_index_or values o (pos 0) ≡ pos (firing_count m o)
