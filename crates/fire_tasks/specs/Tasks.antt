-- What a task keeps of itself.
use Rattle.std.specs.Prelude.{◌≡◌, ◌⊎◌, ℕ, ℤ, min, ◌+◌, ◌^◌, ◌<◌, slice_index_or, ◌∷◌, Some, List, [], length, map, slice_get, slice_set}
use Rattle.river_base.specs.Places.{list_at}
use Rattle.river_plan.specs.Forms.{OpForm, PlanForm}
use Rattle.brooklet_model.specs.Fire.{first_kept}
use Rattle.brooklet_model.specs.Histories.{most_firings}
use Rattle.brooklet_model.specs.Typed.{IsWordOf}
use Rattle.brooklet_model.specs.Words.{Word}
use Rattle.brooklet_step.specs.Given.{FitState, StandsAfter}
use Rattle.brooklet_step.specs.Took.{IsBlank}
use Rattle.class_locks.specs.declared.view.View.{View}
use Rattle.fire_tasks.specs.Inlet as inlet
use Rattle.fire_tasks.specs.Outlet as outlet
use Rattle.fire_tasks.specs.declared.task.Task.{Task}
use Rattle.fire_tasks.specs.Adds.{AreHomes, added, logs_at}
use Rattle.river_base.specs.declared.kind.QueueType.{QueueType}
use Rattle.fire_tasks.specs.Fired.{SeenTask, HasFired, IsHeldAs, kinds_in, kinds_out}
use Rattle.fire_tasks.specs.Ports.{AreFronts, received_in, received_of, sent_in, sent_of, ring_width, SendsRows, InEnd, OutEnd, in_end, in_ends, out_end, out_ends}
use Rattle.fire_tasks.specs.Ports.{received_count, sent_count, IsIdle, IsSettled, RefusedAll, AllReceived}
use Rattle.river_base.specs.WideRows.{rows_type}

-- what the laws see of a task
abbrev pub seen_task : Task → SeenTask
seen_task t = record { received = received_in t.ins; sent = sent_in t.outs; pending = t.pending; bad = t.bad }

-- what the states of the task stand for, and that they fit: it can fire on any item of its ports' types
pub record StatesStand (p : PlanForm) (op : OpForm) (t : Task) (is : Word) : Type 0 where
  pub fit : FitState op.kernel (kinds_in p op) t.states
  pub after : (w : Word) → IsWordOf (kinds_in p op) w → IsHeldAs (kinds_in p op) w is
      → StandsAfter op.kernel (kinds_in p op) (first_kept op.kernel) t.states w

-- a ring of rows stands only where the queue has rows of its width
abbrev pub FitRings : List QueueType → List OutEnd → Type 0
FitRings writes outs = (j : ℕ) (e : OutEnd) → slice_get outs j ≡ Some e → SendsRows e → slice_get writes j ≡ Some (rows_type (ring_width e))

-- the task of an operator of a plan, which added these rows, table by table: it fired on some items, and its states stand for those
-- after them
pub record IsTask (p : PlanForm) (adds : ℕ → List (List ℤ)) (t : Task) : Type 0 where
  pub op : OpForm
  pub op_is : slice_get p.ops t.op ≡ Some op
  pub ins : length t.ins ≡ length op.reads
  pub kinds : t.kinds ≡ kinds_in p op
  pub outs : length t.outs ≡ length op.writes
  pub pending : length t.pending ≡ length op.writes
  pub rings : FitRings (kinds_out p op) (out_ends t.outs)
  pub blank : IsBlank op.kernel t.out
  pub homes : AreHomes p t.op t.tables t.classes
  pub word : Word
  pub count : t.count ≡ min most_firings (length word)
  pub fired : HasFired p op adds (seen_task t) word
  pub stands : StatesStand p op t word

-- so it is where it fired on these items, in this order
pub record HasWord (p : PlanForm) (adds : ℕ → List (List ℤ)) (t : Task) (w : Word) : Type 0 where
  pub task : IsTask p adds t
  pub word : task.word ≡ w

-- what it added is told by the logs as a seat knows them
abbrev pub IsTaskAt : PlanForm → View → Task → Type 0
IsTaskAt p v t = IsTask p (added p (logs_at v t.op) t.op) t

-- nothing is pending but what rings refused; and where nothing is pending, every item known to be there was received
pub record Waits (t : Task) : Type 0 where
  pub refused : RefusedAll t.outs t.pending
  pub received : IsIdle t.pending → AllReceived t.ins

-- nothing is pending, and every item known to be there was received
pub record IsDone (t : Task) : Type 0 where
  pub idle : IsIdle t.pending
  pub received : AllReceived t.ins

-- which operator it is, and which ends it has
pub record TaskEnds : Type 0 where
  pub op : ℕ
  pub ins : List InEnd
  pub outs : List OutEnd

abbrev pub ends_of : Task → TaskEnds
ends_of t = record { op = t.op; ins = in_ends t.ins; outs = out_ends t.outs }

abbrev pub all_ends : List Task → List TaskEnds
all_ends ts = map ends_of ts

-- how many items the task took and sent
abbrev pub moves : Task → ℕ
moves t = received_count t.ins + sent_count t.outs

-- port by port, what it received and sent is a front of what it received and sent afterwards
pub record ExtendsFronts (t t' : Task) : Type 0 where
  pub received : AreFronts (received_in t.ins) (received_in t'.ins)
  pub sent : AreFronts (sent_in t.outs) (sent_in t'.outs)

-- at one of its ports it received or sent more
abbrev pub HasMovedMore : Task → Task → Type 0
HasMovedMore t t' = ((port : ℕ) × (length (list_at (received_in t.ins) port) < length (list_at (received_in t'.ins) port)))
    ⊎ ((port : ℕ) × (length (list_at (sent_in t.outs) port) < length (list_at (sent_in t'.outs) port)))

-- a task with another end at a port
abbrev pub with_out : Task → ℕ → outlet.Outlet → Task
with_out t j f = record t { outs = slice_set t.outs j f }

abbrev pub with_in : Task → ℕ → inlet.Inlet → Task
with_in t port i = record t { ins = slice_set t.ins port i }

-- the two ends of a ring looked, one at a port of each of two tasks, and nothing else changed
pub record HaveMet (out port : ℕ) (t r t' r' : Task) : Type 0 where
  pub sends : outlet.Outlet
  pub takes : inlet.Inlet
  pub settled : IsSettled sends takes
  -- they are the same ends, and the same was sent and received
  pub same_out : (d : outlet.Outlet) → (out_end sends ≡ out_end (slice_index_or t.outs out d)) × (sent_of sends ≡ sent_of (slice_index_or t.outs out d))
  pub same_in : (d : inlet.Inlet) → (in_end takes ≡ in_end (slice_index_or r.ins port d)) × (received_of takes ≡ received_of (slice_index_or r.ins port d))
  pub writer : t' ≡ with_out t out sends
  pub reader : r' ≡ with_in r port takes

-- and all tasks together
abbrev pub all_moves : List Task → ℕ
all_moves [] = 0
all_moves (t ∷ ts) = moves t + all_moves ts

-- each task has fewer than 2^32 ports
pub record HaveFewPorts (ts : List Task) : Type 0 where
  pub each : (i : ℕ) (d : Task) → i < length ts → length (slice_index_or ts i d).ins < 2 ^ 32
