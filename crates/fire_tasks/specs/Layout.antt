-- Tasks by the numbers of their operators, and rings between them.
use Rattle.std.specs.Prelude.{◌≡◌, ℕ, ℤ, zero, suc, ◌<◌, min, slice_index_or, List, [], ◌∷◌, Some, None, length, slice_get}
use Rattle.river_base.specs.declared.item.Item as item
use Rattle.river_base.specs.Places.{list_at}
use Rattle.river_plan.specs.Forms.{Name, OpForm, PlanForm}
use Rattle.river_plan.specs.Uses.{total, writes_it, reads_it}
use Rattle.brooklet_model.specs.Bounded.{Capacities}
use Rattle.brooklet_model.specs.Fire.{first_kept}
use Rattle.brooklet_model.specs.Histories.{History, most_firings}
use Rattle.brooklet_model.specs.Laws.{given_to}
use Rattle.brooklet_model.specs.Words.{Word}
use Rattle.brooklet_step.specs.Given.{StandsAfter}
use Rattle.fire_tasks.specs.Fired.{SeenTask, Gave, kinds_in}
use Rattle.fire_tasks.specs.Inlet as inlet
use Rattle.fire_tasks.specs.Inlet.{TakesFrom, Given}
use Rattle.fire_tasks.specs.Outlet as outlet
use Rattle.fire_tasks.specs.Outlet.{SendsTo, Stored}
use Rattle.fire_tasks.specs.declared.task.Task.{Task}
use Rattle.fire_tasks.specs.Ports.{known_of}
pub use Rattle.fire_tasks.specs.Ports.{IsPair, IsSettled, IsStored}
use Rattle.fire_tasks.specs.Tasks.{IsTask, seen_task}
use Rattle.fire_tasks.specs.Joins.{Joins, lists_by_name}

-- the two ends of one ring of this capacity
abbrev pub IsLink : ℕ → outlet.Outlet → inlet.Inlet → Type 0
IsLink cap (SendsTo f) (TakesFrom t) = (t.id ≡ f.id) × (t.cap ≡ cap) × (f.cap ≡ cap)
IsLink cap (SendsTo f) (Given k) = ⊥
IsLink cap (Stored xs) i = ⊥

-- a kept list of these items
abbrev pub IsInput : List item.Item → inlet.Inlet → Type 0
IsInput xs (TakesFrom t) = ⊥
IsInput xs (Given k) = k.line ≡ xs

-- one operator's port writes what another's reads, and these are the ends there
pub record HasEnds (p : PlanForm) (ts : List Task) (o o' port j : ℕ) (q : Name) (f : outlet.Outlet) (i : inlet.Inlet) : Type 0 where
  pub op : OpForm
  pub op' : OpForm
  pub op_is : slice_get p.ops o ≡ Some op
  pub reads : slice_get op.reads port ≡ Some q
  pub op_is' : slice_get p.ops o' ≡ Some op'
  pub writes : slice_get op'.writes j ≡ Some q
  pub t : Task
  pub t' : Task
  pub t_is : slice_get ts o ≡ Some t
  pub t_is' : slice_get ts o' ≡ Some t'
  pub in_is : slice_get t.ins port ≡ Some i
  pub out_is : slice_get t'.outs j ≡ Some f

-- a task for each operator, in order; a ring for each queue with a writer and a reader; the whole list of each input that is read,
-- and a kept list for what nobody reads
pub record AreLaid (p : PlanForm) (inputs : List (List item.Item)) (caps : Capacities) (ts : List Task) : Type 0 where
  pub many : length ts ≡ length p.ops
  pub numbers : (o : ℕ) (t : Task) → slice_get ts o ≡ Some t → t.op ≡ o
  pub rings : (o o' port j : ℕ) (q : Name) (f : outlet.Outlet) (i : inlet.Inlet) → HasEnds p ts o o' port j q f i → IsLink (caps q) f i
  pub inputs_are : (o port : ℕ) (op : OpForm) (q : Name) (t : Task) (i : inlet.Inlet) → slice_get p.ops o ≡ Some op → slice_get op.reads port ≡ Some q
      → total (writes_it q) p.ops ≡ 0
      → slice_get ts o ≡ Some t → slice_get t.ins port ≡ Some i → IsInput (given_to p inputs q) i
  pub outputs_are : (o' j : ℕ) (op' : OpForm) (q : Name) (t' : Task) (f : outlet.Outlet) → slice_get p.ops o' ≡ Some op'
      → slice_get op'.writes j ≡ Some q → total (reads_it q) p.ops ≡ 0
      → slice_get ts o' ≡ Some t' → slice_get t'.outs j ≡ Some f → IsStored f

-- each task keeps the facts of itself, where this is what the operators added, each at its tables
pub record AreTasks (p : PlanForm) (adds : ℕ → ℕ → List (List ℤ)) (ts : List Task) : Type 0 where
  pub each : (i : ℕ) (d : Task) → i < length ts → IsTask p (adds (slice_index_or ts i d).op) (slice_index_or ts i d)

-- all rings are settled
pub record AreSettled (p : PlanForm) (ts : List Task) : Type 0 where
  pub each : (o o' port j : ℕ) (q : Name) (f : outlet.Outlet) (i : inlet.Inlet) → HasEnds p ts o o' port j q f i → IsSettled f i

abbrev pub known_at : List inlet.Inlet → ℕ → List item.Item
known_at [] port = []
known_at (i ∷ is) zero = known_of i
known_at (i ∷ is) (suc port) = known_at is port

abbrev pub known_in : List Task → ℕ → ℕ → List item.Item
known_in [] o port = []
known_in (t ∷ ts) zero port = known_at t.ins port
known_in (t ∷ ts) (suc o) port = known_in ts o port

abbrev pub sent_at : List Task → ℕ → ℕ → List item.Item
sent_at [] o j = []
sent_at (t ∷ ts) zero j = list_at (seen_task t).sent j
sent_at (t ∷ ts) (suc o) j = sent_at ts o j

-- what lies in each queue: at its reader, or all that was sent or given where nobody reads
abbrev pub left_in : PlanForm → List (List item.Item) → List Task → History
left_in p inputs ts = lists_by_name (λ op. op.reads) (known_in ts) 0 p.ops (lists_by_name (λ op. op.writes) (sent_at ts) 0 p.ops (given_to p inputs))

abbrev pub nobody : SeenTask
nobody = record { received = []; sent = []; pending = []; bad = None }

abbrev pub seen_at : List Task → ℕ → SeenTask
seen_at [] o = nobody
seen_at (t ∷ ts) zero = seen_task t
seen_at (t ∷ ts) (suc o) = seen_at ts o

-- the tasks are a net: what each took stands for a word of its operator, by which it gave what is defined
pub record MakeNet (p : PlanForm) (inputs : List (List item.Item)) (caps : Capacities) (adds : ℕ → ℕ → List (List ℤ)) (ts : List Task) : Type 0 where
  pub items : ℕ → Word
  pub joins : Joins p inputs caps (seen_at ts) (left_in p inputs ts) items
  pub gave : (o : ℕ) (op : OpForm) (t : Task) → slice_get p.ops o ≡ Some op → slice_get ts o ≡ Some t → Gave p op (adds o) (seen_task t) (joins.words o)
  pub stands : (o : ℕ) (op : OpForm) (t : Task) → slice_get p.ops o ≡ Some op → slice_get ts o ≡ Some t
      → StandsAfter op.kernel (kinds_in p op) (first_kept op.kernel) t.states (joins.words o)
  pub counts : (o : ℕ) (op : OpForm) (t : Task) → slice_get p.ops o ≡ Some op → slice_get ts o ≡ Some t → t.count ≡ min most_firings (length (joins.words o))
