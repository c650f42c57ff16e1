-- What the code makes of a plan before anything moves.
use Rattle.std.specs.Prelude.{◌≡◌, ℕ, ◌<◌, List, [], None, Some, length, map, replicate, slice_get}
use Rattle.river_base.specs.declared.item.Item as item
use Rattle.river_base.specs.declared.kind.QueueType.{QueueType}
use Rattle.river_base.specs.Places.{list_at}
use Rattle.river_plan.specs.ByPlace.{kind_at}
use Rattle.river_plan.specs.Forms.{OpForm, PlanForm}
use Rattle.river_plan.specs.Places.{read_places, write_places}
use Rattle.brooklet_step.specs.Initial.{AreFirstStates}
use Rattle.brooklet_step.specs.Took.{IsBlank}
use Rattle.fire_tasks.specs.Inlet as inlet
use Rattle.fire_tasks.specs.Inlet.{Given}
use Rattle.fire_tasks.specs.Outlet.{Stored}
use Rattle.fire_tasks.specs.declared.task.Task.{Task}
use Rattle.fire_tasks.specs.Adds.{AreHomes}

-- the place n is none of these
abbrev pub IsNoneOf : List ℕ → ℕ → Type 0
IsNoneOf ps n = (port : ℕ) → slice_get ps port ≡ Some n → ⊥

-- the lines at some places were taken out: the others are as they were
pub record HasLeft (ps : List ℕ) (qs qs' : List (List item.Item)) : Type 0 where
  pub many : length qs' ≡ length qs
  pub others : (n : ℕ) → IsNoneOf ps n → list_at qs' n ≡ list_at qs n

-- a kept list of the items of the queue at a place
abbrev pub whole_list : List (List item.Item) → ℕ → inlet.Inlet
whole_list qs n = Given (record { line = list_at qs n; taken = 0 })

-- the task of an operator, of which the queues are looked up by their places
pub record IsFirstTask (p : PlanForm) (qs : List (List item.Item)) (kinds : List QueueType) (o : ℕ) (t : Task) : Type 0 where
  pub there : o < length p.ops
  pub number : t.op ≡ o
  pub ins : t.ins ≡ map (whole_list qs) (list_at (read_places p) o)
  pub kinds_are : t.kinds ≡ map (kind_at kinds) (list_at (read_places p) o)
  pub outs : t.outs ≡ replicate (length (list_at (write_places p) o)) (Stored [])
  pub pending : t.pending ≡ replicate (length (list_at (write_places p) o)) []
  pub first : (op : OpForm) → slice_get p.ops o ≡ Some op → AreFirstStates op.kernel t.states × IsBlank op.kernel t.out
  pub homes : AreHomes p o t.tables t.classes
  pub count : t.count ≡ 0
  pub bad : t.bad ≡ None

pub record AreFirstTasks (p : PlanForm) (qs : List (List item.Item)) (kinds : List QueueType) (n : ℕ) (ts : List Task) : Type 0 where
  pub many : length ts ≡ n
  pub each : (o : ℕ) (t : Task) → slice_get ts o ≡ Some t → IsFirstTask p qs kinds o t
