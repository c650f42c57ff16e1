-- The places of the queues that operators read, and firings of operators.
use Rattle.std.specs.Prelude.{◌≡◌, ℕ, ◌<◌, List, ◌∷◌, Option, Some, None, length, slice_get, slice_set}
use Rattle.river_base.specs.declared.item.Item as item
use Rattle.river_base.specs.Places.{list_at}
use Rattle.river_kernels.specs.Kern.{Kern}
use Rattle.river_plan.specs.Forms.{Name, OpForm, PlanForm, queue_names}
use Rattle.river_plan.specs.Names.{count}
use Rattle.river_plan.specs.Places.{place}
use Rattle.brooklet_step.specs.declared.emit.Emit.{Emit}
use Rattle.brooklet_step.specs.declared.parts.MachineState.{MachineState}
use Rattle.brooklet_step.specs.declared.state.State.{State}
use Rattle.brooklet_step.specs.Given.{CanTake, FiresAt}
use Rattle.brooklet_step.specs.Took.{HasLists, IsBlank}
use Rattle.brooklet_step.specs.Works.{ReadsAt}

-- the operator has this port, and this is the place of the queue that it reads there
pub record IsQueuePlace (m : MachineState) (o port n : ℕ) : Type 0 where
  pub queue : Name
  pub reads : ReadsAt m.plan o port queue
  pub place_is : n ≡ place (queue_names m.plan) queue
  pub declared : 0 < count queue (queue_names m.plan)
  pub in_queues : n < length m.queues

-- the place, where the operator and the port are there
abbrev pub IsPlaceRead : MachineState → ℕ → ℕ → Option ℕ → Type 0
IsPlaceRead m o port (Some n) = IsQueuePlace m o port n
IsPlaceRead m o port None = (q : Name) → ReadsAt m.plan o port q → ⊥

-- the front item of a list, and the lists without it
pub record IsFrontItem (queues : List (List item.Item)) (n : ℕ) (x : item.Item) (queues' : List (List item.Item)) : Type 0 where
  pub rest : List item.Item
  pub here : list_at queues n ≡ x ∷ rest
  pub left : queues' ≡ slice_set queues n rest

-- the operator can take the item at this port, whatever empty lists there are for what it gives
pub record CanFire (p : PlanForm) (o port : ℕ) (x : item.Item) (st : List State) : Type 0 where
  pub op : OpForm
  pub op_is : slice_get p.ops o ≡ Some op
  pub applies : (blank : Emit) → IsBlank op.kernel blank → CanTake op.kernel port x st blank

-- there is an empty list for each port and table of the operator
pub record IsBlankOf (p : PlanForm) (o : ℕ) (e : Emit) : Type 0 where
  pub blank : (op : OpForm) → slice_get p.ops o ≡ Some op → IsBlank op.kernel e

-- these lists came to empty ones by a firing of the kernel
pub record CameOf (k : Kern) (port : ℕ) (x : item.Item) (st st' : List State) (out : Emit) : Type 0 where
  pub blank : Emit
  pub is_blank : IsBlank k blank
  pub room : HasLists k out
  pub fires : FiresAt k port x blank out st st'

-- the operator fired
pub record FiredOp (p : PlanForm) (o port : ℕ) (x : item.Item) (st st' : List State) (out : Emit) : Type 0 where
  pub fired : (op : OpForm) → slice_get p.ops o ≡ Some op → CameOf op.kernel port x st st' out
