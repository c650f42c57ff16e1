-- Rings that are put between tasks which moved nothing.
use Rattle.std.specs.Prelude.{◌≡◌, ℕ, ◌<◌, List, [], Some, slice_get, map}
use Rattle.river_base.specs.declared.item.Item as item
use Rattle.river_base.specs.declared.kind.QueueType.{QueueType}
use Rattle.brooklet_step.specs.declared.emit.Emit.{Emit}
use Rattle.brooklet_step.specs.declared.state.State.{State}
use Rattle.fire_tasks.specs.Fired.{SeenTask}
use Rattle.fire_tasks.specs.Inlet as inlet
use Rattle.fire_tasks.specs.Outlet as outlet
use Rattle.fire_open.specs.declared.settling.Link.{Link}
use Rattle.fire_tasks.specs.declared.task.TablePort.{TablePort}
use Rattle.fire_tasks.specs.declared.task.Task.{Task}
use Rattle.fire_tasks.specs.Layout.{IsLink, IsSettled}
use Rattle.fire_tasks.specs.Ports.{received_of, sent_of}
use Rattle.fire_tasks.specs.Tasks.{seen_task}
use Rattle.fire_open.specs.Links.{FitsLink, LinkEnds, IsThere, ShareNoEnd}

-- nothing was sent and nothing was received, at any port
pub record AreUnmoved (ts : List Task) : Type 0 where
  pub ins : (o port : ℕ) (t : Task) (i : inlet.Inlet) → slice_get ts o ≡ Some t → slice_get t.ins port ≡ Some i → received_of i ≡ []
  pub outs : (o j : ℕ) (t : Task) (f : outlet.Outlet) → slice_get ts o ≡ Some t → slice_get t.outs j ≡ Some f → sent_of f ≡ []

-- the ends of all links are there, no two share one, and nothing moved
pub record AreThere (ts : List Task) (ls : List Link) : Type 0 where
  pub each : (n : ℕ) (l : Link) → slice_get ls n ≡ Some l → IsThere ts l
  pub apart : ShareNoEnd ls
  pub unmoved : AreUnmoved ts

-- all of a task but which ends it has
pub record TaskBody : Type 0 where
  pub op : ℕ
  pub seen : SeenTask
  pub kinds : List QueueType
  pub states : List State
  pub pending : List (List item.Item)
  pub out : Emit
  pub tables : List TablePort
  pub classes : List ℕ
  pub count : ℕ

abbrev pub body : Task → TaskBody
body t =
    record {
      op = t.op;
      seen = seen_task t;
      kinds = t.kinds;
      states = t.states;
      pending = t.pending;
      out = t.out;
      tables = t.tables;
      classes = t.classes;
      count = t.count;
    }

-- the end is that of none of the first n links
abbrev pub NoReader : List Link → ℕ → ℕ → ℕ → Type 0
NoReader ls n o port = (m : ℕ) (l : Link) → m < n → slice_get ls m ≡ Some l → (l.reader ≡ o) × (l.port ≡ port) → ⊥

abbrev pub NoWriter : List Link → ℕ → ℕ → ℕ → Type 0
NoWriter ls n o j = (m : ℕ) (l : Link) → m < n → slice_get ls m ≡ Some l → (l.writer ≡ o) × (l.out ≡ j) → ⊥

-- the first n links have rings that hold so many items, which are settled; the other ends and all else are as they were
pub record AreRung (room : Link → ℕ) (ts0 ts : List Task) (ls : List Link) (n : ℕ) : Type 0 where
  pub bodies : map body ts ≡ map body ts0
  pub rung : (m : ℕ) (l : Link) (f : outlet.Outlet) (i : inlet.Inlet) → m < n → slice_get ls m ≡ Some l
      → (x : LinkEnds ts l f i) → IsLink (room l) f i × IsSettled f i × FitsLink x.t l f
  pub ins : (o port : ℕ) (t t0 : Task) → slice_get ts o ≡ Some t → slice_get ts0 o ≡ Some t0 → NoReader ls n o port
      → slice_get t.ins port ≡ slice_get t0.ins port
  pub outs : (o j : ℕ) (t t0 : Task) → slice_get ts o ≡ Some t → slice_get ts0 o ≡ Some t0 → NoWriter ls n o j → slice_get t.outs j ≡ slice_get t0.outs j
