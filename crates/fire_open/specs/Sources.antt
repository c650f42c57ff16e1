-- Where queues are written, and the links of the ports that read them.
use Rattle.std.specs.Prelude.{◌≡◌, ℕ, ◌<◌, ◌⊎◌, Option, Some, List, length, slice_get}
use Rattle.river_plan.specs.Forms.{Name, OpForm, PlanForm, queue_names}
use Rattle.river_plan.specs.Places.{place}
use Rattle.fire_open.specs.declared.settling.Link.{Link}
use Rattle.fire_open.specs.declared.links.OutPort.{OutPort}
use Rattle.fire_open.specs.Links.{IsLinkOf}

-- a port before port number j of operator o
abbrev pub ComesBefore : ℕ → ℕ → ℕ → ℕ → Type 0
ComesBefore o j o' j' = (o' < o) ⊎ ((o' ≡ o) × (j' < j))

-- the queue at this place is written there
pub record WritesAt (p : PlanForm) (n : ℕ) (s : OutPort) : Type 0 where
  pub queue : Name
  pub write : OpForm
  pub write_is : slice_get p.ops s.writer ≡ Some write
  pub writes : slice_get write.writes s.out ≡ Some queue
  pub place_is : n ≡ place (queue_names p) queue

-- of the queues that are written at ports before this one it is known where
pub record KnowWriters (p : PlanForm) (o j : ℕ) (sources : List (Option OutPort)) : Type 0 where
  pub many : length sources ≡ length (queue_names p)
  pub right : (n : ℕ) (s : OutPort) → slice_get sources n ≡ Some (Some s) → WritesAt p n s
  pub all : (o' j' : ℕ) (op : OpForm) (q : Name) → ComesBefore o j o' j' → slice_get p.ops o' ≡ Some op → slice_get op.writes j' ≡ Some q
      → (s : OutPort) × (slice_get sources (place (queue_names p) q) ≡ Some (Some s))

-- the links are those of the ports before this one
pub record LinkReaders (p : PlanForm) (o port : ℕ) (ls : List Link) : Type 0 where
  pub right : (n : ℕ) (l : Link) → slice_get ls n ≡ Some l → IsLinkOf p l
  pub all : (l : Link) → IsLinkOf p l → ComesBefore o port l.reader l.port → (n : ℕ) × (slice_get ls n ≡ Some l)
