-- The queues between two operators, as links between their ports.
use Rattle.std.specs.Prelude.{◌≡◌, ℕ, ◌<◌, ◌⊎◌, List, [], Option, None, Some, slice_get, slice_set, slice_index_or}
use Rattle.river_plan.specs.Caps.{OwnCaps, capacity}
use Rattle.river_plan.specs.Forms.{Name, OpForm, PlanForm}
use Rattle.fire_tasks.specs.Inlet as inlet
use Rattle.fire_tasks.specs.Outlet as outlet
use Rattle.fire_open.specs.declared.settling.Link.{Link}
use Rattle.fire_tasks.specs.declared.task.Task.{Task}
use Rattle.fire_tasks.specs.Layout.{IsLink, IsPair, IsSettled}
use Rattle.fire_tasks.specs.Ports.{SendsRows, ring_width, out_end, received_of, sent_of}
use Rattle.river_base.specs.WideRows.{rows_type}
use Rattle.fire_open.specs.Settling.{with_out, with_in}

-- the writer's port writes the queue that the reader's port reads
pub record IsLinkOf (p : PlanForm) (l : Link) : Type 0 where
  pub queue : Name
  pub read : OpForm
  pub write : OpForm
  pub read_is : slice_get p.ops l.reader ≡ Some read
  pub reads : slice_get read.reads l.port ≡ Some queue
  pub write_is : slice_get p.ops l.writer ≡ Some write
  pub writes : slice_get write.writes l.out ≡ Some queue

-- the queue that the writer of a link writes there
abbrev pub writes_in : Option OpForm → List Name
writes_in None = []
writes_in (Some op) = op.writes

abbrev pub link_queue : PlanForm → Link → Name
link_queue p l = slice_index_or (writes_in (slice_get p.ops l.writer)) l.out []

-- how many items it holds at most
abbrev pub room_of : PlanForm → ℕ → OwnCaps → Link → ℕ
room_of p cap own l = capacity cap own (link_queue p l)

-- there is a link for each queue between two operators, and no other
pub record AreLinks (p : PlanForm) (ls : List Link) : Type 0 where
  pub right : (n : ℕ) (l : Link) → slice_get ls n ≡ Some l → IsLinkOf p l
  pub all : (l : Link) → IsLinkOf p l → (n : ℕ) × (slice_get ls n ≡ Some l)

-- the two ends of a link
pub record LinkEnds (ts : List Task) (l : Link) (f : outlet.Outlet) (i : inlet.Inlet) : Type 0 where
  pub t : Task
  pub t' : Task
  pub t_is : slice_get ts l.reader ≡ Some t
  pub t_is' : slice_get ts l.writer ≡ Some t'
  pub in_is : slice_get t.ins l.port ≡ Some i
  pub out_is : slice_get t'.outs l.out ≡ Some f

-- they are there; the writer stands before the reader
pub record IsThere (ts : List Task) (l : Link) : Type 0 where
  pub order : l.writer < l.reader
  pub out : outlet.Outlet
  pub in_ : inlet.Inlet
  pub ends : LinkEnds ts l out in_

-- other ends were put there
pub record Swapped (ts ts' : List Task) (l : Link) (out : outlet.Outlet) (in_ : inlet.Inlet) : Type 0 where
  pub writer : Task
  pub reader : Task
  pub writer_is : (d : Task) → slice_index_or ts l.writer d ≡ writer
  pub reader_is : (d : Task) → slice_index_or ts l.reader d ≡ reader
  pub after : ts' ≡ slice_set (slice_set ts l.writer (with_out writer l.out out)) l.reader (with_in reader l.port in_)

-- the two ends of an empty ring of this capacity
pub record IsBlankRing (cap : ℕ) (out : outlet.Outlet) (in_ : inlet.Inlet) : Type 0 where
  pub link : IsLink cap out in_
  pub settled : IsSettled out in_
  pub sent : sent_of out ≡ []
  pub received : received_of in_ ≡ []

-- a ring of rows was put only where the reader's port has rows of its width
abbrev pub FitsLink : Task → Link → outlet.Outlet → Type 0
FitsLink reader l f = SendsRows (out_end f) → slice_get reader.kinds l.port ≡ Some (rows_type (ring_width (out_end f)))

-- an empty ring was put there
pub record Put (cap : ℕ) (ts ts' : List Task) (l : Link) : Type 0 where
  pub out : outlet.Outlet
  pub in_ : inlet.Inlet
  pub swapped : Swapped ts ts' l out in_
  pub link : IsLink cap out in_
  pub settled : IsSettled out in_
  pub fits : FitsLink swapped.reader l out
  pub sent : sent_of out ≡ []
  pub received : received_of in_ ≡ []

-- they are there, and they are those of one ring; the writer stands before the reader
pub record IsPaired (ts : List Task) (l : Link) : Type 0 where
  pub order : l.writer < l.reader
  pub out : outlet.Outlet
  pub in_ : inlet.Inlet
  pub ends : LinkEnds ts l out in_
  pub pair : IsPair out in_

pub record ArePaired (ts : List Task) (ls : List Link) : Type 0 where
  pub each : (n : ℕ) (l : Link) → slice_get ls n ≡ Some l → IsPaired ts l

-- links that share an end are one
abbrev pub ShareAnEnd : Link → Link → Type 0
ShareAnEnd l l' = ((l.reader ≡ l'.reader) × (l.port ≡ l'.port)) ⊎ ((l.writer ≡ l'.writer) × (l.out ≡ l'.out))

pub record ShareNoEnd (ls : List Link) : Type 0 where
  pub each : (m n : ℕ) (l l' : Link) → slice_get ls m ≡ Some l → slice_get ls n ≡ Some l' → ShareAnEnd l l' → l ≡ l'

-- the ends of the first n links know of each other
pub record AreMet (ts : List Task) (ls : List Link) (n : ℕ) : Type 0 where
  pub each : (m : ℕ) (l : Link) (f : outlet.Outlet) (i : inlet.Inlet) → m < n → slice_get ls m ≡ Some l → LinkEnds ts l f i → IsSettled f i
