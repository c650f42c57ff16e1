-- The ends of an operator's queues: rings, and the kept lists of inputs, of outputs and of queues that nobody reads.
use Rattle.std.specs.Prelude.{◌≡◌, ℕ, ℤ, ◌+◌, ◌<◌, ◌≤◌, Bool, IsTrue, IsFalse, All, Some, List, [], ◌∷◌, ◌++◌, length, take, drop, map, ◌⊎◌, slice_get, slice_index_or, slice_set}
use mathlib.Core.List.{IsPrefix}
use Rattle.river_base.specs.declared.item.Item as item
use Rattle.river_base.specs.Places.{append_at, list_at}
use Rattle.river_rings.specs.Ends.{RingId}
use Rattle.river_rings.specs.Ends as rings
use Rattle.river_rings.specs.Rows.{row_item}
use Rattle.fire_tasks.specs.Inlet as inlet
use Rattle.fire_tasks.specs.Inlet.{TakesFrom, Given}
use Rattle.fire_tasks.specs.Outlet as outlet
use Rattle.fire_tasks.specs.Outlet.{SendsTo, Stored}

-- WHERE AN OPERATOR TAKES FROM

-- what was received, oldest first
abbrev pub received_of : inlet.Inlet → List item.Item
received_of (TakesFrom t) = t.received
received_of (Given k) = take k.taken k.line

-- what is known to be there and was not received
abbrev pub known_of : inlet.Inlet → List item.Item
known_of (TakesFrom t) = t.known
known_of (Given k) = drop k.taken k.line

-- which end it is: that of a ring, or a kept list
pub data InEnd : Type 0 where
  RingIn : RingId → ℕ → InEnd
  ListIn : List item.Item → InEnd

abbrev pub in_end : inlet.Inlet → InEnd
in_end (TakesFrom t) = RingIn t.id t.cap
in_end (Given k) = ListIn k.line

-- WHERE AN OPERATOR SENDS TO

-- what was sent, oldest first
abbrev pub sent_of : outlet.Outlet → List item.Item
sent_of (SendsTo f) = f.sent
sent_of (Stored line) = line

-- the items sent and not known to be taken are as many as the ring holds at most. A kept list is never full
abbrev pub IsFull : outlet.Outlet → Type 0
IsFull (SendsTo f) = rings.IsFullRing f
IsFull (Stored line) = ⊥

-- they are fewer. A kept list always has room
abbrev pub HasRoom : outlet.Outlet → Type 0
HasRoom (SendsTo f) = rings.HasRingRoom f
HasRoom (Stored line) = Unit {0}

-- which end it is: that of a ring, or a kept list
pub data OutEnd : Type 0 where
  RingOut : RingId → ℕ → OutEnd
  ListOut : OutEnd

abbrev pub out_end : outlet.Outlet → OutEnd
out_end (SendsTo f) = RingOut f.id f.cap
out_end (Stored line) = ListOut

-- RINGS OF ROWS

-- how many values each row has at the end of a ring of rows; 0 at all other ends
abbrev pub ring_width : OutEnd → ℕ
ring_width (RingOut id cap) = id.width
ring_width ListOut = 0

-- it is the end of a ring of rows
abbrev pub SendsRows : OutEnd → Type 0
SendsRows e = 1 ≤ ring_width e

-- the item is a row of this width
abbrev pub IsRowOf : ℕ → item.Item → Type 0
IsRowOf width x = (row : List ℤ) × (x ≡ row_item row) × (length row ≡ width)

-- the item may be sent there: a ring of rows is sent rows of its width
abbrev pub MaySend : OutEnd → item.Item → Type 0
MaySend e x = SendsRows e → IsRowOf (ring_width e) x

-- BOTH ENDS

-- the two ends of one ring
abbrev pub IsPair : outlet.Outlet → inlet.Inlet → Type 0
IsPair (SendsTo f) (TakesFrom t) = t.id ≡ f.id
IsPair (SendsTo f) (Given k) = ⊥
IsPair (Stored xs) i = ⊥

-- the taking end knows all that was sent, and the sending end all that was received
abbrev pub IsSettled : outlet.Outlet → inlet.Inlet → Type 0
IsSettled (SendsTo f) (TakesFrom t) = (t.received ++ t.known ≡ f.sent) × (length t.known ≤ t.cap) × (f.waiting ≤ length t.known)
IsSettled (SendsTo f) (Given k) = ⊥
IsSettled (Stored xs) i = ⊥

-- a kept list, for what nobody reads
abbrev pub IsStored : outlet.Outlet → Type 0
IsStored (SendsTo f) = ⊥
IsStored (Stored xs) = Unit {0}

-- ALL PORTS

abbrev pub in_ends : List inlet.Inlet → List InEnd
in_ends ins = map in_end ins

abbrev pub out_ends : List outlet.Outlet → List OutEnd
out_ends outs = map out_end outs

abbrev pub received_in : List inlet.Inlet → List (List item.Item)
received_in ins = map received_of ins

abbrev pub sent_in : List outlet.Outlet → List (List item.Item)
sent_in outs = map sent_of outs

-- all that was given at a port: what was sent, then what is pending
abbrev pub given_at : List outlet.Outlet → List (List item.Item) → ℕ → List item.Item
given_at outs pending j = list_at (sent_in outs) j ++ list_at pending j

-- all that was given at each port may be sent there
abbrev pub MaySendAll : List outlet.Outlet → List (List item.Item) → Type 0
MaySendAll outs pending = (j : ℕ) (e : OutEnd) → slice_get (out_ends outs) j ≡ Some e → All (MaySend e) (given_at outs pending j)

-- how many items were sent, at all ports
abbrev pub sent_count : List outlet.Outlet → ℕ
sent_count [] = 0
sent_count (o ∷ os) = length (sent_of o) + sent_count os

-- how many items were received, at all ports
abbrev pub received_count : List inlet.Inlet → ℕ
received_count [] = 0
received_count (i ∷ is) = length (received_of i) + received_count is

-- WHAT MOVES

-- a number never falls, and grew exactly where something moved
pub record HasMoved (old new : ℕ) (moved : Bool) : Type 0 where
  pub never_falls : old ≤ new
  pub grew : IsTrue moved → old < new
  pub stayed : IsFalse moved → new ≡ old

-- port by port, what these lists hold is a front of what those hold
abbrev pub AreFronts : List (List item.Item) → List (List item.Item) → Type 0
AreFronts ls ls' = (j : ℕ) → IsPrefix (list_at ls j) (list_at ls' j)

-- nothing is pending
abbrev pub IsIdle : List (List item.Item) → Type 0
IsIdle ls = (j : ℕ) → list_at ls j ≡ []

-- at a port nothing is pending, or its ring refused what is
abbrev pub IsHeldBack : ℕ → List outlet.Outlet → List (List item.Item) → Type 0
IsHeldBack j outs pending = (list_at pending j ≡ []) ⊎ ((d : outlet.Outlet) → IsFull (slice_index_or outs j d))

abbrev pub RefusedAll : List outlet.Outlet → List (List item.Item) → Type 0
RefusedAll outs pending = (j : ℕ) → IsHeldBack j outs pending

-- every item known to be there was received
abbrev pub AllReceived : List inlet.Inlet → Type 0
AllReceived ins = (port : ℕ) (d : inlet.Inlet) → port < length ins → known_of (slice_index_or ins port d) ≡ []

-- items went from what is pending to what was sent
pub record Sent (outs : List outlet.Outlet) (pending : List (List item.Item)) (outs' : List outlet.Outlet) (pending' : List (List item.Item))
    (moved : Bool) : Type 0 where
  pub ends : out_ends outs' ≡ out_ends outs
  pub many : length pending' ≡ length pending
  pub given : (j : ℕ) → given_at outs' pending' j ≡ given_at outs pending j
  pub fronts : AreFronts (sent_in outs) (sent_in outs')
  pub number : HasMoved (sent_count outs) (sent_count outs') moved

-- at one port alone; where none went, its ring refused, or there was none
pub record SentAt (port : ℕ) (outs : List outlet.Outlet) (pending : List (List item.Item)) (outs' : List outlet.Outlet)
    (pending' : List (List item.Item)) (moved : Bool) : Type 0 where
  pub sent : Sent outs pending outs' pending' moved
  pub lists : (j : ℕ) → (port ≡ j → ⊥) → list_at pending' j ≡ list_at pending j
  pub others : (j : ℕ) (d : outlet.Outlet) → (port ≡ j → ⊥) → slice_index_or outs' j d ≡ slice_index_or outs j d
  pub stuck : IsFalse moved → IsHeldBack port outs' pending'

-- what waited in the ends went: the same was sent, and where something is pending its ring refuses it still
pub record Flushed (outs : List outlet.Outlet) (pending : List (List item.Item)) (outs' : List outlet.Outlet) : Type 0 where
  pub ends : out_ends outs' ≡ out_ends outs
  pub sent : sent_in outs' ≡ sent_in outs
  pub refused : RefusedAll outs pending → RefusedAll outs' pending

-- the front of what is pending at a port was sent there, and all other ports are as they were
pub record HasSentFront (port : ℕ) (outs : List outlet.Outlet) (pending : List (List item.Item)) (outs' : List outlet.Outlet)
    (pending' : List (List item.Item)) : Type 0 where
  pub rest : List item.Item
  pub item : item.Item
  pub was : list_at pending port ≡ item ∷ rest
  pub left : pending' ≡ slice_set pending port rest
  pub sent : sent_in outs' ≡ append_at (sent_in outs) port (item ∷ [])
