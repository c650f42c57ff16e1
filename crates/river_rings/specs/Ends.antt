-- What contracts see of the two ends of a ring.
use Rattle.std.specs.Prelude.{◌≡◌, ℕ, ◌-◌, ◌≤◌, ◌<◌, List, [], ◌∷◌, ◌++◌}
use Rattle.std.specs.declared.alloc.Global.{Global}
use mathlib.Core.List.{IsPrefix}
use denote.RawPtr.{Ptr}
use Rattle.rtrb.specs.Shared.{Names}
use Rattle.rtrb.specs.declared.consumer.Consumer.{Consumer}
use Rattle.rtrb.specs.declared.end.End.{End}
use Rattle.rtrb.specs.declared.producer.Producer.{Producer}
use Rattle.rtrb.specs.Ring.{sent, known_free, producer_capacity, received, known_items, consumer_capacity}
use Rattle.river_base.specs.declared.item.Item as item

-- which ring it is, and how many values each of its rows has: 0 where it carries items of any form
pub record RingId : Type 0 where
  pub words : Ptr
  pub slots : Ptr
  pub names : Names
  pub heap : Global
  pub width : ℕ

-- that of an end
abbrev pub ring_of : {T P : Type 0} → ℕ → End T Global P → RingId
ring_of width e = record { words = e.words; slots = e.slots; names = e.names; heap = e.heap; width = width }

-- the end that sends: how many items the ring holds at most, all that was sent, oldest first, and how many of these are not known to
-- be taken
pub record Sending : Type 0 where
  pub id : RingId
  pub cap : ℕ
  pub sent : List item.Item
  pub waiting : ℕ

-- the end that takes: how many items the ring holds at most, all that was received, oldest first, and what is known to be sent and
-- was not received
pub record Taking : Type 0 where
  pub id : RingId
  pub cap : ℕ
  pub received : List item.Item
  pub known : List item.Item

-- these are seen of the ends; what is not known to be free waits
abbrev pub sending_of : {P : Type 0} → Producer item.Item Global P → Sending
sending_of p = record { id = ring_of 0 p.end; cap = producer_capacity p; sent = sent p; waiting = producer_capacity p - known_free p }

abbrev pub taking_of : {P : Type 0} → Consumer item.Item Global P → Taking
taking_of c = record { id = ring_of 0 c.end; cap = consumer_capacity c; received = received c; known = known_items c }

-- the two ends of one ring
abbrev pub AreEnds : Sending → Taking → Type 0
AreEnds f t = t.id ≡ f.id

-- the sending end of the same ring, before and after
abbrev pub SameSending : Sending → Sending → Type 0
SameSending f g = (g.id ≡ f.id) × (g.cap ≡ f.cap)

-- the taking end of the same ring, before and after
abbrev pub SameTaking : Taking → Taking → Type 0
SameTaking t u = (u.id ≡ t.id) × (u.cap ≡ t.cap)

-- the items sent and not known to be taken are as many as the ring holds at most
abbrev pub IsFullRing : Sending → Type 0
IsFullRing f = f.waiting ≡ f.cap

-- they are fewer
abbrev pub HasRingRoom : Sending → Type 0
HasRingRoom f = f.waiting < f.cap

-- the sending end has looked: nothing was sent, and more may be known to be taken
pub record HasSeenTaken (f g : Sending) : Type 0 where
  pub same : SameSending f g
  pub sent : g.sent ≡ f.sent
  pub waiting : g.waiting ≤ f.waiting

-- the taking end has looked: nothing was received, and more may be known to be sent
pub record HasSeen (t u : Taking) : Type 0 where
  pub same : SameTaking t u
  pub received : u.received ≡ t.received
  pub known : IsPrefix t.known u.known

-- the next item known to be sent was received
abbrev pub HasGot : Taking → item.Item → Taking → Type 0
HasGot t x u = (u.received ≡ t.received ++ x ∷ []) × IsPrefix t.known (x ∷ u.known)
