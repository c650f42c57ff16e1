-- What contracts see of an end that sends values, of which several may go with one store.
use Rattle.std.specs.Prelude.{◌≡◌, ℕ, ℤ, ◌-◌, ◌≤◌, List, ◌++◌, length}
use Rattle.std.specs.declared.alloc.Global.{Global}
use Rattle.rtrb.specs.declared.consumer.Consumer.{Consumer}
use Rattle.rtrb.specs.declared.producer.Producer.{Producer}
use Rattle.rtrb.specs.Ring.{sent, known_free, producer_capacity}
use Rattle.river_rings.specs.Ends.{RingId, ring_of}

-- which ring it is; how many values it holds at most, all that were sent, and for how many more there is room for all that is known
pub record Lotted : Type 0 where
  pub ring : RingId
  pub capacity : ℕ
  pub sent : List ℤ
  pub free : ℕ

-- these values wait to go with one store: they are sent, and the places for them are taken
abbrev pub lotted : {P : Type 0} → Producer ℤ Global P → List ℤ → Lotted
lotted p lot = record { ring = ring_of 0 p.end; capacity = producer_capacity p; sent = sent p ++ lot; free = known_free p - length lot }

-- the same ring
abbrev pub SameLotted : Lotted → Lotted → Type 0
SameLotted a b = (b.ring ≡ a.ring) × (b.capacity ≡ a.capacity)

-- nothing was sent, and no place that was known to be free is lost
abbrev pub LotLooked : Lotted → Lotted → Type 0
LotLooked a b = SameLotted a b × (b.sent ≡ a.sent) × (a.free ≤ b.free)

-- the two ends of one ring
abbrev pub IsLotPair : {P : Type 0} → Lotted → Consumer ℤ Global P → Type 0
IsLotPair l c = (c.end.words ≡ l.ring.words) × (c.end.slots ≡ l.ring.slots) × (c.end.names ≡ l.ring.names) × (c.end.heap ≡ l.ring.heap)
