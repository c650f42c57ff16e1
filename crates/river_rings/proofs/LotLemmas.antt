-- Values that wait to go with one store.
use Rattle.std.proofs.Common.{◌≡◌, ℕ, ℤ, ◌-◌, ◌≤◌, List, length, arith}
use Rattle.std.specs.declared.alloc.Global.{Global}
use Rattle.rtrb.specs.declared.producer.Producer.{Producer}
use Rattle.rtrb.specs.Ring.{known_free, producer_capacity}

-- no more places are free than there are
pub lot_most : {P : Type 0} (p : Producer ℤ Global P) (lot : List ℤ) → known_free p - length lot ≤ producer_capacity p
lot_most p lot = let h = p.counts.2 in omega (arith, h)
