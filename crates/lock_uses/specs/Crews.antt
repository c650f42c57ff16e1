-- What two workers did.
use Rattle.std.specs.Prelude.{◌≡◌, ℕ, zero, suc, false, List, [], ◌∷◌, ◌++◌, length}
use mathlib.Core.Option.{some}
use lib.ListN.{get_elem?}
use Rattle.kern_tables.specs.declared.kind.TableKind.TheVariants.{Sum}
use Rattle.class_locks.specs.declared.log.LogEntry.{LogEntry}
use Rattle.class_locks.specs.declared.view.View.{View}
use Rattle.class_locks.specs.Logs.{Holding, entries_of_part}
use Rattle.class_locks.specs.Seats.{TableId}
use Rattle.class_locks.specs.Views.{fresh_view}
use Rattle.lock_uses.specs.declared.crew.Worker.{Worker}
use Rattle.lock_uses.specs.Uses.{HasWorked, entry}

-- the worker stays at its seat, and where memory was not wanting it claims what it added
pub record HasTakenTurn (old new : Worker) : Type 0 where
  pub op : new.op ≡ old.op
  pub lot : new.seat.lot ≡ old.seat.lot
  pub worked : old.refused ≡ false → new.refused ≡ false → HasWorked old.op new.added old.seat.view new.seat.view

-- an entry, so many times
abbrev pub entry_times : ℕ → LogEntry → List LogEntry
entry_times zero e = []
entry_times (suc n) e = entry_times n e ++ e ∷ []

-- an empty cell with one table of sums, which has the number of its class
abbrev pub blank_cell : ℕ → Holding
blank_cell c = record { kinds = (c, Sum 0) ∷ []; log = [] }

abbrev pub two_blank : List Holding
two_blank = blank_cell 0 ∷ blank_cell 1 ∷ []

-- each cell has its table still, and its log has what operator 0 added in `a` visits, and what operator 1 added in `b` visits
pub record HasTotal (a b : ℕ) (cells : List Holding) : Type 0 where
  pub as_many : length cells ≡ 2
  pub kinds : (c : ℕ) (x : Holding) → get_elem? cells c ≡ some x → x.kinds ≡ (c, Sum 0) ∷ []
  pub first : (c : ℕ) (x : Holding) → get_elem? cells c ≡ some x → entries_of_part 2 0 x.log ≡ entry_times a (entry 0 c)
  pub second : (c : ℕ) (x : Holding) → get_elem? cells c ≡ some x → entries_of_part 2 1 x.log ≡ entry_times b (entry 1 c)

-- the view of seat k at the beginning
abbrev pub first_view : ℕ → View
first_view k = record (fresh_view 2 two_blank) { parts = k ∷ [] }

-- two workers at the seats of one round, operator k at seat k
pub record AreSeated (ws : List Worker) : Type 0 where
  pub lot : TableId
  pub first : Worker
  pub second : Worker
  pub both : ws ≡ first ∷ second ∷ []
  pub seats : (first.seat ≡ record { lot = lot; view = first_view 0 }) × (second.seat ≡ record { lot = lot; view = first_view 1 })
  pub ops : (first.op ≡ 0) × (second.op ≡ 1)
  pub calm : (first.refused ≡ false) × (second.refused ≡ false)

-- after a round
pub record HaveTurned (ws : List Worker) : Type 0 where
  pub first : Worker
  pub second : Worker
  pub both : ws ≡ first ∷ second ∷ []
  pub lot : second.seat.lot ≡ first.seat.lot
  pub one : first.refused ≡ false → HasWorked 0 first.added (first_view 0) first.seat.view
  pub two : second.refused ≡ false → HasWorked 1 second.added (first_view 1) second.seat.view
