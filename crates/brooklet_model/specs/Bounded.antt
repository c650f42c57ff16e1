-- Bounded states: each operator has what it gave and did not send yet, and a queue with a writer and a reader holds at most
-- its capacity. Their moves: sends and takes.
use Rattle.std.specs.Prelude.{◌≡◌, ℕ, zero, suc, ℤ, ◌<◌, ◌≤◌, ◌⊎◌, List, [], ◌∷◌, ◌++◌, Some, slice_get, length}
use Rattle.river_base.specs.declared.item.Item as item
use Rattle.river_plan.specs.Forms.{Name, OpForm, PlanForm, table_names}
use Rattle.river_plan.specs.Names.{count}
use Rattle.river_plan.specs.Uses.{total, writes_it, reads_it}
use Rattle.brooklet_model.specs.Firings.{Kept}
use Rattle.brooklet_model.specs.Fire.{fire}
use Rattle.brooklet_model.specs.Histories.{History, joined, tables_of}
use Rattle.brooklet_model.specs.Laws.{given_to}
use Rattle.brooklet_model.specs.Machine.{Machine, at_key, at_name, start}

-- how many items each queue has room for, by its name; one for all queues is `λ q. n`
abbrev pub Capacities : Type 0
Capacities = Name → ℕ

-- what was taken of each queue, what lies in it, and what is pending for it, at the port of its writer; the states and the rows
-- as in the machine
pub record Bounded : Type 0 where
  pub taken : History
  pub left : History
  pub pending : History
  pub kept : ℕ → List Kept
  pub rows : Name → List (List ℤ)

-- what was sent to a queue
abbrev pub sent : Bounded → History
sent b q = b.taken q ++ b.left q

-- a queue's history: what was taken, what is left there and what is pending for it
abbrev pub history : Bounded → History
history b q = (b.taken q ++ b.left q) ++ b.pending q

-- the state of the machine, whose queues are unbounded
abbrev pub machine_of : Bounded → Machine
machine_of b = record { hist = history b; taken = λ q. length (b.taken q); kept = b.kept; rows = b.rows }

-- nothing moved yet: the inputs lie in their queues
abbrev pub at_first : PlanForm → List (List item.Item) → Bounded
at_first p inputs = record {
  taken = λ q. [];
  left = given_to p inputs;
  pending = λ q. [];
  kept = (start p inputs).kept;
  rows = λ t. [];
}

-- a queue with a writer and a reader holds at most its capacity
abbrev pub IsWithinCapacities : PlanForm → Capacities → Bounded → Type 0
IsWithinCapacities p caps b = (q : Name) → 0 < total (writes_it q) p.ops → 0 < total (reads_it q) p.ops → length (b.left q) ≤ caps q

-- a queue that nobody reads, as an output, always has room
abbrev pub QueueHasRoom : PlanForm → Capacities → Bounded → Name → Type 0
QueueHasRoom p caps b q = (total (reads_it q) p.ops ≡ 0) ⊎ (length (b.left q) < caps q)

-- the item x, the front of what is pending for queue q, is sent there
abbrev pub after_sending : Name → item.Item → List item.Item → Bounded → Bounded
after_sending q x rest b = record b { left = at_name q (b.left q ++ x ∷ []) b.left; pending = at_name q rest b.pending }

-- operator number o takes the item x, the front of what lies in queue q, at its port, and fires on it: what it gives is pending
abbrev pub after_taking : List Name → ℕ → OpForm → ℕ → Name → item.Item → List item.Item → Bounded → Bounded
after_taking tables o op port q x rest b =
    let r = fire op.kernel port x (b.kept o) in
    record {
      taken = at_name q (b.taken q ++ x ∷ []) b.taken;
      left = at_name q rest b.left;
      pending = λ n. b.pending n ++ joined op.writes r.outs n;
      kept = at_key o r.states b.kept;
      rows = λ t. b.rows t ++ joined (tables_of tables op) r.adds t;
    }

-- a send moves the front of what operator number o has pending at an output port to a queue that has room
pub record Send (p : PlanForm) (caps : Capacities) (b : Bounded) (o port : ℕ) (b' : Bounded) : Type 0 where
  pub op : OpForm
  pub queue : Name
  pub rest : List item.Item
  pub item : item.Item
  pub op_is : slice_get p.ops o ≡ Some op
  pub queue_is : slice_get op.writes port ≡ Some queue
  pub item_is : b.pending queue ≡ item ∷ rest
  pub room : QueueHasRoom p caps b queue
  pub after : b' ≡ after_sending queue item rest b

-- a take needs empty pending lists of the operator and an item that is not taken; it is a firing whose outputs become pending
pub record Take (p : PlanForm) (b : Bounded) (o port : ℕ) (b' : Bounded) : Type 0 where
  pub op : OpForm
  pub queue : Name
  pub rest : List item.Item
  pub item : item.Item
  pub op_is : slice_get p.ops o ≡ Some op
  pub queue_is : slice_get op.reads port ≡ Some queue
  pub idle : (q : Name) → 0 < count q op.writes → b.pending q ≡ []
  pub item_is : b.left queue ≡ item ∷ rest
  pub after : b' ≡ after_taking (table_names p.tables) o op port queue item rest b

-- a move of operator number o at one of its ports
abbrev pub Moves : PlanForm → Capacities → Bounded → ℕ → ℕ → Bounded → Type 0
Moves p caps b o port b' = Send p caps b o port b' ⊎ Take p b o port b'

-- one of these queues has something in it
abbrev pub HasIn : History → List Name → Type 0
HasIn f qs = (port : ℕ) × (q : Name) × (slice_get qs port ≡ Some q) × (0 < length (f q))

-- an operator has a pending or an untaken item
abbrev pub IsBusy : Bounded → OpForm → Type 0
IsBusy b op = HasIn b.pending op.writes ⊎ HasIn b.left op.reads

-- the last operator in the order listed that has a pending or an untaken item can move
pub record LastMoves (p : PlanForm) (caps : Capacities) (b : Bounded) : Type 0 where
  pub at : ℕ
  pub op : OpForm
  pub op_is : slice_get p.ops at ≡ Some op
  pub busy : IsBusy b op
  pub last : (o : ℕ) (other : OpForm) → slice_get p.ops o ≡ Some other → at < o → IsBusy b other → ⊥
  pub port : ℕ
  pub after : Bounded
  pub move : Moves p caps b at port after

-- so many moves one after another
abbrev pub ManyMoves : PlanForm → Capacities → ℕ → Bounded → Bounded → Type 0
ManyMoves p caps zero b b' = b' ≡ b
ManyMoves p caps (suc n) b b' = (o port : ℕ) × (m : Bounded) × Moves p caps b o port m × ManyMoves p caps n m b'

-- rounds one after another, of as many moves as the list says
abbrev pub Rounds : PlanForm → Capacities → List ℕ → Bounded → Bounded → Type 0
Rounds p caps [] b b' = b' ≡ b
Rounds p caps (n ∷ ns) b b' = (m : Bounded) × ManyMoves p caps n b m × Rounds p caps ns m b'

-- each round moves something, or is the last
abbrev pub MoveOrEnd : List ℕ → Type 0
MoveOrEnd [] = Unit {0}
MoveOrEnd (n ∷ []) = Unit {0}
MoveOrEnd (n ∷ m ∷ ns) = (0 < n) × MoveOrEnd (m ∷ ns)
