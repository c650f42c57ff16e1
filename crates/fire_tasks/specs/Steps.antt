-- One move of tasks that are put together, and the bounded states that they are before it and behind it.
use Rattle.std.specs.Prelude.{◌≡◌, ◌⊎◌, ℕ, ◌+◌, ◌<◌, Some, List, [], ◌∷◌, ◌++◌, length, slice_get}
use Rattle.river_base.specs.Bags.{SameBag}
use Rattle.river_base.specs.Places.{list_at}
use Rattle.river_base.specs.declared.item.Item as item
use Rattle.river_plan.specs.Forms.{Name, OpForm, PlanForm}
use Rattle.river_plan.specs.Valid.{IsPlan}
use Rattle.brooklet_model.specs.Bounded.{Bounded, Capacities, LastMoves}
use Rattle.brooklet_model.specs.Histories.{History}
use Rattle.brooklet_model.specs.Words.{Word}
use Rattle.fire_tasks.specs.Fired.{SeenTask, ports_of}
use Rattle.fire_tasks.specs.declared.task.Task.{Task}
use Rattle.fire_tasks.specs.Joins.{Joins, bounded}
use Rattle.fire_tasks.specs.Layout.{left_in, seen_at}

-- the same lists at each queue, the same states of the plan's operators, and the same bags of rows
pub record SameState (p : PlanForm) (b c : Bounded) : Type 0 where
  pub taken : (q : Name) → b.taken q ≡ c.taken q
  pub left : (q : Name) → b.left q ≡ c.left q
  pub pending : (q : Name) → b.pending q ≡ c.pending q
  pub kept : (o : ℕ) (op : OpForm) → slice_get p.ops o ≡ Some op → b.kept o ≡ c.kept o
  pub rows : (t : Name) → SameBag (b.rows t) (c.rows t)

-- operator number o has nothing pending, and nothing lies where it reads
pub record IsQuiet (ts : ℕ → SeenTask) (left : History) (o : ℕ) (op : OpForm) : Type 0 where
  pub pending : (j : ℕ) → list_at (ts o).pending j ≡ []
  pub lies : (port : ℕ) (q : Name) → slice_get op.reads port ≡ Some q → left q ≡ []

-- one of them sent one item that was pending at one port
pub record SeenSend (op : OpForm) (at port : ℕ) (ts ts' : ℕ → SeenTask) (is is' : ℕ → Word) : Type 0 where
  pub queue : Name
  pub queue_is : slice_get op.writes port ≡ Some queue
  pub some : 0 < length (list_at (ts at).pending port)
  pub received : (o i : ℕ) → length (list_at (ts' o).received i) ≡ length (list_at (ts o).received i)
  pub here : length (list_at (ts' at).sent port) ≡ length (list_at (ts at).sent port) + 1
  pub else : (o j : ℕ) → (o ≡ at → j ≡ port → ⊥) → length (list_at (ts' o).sent j) ≡ length (list_at (ts o).sent j)
  pub words : (o : ℕ) → ports_of (is' o) ≡ ports_of (is o)

-- one of them, at which nothing was pending, received one item at one port
pub record SeenTake (op : OpForm) (at port : ℕ) (ts ts' : ℕ → SeenTask) (is is' : ℕ → Word) : Type 0 where
  pub queue : Name
  pub queue_is : slice_get op.reads port ≡ Some queue
  pub idle : (j : ℕ) → list_at (ts at).pending j ≡ []
  pub sent : (o j : ℕ) → length (list_at (ts' o).sent j) ≡ length (list_at (ts o).sent j)
  pub here : length (list_at (ts' at).received port) ≡ length (list_at (ts at).received port) + 1
  pub else : (o i : ℕ) → (o ≡ at → i ≡ port → ⊥) → length (list_at (ts' o).received i) ≡ length (list_at (ts o).received i)
  pub word : ports_of (is' at) ≡ ports_of (is at) ++ port ∷ []
  pub others : (o : ℕ) → (o ≡ at → ⊥) → ports_of (is' o) ≡ ports_of (is o)

-- the last operator that has something to do sent or took one item; the words are those that the tasks fired on
pub record SeenMove (p : PlanForm) (ts ts' : ℕ → SeenTask) (left : History) (is is' : ℕ → Word) : Type 0 where
  pub at : ℕ
  pub op : OpForm
  pub op_is : slice_get p.ops at ≡ Some op
  pub last : (o : ℕ) (other : OpForm) → slice_get p.ops o ≡ Some other → at < o → IsQuiet ts left o other
  pub port : ℕ
  pub did : SeenSend op at port ts ts' is is' ⊎ SeenTake op at port ts ts' is is'

-- it is a move of the last operator that has a pending or an untaken item, from the bounded state before it to that behind it
pub record IsMove (p : PlanForm) (caps : Capacities) (b c : Bounded) : Type 0 where
  pub moves : LastMoves p caps b
  pub same : SameState p moves.after c

-- Tasks that make a move make one of the bounded machine: from the state that they are before it to the state that they are behind it.
abbrev pub MovesJoin : Type 0
MovesJoin =
    (p : PlanForm) (inputs : List (List item.Item)) (caps : Capacities) (ts ts' : ℕ → SeenTask) (left left' : History) (is is' : ℕ → Word) → IsPlan p
    → (j : Joins p inputs caps ts left is) → (j' : Joins p inputs caps ts' left' is') → SeenMove p ts ts' left is is'
    → IsMove p caps (bounded p inputs left j.words) (bounded p inputs left' j'.words)

-- the tasks before and behind are bounded states of the plan, and a move of the bounded machine leads from the one to the other
pub record HasMovedState (p : PlanForm) (inputs : List (List item.Item)) (caps : Capacities) (ts ts' : List Task) : Type 0 where
  pub is : ℕ → Word
  pub is' : ℕ → Word
  pub before : Joins p inputs caps (seen_at ts) (left_in p inputs ts) is
  pub behind : Joins p inputs caps (seen_at ts') (left_in p inputs ts') is'
  pub move : IsMove p caps (bounded p inputs (left_in p inputs ts) before.words) (bounded p inputs (left_in p inputs ts') behind.words)
