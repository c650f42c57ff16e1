-- Tasks that are put together: what the rings between them tell, and the net that they are.
use Rattle.std.specs.Prelude.{◌≡◌, ℕ, ℤ, suc, ◌+◌, ◌<◌, ◌≤◌, Option, Some, None, List, [], ◌∷◌, ◌++◌, length, take, drop, slice_get}
use Rattle.river_base.specs.declared.item.Item as item
use Rattle.river_base.specs.Places.{list_at}
use Rattle.river_plan.specs.Forms.{Name, OpForm, PlanForm, table_names}
use Rattle.river_plan.specs.Uses.{total, writes_it, reads_it}
use Rattle.river_plan.specs.Valid.{IsPlan}
use Rattle.brooklet_model.specs.Bounded.{Bounded, Capacities, sent}
use Rattle.brooklet_model.specs.Firings.{Kept}
use Rattle.brooklet_model.specs.Histories.{History, written}
use Rattle.brooklet_model.specs.Laws.{given_to}
use Rattle.brooklet_model.specs.Nets.{IsNet}
use Rattle.brooklet_model.specs.Received.{hist_by, rows_added}
use Rattle.brooklet_model.specs.Traced.{ran}
use Rattle.brooklet_model.specs.Typed.{AreInputs, IsWordOf}
use Rattle.brooklet_model.specs.Words.{Word, at_port}
use Rattle.fire_tasks.specs.Fired.{SeenTask, kinds_in, IsHeldAs, HasFired}

-- what the rings tell, and the kept lists: `left` is what lies in each queue
pub record AreBeside (p : PlanForm) (inputs : List (List item.Item)) (caps : Capacities) (ts : ℕ → SeenTask) (left : History) : Type 0 where
  -- a queue with a writer and a reader: received, then what is left, is sent
  pub inner : (o o' : ℕ) (op op' : OpForm) (port j : ℕ) (q : Name) → slice_get p.ops o ≡ Some op → slice_get op.reads port ≡ Some q
      → slice_get p.ops o' ≡ Some op' → slice_get op'.writes j ≡ Some q
      → list_at (ts o).received port ++ left q ≡ list_at (ts o').sent j
  -- an input that is read
  pub input : (o : ℕ) (op : OpForm) (port : ℕ) (q : Name) → slice_get p.ops o ≡ Some op → slice_get op.reads port ≡ Some q → total (writes_it q) p.ops ≡ 0
      → list_at (ts o).received port ++ left q ≡ given_to p inputs q
  -- an output, or another queue that nobody reads
  pub output : (o' : ℕ) (op' : OpForm) (j : ℕ) (q : Name) → slice_get p.ops o' ≡ Some op' → slice_get op'.writes j ≡ Some q
      → total (reads_it q) p.ops ≡ 0 → left q ≡ list_at (ts o').sent j
  -- an input that nobody reads
  pub unused : (q : Name) → total (reads_it q) p.ops ≡ 0 → total (writes_it q) p.ops ≡ 0 → left q ≡ given_to p inputs q
  pub within : (q : Name) → 0 < total (writes_it q) p.ops → 0 < total (reads_it q) p.ops → length (left q) ≤ caps q

-- what each operator has at its ports, by name: the lists of these queues of each operator
abbrev pub lists_by_name : (OpForm → List Name) → (ℕ → ℕ → List item.Item) → ℕ → List OpForm → History → History
lists_by_name names f o [] h = h
lists_by_name names f o (op ∷ ops) h = lists_by_name names f (suc o) ops (written (names op) (f o) h)

abbrev pub kept_by : Option OpForm → Word → List Kept
kept_by None w = []
kept_by (Some op) w = (ran op w).states

-- what operators took from each queue, by these words
abbrev pub taken_by : PlanForm → (ℕ → Word) → History
taken_by p ws = lists_by_name (λ op. op.reads) (λ o port. at_port port (ws o)) 0 p.ops (λ q. [])

-- the bounded state in which operators received these words, and as many items as in `left` lie in each queue: of a history
-- there is first what was taken, then what lies in the queue, then what is pending
abbrev pub bounded : PlanForm → List (List item.Item) → History → (ℕ → Word) → Bounded
bounded p inputs left ws = record {
  taken = taken_by p ws;
  left = λ q. drop (length (taken_by p ws q)) (take (length (taken_by p ws q) + length (left q)) (hist_by p inputs ws q));
  pending = λ q. drop (length (taken_by p ws q) + length (left q)) (hist_by p inputs ws q);
  kept = λ o. kept_by (slice_get p.ops o) (ws o);
  rows = λ t. rows_added (table_names p.tables) 0 p.ops ws t;
}

-- The join: from what each task keeps of itself, and what the rings tell, there is a word for each operator that its items stand
-- for; no item failed its test; and the tasks make a net, with the numbers that they have.
pub record Joins (p : PlanForm) (inputs : List (List item.Item)) (caps : Capacities) (ts : ℕ → SeenTask) (left : History) (is : ℕ → Word) : Type 0 where
  pub words : ℕ → Word
  pub none_bad : (o : ℕ) (op : OpForm) → slice_get p.ops o ≡ Some op → (ts o).bad ≡ None
  pub typed : (o : ℕ) (op : OpForm) → slice_get p.ops o ≡ Some op → IsWordOf (kinds_in p op) (words o)
  pub held : (o : ℕ) (op : OpForm) → slice_get p.ops o ≡ Some op → IsHeldAs (kinds_in p op) (words o) (is o)
  pub net : IsNet p inputs caps words (bounded p inputs left words)
  pub taken : (o : ℕ) (op : OpForm) → slice_get p.ops o ≡ Some op → (port : ℕ) (q : Name) → slice_get op.reads port ≡ Some q
      → length (list_at (ts o).received port) ≡ length ((bounded p inputs left words).taken q)
  pub sends : (o : ℕ) (op : OpForm) → slice_get p.ops o ≡ Some op → (j : ℕ) (q : Name) → slice_get op.writes j ≡ Some q
      → length (list_at (ts o).sent j) ≡ length (sent (bounded p inputs left words) q)
  pub pends : (o : ℕ) (op : OpForm) → slice_get p.ops o ≡ Some op → (j : ℕ) (q : Name) → slice_get op.writes j ≡ Some q
      → length (list_at (ts o).pending j) ≡ length ((bounded p inputs left words).pending q)
  pub lies : (q : Name) → length (left q) ≡ length ((bounded p inputs left words).left q)

-- Tasks join: whatever facts they keep of themselves alone, once the rings tell what lies between them.
abbrev pub TasksJoin : Type 0
TasksJoin =
    (p : PlanForm) (inputs : List (List item.Item)) (caps : Capacities) (adds : ℕ → ℕ → List (List ℤ)) (ts : ℕ → SeenTask) (left : History) (is : ℕ → Word)
    → IsPlan p → AreInputs p.inputs inputs
    → ((o : ℕ) (op : OpForm) → slice_get p.ops o ≡ Some op → HasFired p op (adds o) (ts o) (is o))
    → AreBeside p inputs caps ts left → Joins p inputs caps ts left is
