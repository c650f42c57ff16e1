-- What a net of operators keeps: its numbers are those of a bounded state, whose histories and states the named run reaches.
use Rattle.std.specs.Prelude.{◌≡◌, ℕ, ◌+◌, List, [], ◌∷◌, ◌++◌, Some, slice_get, length}
use Rattle.river_base.specs.declared.item.Item as item
use Rattle.river_base.specs.Bags.{SameBag}
use Rattle.river_plan.specs.Forms.{Name, OpForm, PlanForm, table_names}
use Rattle.river_plan.specs.Uses.{total, writes_it, reads_it}
use Rattle.brooklet_model.specs.Bounded.{Bounded, Capacities, history, sent, IsWithinCapacities}
use Rattle.brooklet_model.specs.Machine.{Machine, at_key}
use Rattle.brooklet_model.specs.Received.{rows_added, hist_by, AreWords, Reaches}
use Rattle.brooklet_model.specs.Traced.{ran}
use Rattle.brooklet_model.specs.Words.{Word, at_port}

-- a bounded state in which each operator received its word
pub record IsNet (p : PlanForm) (inputs : List (List item.Item)) (caps : Capacities) (ws : ℕ → Word) (b : Bounded) : Type 0 where
  pub words : AreWords p inputs ws
  pub histories : (q : Name) → history b q ≡ hist_by p inputs ws q
  pub taken : (o : ℕ) (op : OpForm) → slice_get p.ops o ≡ Some op → (port : ℕ) (q : Name) → slice_get op.reads port ≡ Some q
      → b.taken q ≡ at_port port (ws o)
  pub unread : (q : Name) → total (reads_it q) p.ops ≡ 0 → b.taken q ≡ []
  pub unwritten : (q : Name) → total (writes_it q) p.ops ≡ 0 → b.pending q ≡ []
  pub kept : (o : ℕ) (op : OpForm) → slice_get p.ops o ≡ Some op → b.kept o ≡ (ran op (ws o)).states
  pub rows : (t : Name) → SameBag (b.rows t) (rows_added (table_names p.tables) 0 p.ops ws t)
  pub within : IsWithinCapacities p caps b

-- the words with one more firing of operator o
abbrev pub and_took : ℕ → ℕ → item.Item → (ℕ → Word) → ℕ → Word
and_took o port x ws = at_key o (ws o ++ (port, x) ∷ []) ws

-- how many items were sent to these queues
abbrev pub sent_count_in : Bounded → List Name → ℕ
sent_count_in b [] = 0
sent_count_in b (q ∷ qs) = length (sent b q) + sent_count_in b qs

-- the named run leads to the histories and states of the bounded state, to what was taken there, and to its tables as bags
pub record Leads (p : PlanForm) (inputs : List (List item.Item)) (ws : ℕ → Word) (b : Bounded) (s : Machine) : Type 0 where
  pub reaches : Reaches p inputs ws s
  pub hist : (q : Name) → s.hist q ≡ history b q
  pub kept : (o : ℕ) (op : OpForm) → slice_get p.ops o ≡ Some op → s.kept o ≡ b.kept o
  pub taken : (o : ℕ) (op : OpForm) → slice_get p.ops o ≡ Some op → (port : ℕ) (q : Name) → slice_get op.reads port ≡ Some q
      → s.taken q ≡ length (b.taken q)
  pub rows : (t : Name) → SameBag (s.rows t) (b.rows t)
