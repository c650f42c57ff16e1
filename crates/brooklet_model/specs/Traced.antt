-- The firings of each operator that led to a state of the machine.
use Rattle.std.specs.Prelude.{◌≡◌, ℕ, ℤ, suc, ◌+◌, ◌≤◌, Bool, Some, List, [], ◌∷◌, length, take, count_by, slice_get}
use Rattle.river_plan.specs.Forms.{Name, OpForm}
use Rattle.river_plan.specs.Uses.{total, writes_it}
use Rattle.brooklet_model.specs.Firings.{Fired}
use Rattle.brooklet_model.specs.Fire.{fire, first_kept}
use Rattle.brooklet_model.specs.Histories.{History, joined, tables_of, Lists}
use Rattle.brooklet_model.specs.Machine.{Machine}
use Rattle.brooklet_model.specs.Words.{Word, run, at_port, PortsBelow}

-- sums over the operators with their numbers
abbrev pub sum_numbered : (ℕ → OpForm → ℕ) → ℕ → List OpForm → ℕ
sum_numbered f j [] = 0
sum_numbered f j (op ∷ ops) = f j op + sum_numbered f (suc j) ops

-- all that an operator gives in the firings of a word
abbrev pub ran : OpForm → Word → Fired
ran op w = run (fire op.kernel) w (first_kept op.kernel)

-- what is known of a machine after these firings of each operator
pub record Traced (tables : List Name) (ops : List OpForm) (inputs : History) (s : Machine) (ws : ℕ → Word) : Type 0 where
  pub kept : (o : ℕ) (op : OpForm) → slice_get ops o ≡ Some op → s.kept o ≡ (ran op (ws o)).states
  pub written_by : (o : ℕ) (op : OpForm) → slice_get ops o ≡ Some op → Lists op.writes (ran op (ws o)).outs s.hist
  pub unwritten : (q : Name) → total (writes_it q) ops ≡ 0 → s.hist q ≡ inputs q
  pub below : (o : ℕ) (op : OpForm) → slice_get ops o ≡ Some op → PortsBelow (length op.reads) (ws o)
  pub taken : (o : ℕ) (op : OpForm) → slice_get ops o ≡ Some op → (p : ℕ) (q : Name) → slice_get op.reads p ≡ Some q
      → (at_port p (ws o) ≡ take (s.taken q) (s.hist q)) × (s.taken q ≤ length (s.hist q))
  pub rows : (t : Name) (test : List ℤ → Bool)
      → count_by test (s.rows t) ≡ sum_numbered (λ o op. count_by test (joined (tables_of tables op) (ran op (ws o)).adds t)) 0 ops
