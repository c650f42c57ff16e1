-- When an operator may be split: what the three ways have in common.
use Rattle.std.specs.Prelude.{◌≡◌, ℕ, ℤ, suc, zero, ◌+◌, ◌<◌, ◌≤◌, Bool, IsTrue, Option, Some, None, List, [], ◌∷◌, map, replicate, All, count_by}
use Rattle.river_base.specs.declared.item.Item as item
use Rattle.river_base.specs.declared.kind.QueueType.{QueueType}
use Rattle.river_kernels.specs.Fits.{Fits}
use Rattle.river_kernels.specs.Formed.{is_width}
use Rattle.river_kernels.specs.Kern.{Kern, deal}
use Rattle.river_kernels.specs.declared.limit.Limit.{Limit}
use Rattle.river_kernels.specs.declared.types.VarKind.{VarKind}
use Rattle.river_kernels.specs.declared.types.VarKind.TheVariants.{Private}
use Rattle.river_plan.specs.Faults.{type_width}
use Rattle.river_plan.specs.Forms.{Name, OpForm, PlanForm, all_decls, queue_names, table_names}
use Rattle.river_plan.specs.Kinds.{kind_of, var_kind}
use Rattle.river_plan.specs.Limits.{most_of, numbers}
use Rattle.river_plan.specs.Names.{count}
use Rattle.river_plan.specs.Uses.{total, named_it, vars_it}
use Rattle.brooklet_model.specs.Firings.{feed}
use Rattle.brooklet_model.specs.Fire.{fire, first_kept}
use Rattle.brooklet_model.specs.Histories.{joined, tables_of}
use Rattle.brooklet_model.specs.Words.{feed_all}
use Rattle.rw_fission.specs.Fission.{Way, equal_weights, replica_op, split_ops, split_by}
use Rattle.rw_fission.specs.Made.{FissionNames, each_name}

-- the types of what a replica writes, and the names of all that they write
abbrev pub given_types : Option (Kern × QueueType) → List QueueType
given_types None = []
given_types (Some j) = j.1 ∷ []

abbrev pub given_names : (ℕ → Name) → ℕ → Option (Kern × QueueType) → List Name
given_names b n None = []
given_names b n (Some j) = each_name b n

-- the output, where there is one, and that the joiner fits
abbrev pub JoinerFits : PlanForm → OpForm → ℕ → Option (Kern × QueueType) → Type 0
JoinerFits p op n None = op.writes ≡ []
JoinerFits p op n (Some j) =
    (out : Name) × (op.writes ≡ out ∷ []) × IsTrue (is_width (type_width j.1)) × Fits j.0 (replicate n j.1) (kind_of (all_decls p) out ∷ []) (Private ∷ [])

-- what is dealt to a replica, and what it gives
abbrev pub dealt_to : ℕ → ℕ → List item.Item → ℕ → List item.Item
dealt_to n share xs i = (feed (fire (deal (equal_weights n share)) 0) xs (first_kept (deal (equal_weights n share)))).outs i

-- the sum of f below n
abbrev pub sum_below : ℕ → (ℕ → ℕ) → ℕ
sum_below zero f = 0
sum_below (suc n) f = f 0 + sum_below n (λ i. f (suc i))

-- whatever lists the joiner is given, if they are what the replicas give on what was dealt, it gives what the operator gives
abbrev pub JoinerGives : (item.Item → Type 0) → OpForm → ℕ → Way → Option (Kern × QueueType) → Type 0
JoinerGives Good op n w None = Unit {0}
JoinerGives Good op n w (Some j) =
    (xs : List item.Item) (h : ℕ → List item.Item) → All Good xs
    → ((i : ℕ) → i < n → h i ≡ (feed (fire w.inner 0) (dealt_to n w.share xs i) (first_kept w.inner)).outs 0)
    → (feed_all j.0 h (first_kept j.0)).outs 0 ≡ (feed (fire op.kernel 0) xs (first_kept op.kernel)).outs 0

pub record Splits (Good : item.Item → Type 0) (p : PlanForm) (l : Name) (op : OpForm) (m : FissionNames)
    (n : ℕ) (source : Name) (t : QueueType) (w : Way) : Type 0 where
  -- the operator, its only input and its outputs
  pub some : 0 < n
  pub reads : op.reads ≡ source ∷ []
  pub kind : kind_of (all_decls p) source ≡ t
  pub ends : JoinerFits p op n w.join
  -- no name stands twice, and no number is above its limit
  pub queues_once : (q : Name) → count q (queue_names (split_by p l op m n t w)) ≤ 1
  pub variables_once : (x : Name) → count x (table_names p.tables) + (count x w.stay + count x w.new) ≤ 1
  pub labels_once : (k : Name) → total (named_it k) (split_by p l op m n t w).ops ≤ 1
  pub within : (limit : Limit) → All (λ k. k ≤ most_of limit) (numbers limit (split_by p l op m n t w))
  -- the kernels fit
  pub deals : Fits (deal (equal_weights n w.share)) (t ∷ []) (replicate n t) (Private ∷ [])
  pub inner : (kind : Name → VarKind) → ((x : Name) → 0 < count x (table_names p.tables) → kind x ≡ var_kind p.tables p.vars x)
      → ((x : Name) → 0 < count x w.new → kind x ≡ Private)
      → (i : ℕ) → i < n → Fits w.inner (t ∷ []) (given_types w.join) (map kind (w.vars i))
  -- variables: those that stay are the plan's but for the operator's own private ones; what is put uses the new ones once each
  pub stay_in : (x : Name) → count x w.stay ≤ count x p.vars
  pub stay_but : (x : Name) → count x op.vars ≡ 0 → count x w.stay ≡ count x p.vars
  pub splitter_new : 0 < count m.splitter w.new
  pub joiner_new : (j : Kern × QueueType) → w.join ≡ Some j → 0 < count m.joiner w.new
  pub put_vars : (x : Name) → count x (table_names p.tables) ≡ 0 → total (vars_it x) (split_ops op m n w) ≡ count x w.new
  pub apart : (i : ℕ) (x : Name) → i < n → count x (w.vars i) ≤ 1
  -- what comes out and what is added
  pub joins : JoinerGives Good op n w w.join
  pub adds : (xs : List item.Item) (x : Name) (test : List ℤ → Bool)
      → sum_below n (λ i. count_by test (joined (tables_of (table_names p.tables) (replica_op w m i))
      (feed (fire w.inner 0) (dealt_to n w.share xs i) (first_kept w.inner)).adds x))
      ≡ count_by test (joined (tables_of (table_names p.tables) op) (feed (fire op.kernel 0) xs (first_kept op.kernel)).adds x)
