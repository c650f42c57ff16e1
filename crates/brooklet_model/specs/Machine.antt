-- Brooklet's machine: queues, variables, and firings in any order (Soulé and others, ESOP 2010).
use Rattle.std.specs.Prelude.{◌≡◌, ℕ, ℤ, ◌+◌, ◌<◌, nat_eq, if◌then◌else◌, Option, Some, None, List, [], ◌∷◌, ◌++◌, length, slice_get}
use Rattle.river_base.specs.declared.item.Item as item
use Rattle.river_base.specs.Name.{name_eq}
use Rattle.river_base.specs.Places.{list_at}
use Rattle.river_plan.specs.Forms.{Name, OpForm, PlanForm, decl_names, table_names}
use Rattle.brooklet_model.specs.Firings.{Kept}
use Rattle.brooklet_model.specs.Fire.{fire, first_kept}
use Rattle.brooklet_model.specs.Histories.{History, joined, tables_of, inputs_of}

-- all items ever put into each queue, how many of them were taken, the states of each
-- operator's private variables, and the rows added to each table
pub record Machine : Type 0 where
  pub hist : History
  pub taken : Name → ℕ
  pub kept : ℕ → List Kept
  pub rows : Name → List (List ℤ)

-- the function with another value at one number, or at one name
abbrev pub at_key : {A : Type 0} → ℕ → A → (ℕ → A) → ℕ → A
at_key k v f q = if nat_eq k q then v else f q

abbrev pub at_name : {A : Type 0} → Name → A → (Name → A) → Name → A
at_name k v f q = if name_eq k q then v else f q

-- operator number o takes the item x at its port p, from queue q
abbrev pub fired : List Name → ℕ → OpForm → ℕ → Name → item.Item → Machine → Machine
fired tables o op p q x s =
    let r = fire op.kernel p x (s.kept o) in
    record {
      hist = λ n. s.hist n ++ joined op.writes r.outs n;
      taken = at_name q (s.taken q + 1) s.taken;
      kept = at_key o r.states s.kept;
      rows = λ t. s.rows t ++ joined (tables_of tables op) r.adds t;
    }

-- one firing: operator number o takes the front item of the queue at its port p
pub record Step (p : PlanForm) (s : Machine) (o port : ℕ) (s' : Machine) : Type 0 where
  pub op : OpForm
  pub queue : Name
  pub item : item.Item
  pub op_is : slice_get p.ops o ≡ Some op
  pub queue_is : slice_get op.reads port ≡ Some queue
  pub item_is : slice_get (s.hist queue) (s.taken queue) ≡ Some item
  pub after : s' ≡ fired (table_names p.tables) o op port queue item s

-- operator number o has at its port p an item that is not taken
pub record HasItem (p : PlanForm) (s : Machine) (o port : ℕ) : Type 0 where
  pub op : OpForm
  pub queue : Name
  pub op_is : slice_get p.ops o ≡ Some op
  pub queue_is : slice_get op.reads port ≡ Some queue
  pub item : s.taken queue < length (s.hist queue)

-- firings one after another, each an operator and a port
abbrev pub Run : PlanForm → Machine → List (ℕ × ℕ) → Machine → Type 0
Run p s [] s' = s' ≡ s
Run p s (e ∷ es) s' = (m : Machine) × Step p s e.0 e.1 m × Run p m es s'

-- no operator has an item that is not taken
abbrev pub IsComplete : PlanForm → Machine → Type 0
IsComplete p s = (o port : ℕ) (op : OpForm) (q : Name) → slice_get p.ops o ≡ Some op → slice_get op.reads port ≡ Some q → s.taken q ≡ length (s.hist q)

abbrev pub first_kept_of : Option OpForm → List Kept
first_kept_of None = []
first_kept_of (Some op) = first_kept op.kernel

-- before the first firing: the inputs have these lists, and nothing else is there
abbrev pub start : PlanForm → List (List item.Item) → Machine
start p inputs = record {
  hist = inputs_of (decl_names p.inputs) (list_at inputs);
  taken = λ q. 0;
  kept = λ o. first_kept_of (slice_get p.ops o);
  rows = λ t. [];
}

-- how often operator o stands in a run
abbrev pub times : ℕ → List (ℕ × ℕ) → ℕ
times o [] = 0
times o (e ∷ es) = (if nat_eq e.0 o then 1 else 0) + times o es
