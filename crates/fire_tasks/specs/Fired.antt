-- What an operator received and gave, as its queues hold it: facts on one operator alone.
use Rattle.std.specs.Prelude.{◌≡◌, ℕ, ℤ, ◌<◌, nat_eq, if◌then◌else◌, Option, Some, None, List, [], ◌∷◌, ◌++◌, length, map}
use Rattle.river_base.specs.declared.item.Item as item
use Rattle.river_base.specs.declared.kind.QueueType.{QueueType}
use Rattle.river_base.specs.Places.{list_at}
use Rattle.river_plan.specs.Forms.{OpForm, PlanForm, all_decls}
use Rattle.river_plan.specs.Kinds.{kind_of}
use Rattle.brooklet_model.specs.Fire.{tabs}
use Rattle.brooklet_model.specs.Traced.{ran}
use Rattle.brooklet_model.specs.Typed.{IsWordOf}
use Rattle.brooklet_model.specs.Words.{Word, at_port, PortsBelow}
use Rattle.brooklet_step.specs.Given.{held_at, IsHeldOf, AreHeldOf}

-- what the laws see of a task: port by port what it received, what it sent and what is pending there, and an item that it received and
-- that its port's queue may not hold, with the port. What it added stands in logs
pub record SeenTask : Type 0 where
  pub received : List (List item.Item)
  pub sent : List (List item.Item)
  pub pending : List (List item.Item)
  pub bad : Option (ℕ × item.Item)

-- the types of the queues that an operator reads, and of those that it writes
abbrev pub kinds_in : PlanForm → OpForm → List QueueType
kinds_in p op = map (kind_of (all_decls p)) op.reads

abbrev pub kinds_out : PlanForm → OpForm → List QueueType
kinds_out p op = map (kind_of (all_decls p)) op.writes

-- the ports of a word
abbrev pub ports_of : Word → List ℕ
ports_of [] = []
ports_of (e ∷ es) = e.0 ∷ ports_of es

-- the items `is` are what queues held for the items of the word w: the same ports in order, and at each port what its queue holds for
-- the items that came there
pub record IsHeldAs (types : List QueueType) (w is : Word) : Type 0 where
  pub ports : ports_of w ≡ ports_of is
  pub items : (port : ℕ) → at_port port is ≡ held_at types port [] (at_port port w)

-- the item that failed, at its port
abbrev pub bad_at : ℕ → Option (ℕ × item.Item) → List item.Item
bad_at port None = []
bad_at port (Some e) = if nat_eq e.0 port then e.1 ∷ [] else []

-- its port is there, and the port's queue may not hold it
abbrev pub IsBad : List QueueType → Option (ℕ × item.Item) → Type 0
IsBad kinds None = Unit {0}
IsBad kinds (Some e) = (e.0 < length kinds) × (IsHeldOf kinds e.0 e.1 → ⊥)

-- what the operator gave is what queues hold for what it gives on this word, and what it added, table by table, is what it adds on it
pub record Gave (p : PlanForm) (op : OpForm) (adds : ℕ → List (List ℤ)) (t : SeenTask) (w : Word) : Type 0 where
  pub outs : (j : ℕ) → j < length op.writes → list_at t.sent j ++ list_at t.pending j ≡ held_at (kinds_out p op) j [] ((ran op w).outs j)
  pub adds_are : (j : ℕ) → j < tabs op.kernel → adds j ≡ (ran op w).adds j

-- the operator fired on these items; nothing is said of other operators. What the items stand for it does not know: for every word that
-- they stand for, it gave and added what is defined
pub record HasFired (p : PlanForm) (op : OpForm) (adds : ℕ → List (List ℤ)) (t : SeenTask) (is : Word) : Type 0 where
  pub below : PortsBelow (length op.reads) is
  pub received : (port : ℕ) → list_at t.received port ≡ at_port port is ++ bad_at port t.bad
  pub bad : IsBad (kinds_in p op) t.bad
  pub held : AreHeldOf (kinds_out p op) (λ j. list_at t.sent j ++ list_at t.pending j)
  pub given : (w : Word) → IsWordOf (kinds_in p op) w → IsHeldAs (kinds_in p op) w is → Gave p op adds t w
