-- How many items queues hold at most.
use Rattle.std.specs.Prelude.{◌≡◌, ℕ, ◌≤◌, List, [], ◌∷◌, ◌++◌, All, Option, Some, None, unwrap_or, if◌then◌else◌}
use Rattle.indexmap.specs.IndexMap.{IndexMap, get}
use Rattle.river_base.specs.Name.{name_eq}
use Rattle.river_plan.specs.Forms.{Name}
use Rattle.river_plan.specs.declared.caps.Cap.{Cap}
use Rattle.river_plan.specs.declared.caps.CapsByName.{CapsByName}
use Rattle.river_plan.specs.declared.plan.Decl.{Decl}

-- the capacities of queues that have one of their own
abbrev pub OwnCaps : Type 0
OwnCaps = Name → Option ℕ

-- the number of the first entry with this name, if there is one
abbrev pub first_cap : List Cap → OwnCaps
first_cap [] q = None
first_cap (c ∷ cs) q = if name_eq c.queue q then Some c.most else first_cap cs q

-- the capacity of a queue: its own, otherwise `cap`
abbrev pub capacity : ℕ → OwnCaps → Name → ℕ
capacity cap own q = unwrap_or (own q) cap

-- the numbers that may be capacities
abbrev pub IsCap : ℕ → Type 0
IsCap n = (1 ≤ n) × (n ≤ 65536)

abbrev pub AreCaps : List Cap → Type 0
AreCaps caps = All (λ c. IsCap c.most) caps

-- what a queue has of its own, if anything, may be one
abbrev pub IsOwnCap : Option ℕ → Type 0
IsOwnCap None = Unit {0}
IsOwnCap (Some n) = IsCap n

-- the entry of a queue with this capacity, if it has one
abbrev pub cap_of : Name → Option ℕ → List Cap
cap_of q None = []
cap_of q (Some n) = record { queue = q; most = n } ∷ []

-- the entries of these queues, each with its own capacity, if it has one
abbrev pub caps_of : OwnCaps → List Decl → List Cap
caps_of own [] = []
caps_of own (d ∷ ds) = cap_of d.name (own d.name) ++ caps_of own ds

-- the map has for each name the number of its first entry
pub record KnowsCaps {S : Type 0} (known : IndexMap Name ℕ S) (caps : List Cap) : Type 0 where
  pub each : (q : Name) → get name_eq known q ≡ first_cap caps q

-- what it gives to each queue
abbrev pub own_of : CapsByName → OwnCaps
own_of by q = get name_eq by.caps q
