-- The histories of a plan's queues, operator by operator, and what is added to its tables.
use Rattle.std.specs.Prelude.{◌≡◌, ℕ, ℤ, zero, suc, ◌+◌, ◌-◌, ◌^◌, List, [], ◌∷◌, ◌++◌, length, map, filter, min, nat_lt, if◌then◌else◌}
use Rattle.std.specs.List.{flat_map}
use Rattle.river_base.specs.declared.item.Item as item
use Rattle.river_base.specs.Name.{name_eq}
use Rattle.river_base.specs.Places.{list_at}
use Rattle.river_plan.specs.Forms.{Name, OpForm, PlanForm, decl_names, table_names}
use Rattle.river_plan.specs.Names.{count}
use Rattle.brooklet_model.specs.Firings.{Fired}
use Rattle.brooklet_model.specs.Fire.{first_kept}
use Rattle.brooklet_model.specs.Words.{feed_all}

-- the histories of all queues, by name
abbrev pub History : Type 0
History = Name → List item.Item

-- the lists of these queues, by place; none beyond
abbrev pub lists_of : History → List Name → ℕ → List item.Item
lists_of h [] p = []
lists_of h (r ∷ rs) zero = h r
lists_of h (r ∷ rs) (suc p) = lists_of h rs p

-- all that an operator gives when it is fed with these histories of its inputs
abbrev pub given_on : OpForm → History → Fired
given_on op h = feed_all op.kernel (lists_of h op.reads) (first_kept op.kernel)

-- the histories, with those of these queues anew
abbrev pub written : List Name → (ℕ → List item.Item) → History → History
written [] f h q = h q
written (w ∷ ws) f h q = if name_eq w q then f 0 else written ws (λ j. f (suc j)) h q

-- operator by operator, what each gives on the histories of its inputs
abbrev pub histories : List OpForm → History → History
histories [] h = h
histories (op ∷ ops) h = histories ops (written op.writes (given_on op h).outs h)

-- what these ports or tables give to this name, joined
abbrev pub joined : {A : Type 0} → List Name → (ℕ → List A) → Name → List A
joined [] f t = []
joined (w ∷ ws) f t = (if name_eq w t then f 0 else []) ++ joined ws (λ j. f (suc j)) t

-- the tables among an operator's variables
abbrev pub tables_of : List Name → OpForm → List Name
tables_of tables op = filter (λ v. nat_lt 0 (count v tables)) op.vars

-- what an operator adds to a table, on these histories
abbrev pub own_adds : List Name → History → Name → OpForm → List (List ℤ)
own_adds tables h t op = joined (tables_of tables op) (given_on op h).adds t

-- what all operators add to a table, one after another
abbrev pub adds : List Name → List OpForm → History → Name → List (List ℤ)
adds tables ops h t = flat_map (own_adds tables h t) ops

-- the inputs, by name: nothing elsewhere
abbrev pub inputs_of : List Name → (ℕ → List item.Item) → History
inputs_of names f = written names f (λ q. [])

-- the histories of a plan whose inputs have these lists, in their order
abbrev pub hist : PlanForm → List (List item.Item) → History
hist p inputs = histories p.ops (inputs_of (decl_names p.inputs) (list_at inputs))

abbrev pub all_adds : PlanForm → List (List item.Item) → Name → List (List ℤ)
all_adds p inputs = adds (table_names p.tables) p.ops (hist p inputs)

-- how many items there are in these queues together
abbrev pub lengths : History → List Name → ℕ
lengths h [] = 0
lengths h (r ∷ rs) = length (h r) + lengths h rs

-- how often an operator fires: once for each item of its inputs; a count of 2^63 - 1 stays there
abbrev pub most_firings : ℕ
most_firings = 2 ^ 63 - 1

abbrev pub firings_of : History → OpForm → ℕ
firings_of h op = min most_firings (lengths h op.reads)

abbrev pub firings : PlanForm → List (List item.Item) → List ℕ
firings p inputs = map (firings_of (hist p inputs)) p.ops

-- the queues have these lists, by place
abbrev pub Lists : List Name → (ℕ → List item.Item) → History → Type 0
Lists [] f h = Unit {0}
Lists (w ∷ ws) f h = (h w ≡ f 0) × Lists ws (λ j. f (suc j)) h

-- the operator's equation: what it writes is what it gives on what it reads
abbrev pub Solves : History → OpForm → Type 0
Solves h op = Lists op.writes (given_on op h).outs h
