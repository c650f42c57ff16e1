-- Queues and variables by their places among the names of a plan.
use Rattle.std.specs.Prelude.{ℕ, suc, List, [], ◌∷◌, ◌++◌, map, replicate, if◌then◌else◌}
use Rattle.river_base.specs.Name.{name_eq}
use Rattle.river_base.specs.Places.{only, each_grew}
use Rattle.river_plan.specs.Forms.{Name, OpForm, PlanForm, queue_names, variable_names}
use Rattle.river_plan.specs.declared.wiring.Role.{Role}
use Rattle.river_plan.specs.declared.wiring.Role.TheVariants as role

-- where the name stands first; the length of the list where it does not stand there
abbrev pub place : List Name → Name → ℕ
place [] q = 0
place (w ∷ ws) q = if name_eq w q then 0 else suc (place ws q)

abbrev pub places : List Name → List Name → List ℕ
places names qs = map (place names) qs

-- the names that have this role at an operator
abbrev pub names_of : Role → OpForm → List Name
names_of role.Reads op = op.reads
names_of role.Writes op = op.writes
names_of role.Vars op = op.vars

-- operator by operator, the places of the queues that it reads and writes, port by port, and of its variables
abbrev pub read_places : PlanForm → List (List ℕ)
read_places p = map (λ op. places (queue_names p) op.reads) p.ops

abbrev pub write_places : PlanForm → List (List ℕ)
write_places p = map (λ op. places (queue_names p) op.writes) p.ops

abbrev pub var_places : PlanForm → List (List ℕ)
var_places p = map (λ op. places (variable_names p) op.vars) p.ops

-- the number n, as often as i stands in the list
abbrev pub as_often : List ℕ → ℕ → ℕ → List ℕ
as_often [] n i = []
as_often (x ∷ xs) n i = only x (n ∷ []) i ++ as_often xs n i

-- the numbers of the lists in which i stands, each as often as it stands there; the first list has number n
abbrev pub users_from : ℕ → List (List ℕ) → ℕ → List ℕ
users_from n [] i = []
users_from n (l ∷ ls) i = as_often l n i ++ users_from (suc n) ls i

-- the same for each of the first m places
abbrev pub users : ℕ → List (List ℕ) → List (List ℕ)
users m ls = each_grew (replicate m []) (users_from 0 ls)
