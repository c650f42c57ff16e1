-- Which operators use each table of a plan.
use Rattle.std.specs.Prelude.{ℕ, suc, ℤ, pos, nat_lt, List, [], ◌∷◌, map, if◌then◌else◌}
use Rattle.river_plan.specs.Forms.{Name, OpForm, PlanForm}
use Rattle.river_plan.specs.Uses.{vars_it}

-- the numbers of the operators that have the variable; the first of them has number n
abbrev pub having : Name → ℕ → List OpForm → List ℤ
having v n [] = []
having v n (op ∷ ops) = if nat_lt 0 (vars_it v op) then pos n ∷ having v (suc n) ops else having v (suc n) ops

-- for each table, in the order declared, the operators that use it
abbrev pub table_users : PlanForm → List (List ℤ)
table_users p = map (λ t. having t.name 0 p.ops) p.tables
