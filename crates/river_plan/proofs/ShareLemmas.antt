-- What holds of each operator, and variables counted over all.
use Rattle.std.proofs.Common.{◌≡◌, List, [], ◌∷◌, ◌++◌, refl, arith}
use Rattle.river_plan.specs.Forms.{Name, OpForm}
use Rattle.river_plan.specs.Names.{count}
use Rattle.river_plan.specs.Uses.{Each, total, vars_it, all_vars}
use Rattle.river_plan.proofs.NameLemmas.{count-append}

-- what holds of the operators of two lists
pub each_append : (P : OpForm → Type 0) (xs ys : List OpForm) → Each P xs → Each P ys → Each P (xs ++ ys)
each_append P [] ys a b = b
each_append P (x ∷ xs) ys a b = (a.0, each_append P xs ys a.1 b)

-- what holds of all holds of the first ones
pub each_front : (P : OpForm → Type 0) (xs ys : List OpForm) → Each P (xs ++ ys) → Each P xs
each_front P [] ys h = tt
each_front P (x ∷ xs) ys h = (h.0, each_front P xs ys h.1)

-- what holds of all holds of the last ones
pub each_back : (P : OpForm → Type 0) (xs ys : List OpForm) → Each P (xs ++ ys) → Each P ys
each_back P [] ys h = h
each_back P (x ∷ xs) ys h = each_back P xs ys h.1

-- how often operators use a variable
pub total-vars : (v : Name) (ops : List OpForm) → total (vars_it v) ops ≡ count v (all_vars ops)
total-vars v [] = refl
total-vars v (op ∷ ops) = let e = total-vars v ops in let f = count-append v op.vars (all_vars ops) in omega (arith, e, f)
