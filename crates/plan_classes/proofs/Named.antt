-- The operators that use a table, by its place among the variables and by its name.
use Rattle.std.proofs.Common.{◌≡◌, ℕ, zero, suc, ◌+◌, ◌<◌, ◌≤◌, ◌^◌, ℤ, pos, List, [], ◌∷◌, ◌++◌, Some, length, map, cond, slice_index_or, refl, sym, ap, ◌∙◌, arith}
use Rattle.std.specs.Prelude.{nat_lt, slice_get}
use Rattle.std.specs.List.{AllByRecursion}
use Rattle.std.proofs.lemmas.List.{map-append, length-map}
use Rattle.std.proofs.lemmas.Option.{same_Some}
use Rattle.river_kernels.specs.declared.limit.Limit.TheVariants.{Operators, Variables}
use Rattle.river_plan.specs.Forms.{Name, OpForm, PlanForm, table_names, variable_names}
use Rattle.river_plan.specs.Names.{count}
use Rattle.river_plan.specs.Places.{place, places, as_often, users_from, var_places}
use Rattle.river_plan.specs.Valid.{IsPlan}
use Rattle.river_plan.specs.declared.plan.TableDecl.{TableDecl}
use Rattle.river_plan.specs.Uses.{Each, vars_it}
use Rattle.river_plan.proofs.UserCounts.{often-count, often-one, all-append, all-weaker, name_at}
use Rattle.plan_classes.specs.Users.{having}

-- a list of one number at most, which says whether there is one
one_at_most : (xs : List ℕ) (n c : ℕ) (rest : List ℤ) → length xs ≡ c → c ≤ 1 → AllByRecursion (λ y. y ≡ n) xs
    → map pos xs ++ rest ≡ cond (nat_lt 0 c) (pos n ∷ rest) rest
one_at_most [] n c rest e b a = ap (λ k. cond (nat_lt 0 k) (pos n ∷ rest) rest) e
one_at_most (x ∷ []) n c rest e b a = ap (λ y. pos y ∷ rest) a.0 ∙ ap (λ k. cond (nat_lt 0 k) (pos n ∷ rest) rest) e
one_at_most (x ∷ y ∷ ys) n c rest e b a = absurd (omega (arith, e, b))

module _ (names : List Name) (v : Name) (lt : 0 < count v names) where
  -- in a plan in which no variable stands twice in one operator
  pub named : (ops : List OpForm) (n : ℕ) → Each (λ op. (w : Name) → vars_it w op ≤ 1) ops
      → map pos (users_from n (map (λ op. places names op.vars) ops) (place names v)) ≡ having v n ops
  named [] n a = refl
  named (op ∷ ops) n a =
      map-append pos (as_often (places names op.vars) n (place names v)) (users_from (suc n) (map (λ o. places names o.vars) ops) (place names v))
      ∙ (ap (λ l. map pos (as_often (places names op.vars) n (place names v)) ++ l) (named ops (suc n) a.1)
      ∙ one_at_most (as_often (places names op.vars) n (place names v)) n (vars_it v op) (having v (suc n) ops) (often-count names v lt op.vars n) (a.0 v)
      (often-one (places names op.vars) n (place names v)))

-- the numbers are those of operators
pub users_below : (n : ℕ) (ls : List (List ℕ)) (i : ℕ) → AllByRecursion (λ y. y < n + length ls) (users_from n ls i)
users_below n [] i = tt
users_below n (l ∷ ls) i =
    all-append (λ y. y < n + suc (length ls)) (as_often l n i) (users_from (suc n) ls i)
    (all-weaker (λ y. y ≡ n) (λ y. y < n + suc (length ls)) (λ y h. omega (arith, h)) (as_often l n i) (often-one l n i))
    (all-weaker (λ y. y < suc n + length ls) (λ y. y < n + suc (length ls)) (λ y h. omega (arith, h)) (users_from (suc n) ls i) (users_below (suc n) ls i))

-- each of them is below this number
pub all_small : (n : ℕ) (xs : List ℕ) → AllByRecursion (λ y. y < n) xs → (k d : ℕ) → k < length xs → slice_index_or xs k d < n
all_small n [] a k d lt = absurd (omega (arith, lt))
all_small n (x ∷ xs) a zero d lt = a.0
all_small n (x ∷ xs) a (suc k) d lt = all_small n xs a.1 k d (omega (arith, lt))

named_table : (ts : List TableDecl) (vs : List Name) (i : ℕ) (d : TableDecl) → i < length ts
    → slice_get (table_names ts ++ vs) i ≡ Some (slice_index_or ts i d).name
named_table [] vs i d lt = absurd (omega (arith, lt))
named_table (t ∷ ts) vs zero d lt = refl
named_table (t ∷ ts) vs (suc i) d lt = named_table ts vs i d (omega (arith, lt))

long : (ts : List TableDecl) (vs : List Name) → length (table_names ts ++ vs) ≡ length ts + length vs
long [] vs = let e : length vs ≡ 0 + length vs = omega arith in e
long (t ∷ ts) vs = let e = long ts vs in omega (arith, e)

-- those at the place of a table are those that have its name
pub users_named : (p : PlanForm) → IsPlan p → (i : ℕ) (d : TableDecl) → i < length p.tables
    → map pos (users_from 0 (var_places p) i) ≡ having (slice_index_or p.tables i d).name 0 p.ops
users_named p valid i d lt =
    let many = long p.tables p.vars in
    let at = name_at (variable_names p) valid.variables_once [] (variable_names p) i refl (omega (arith, lt, many)) in
    let same : at.0 ≡ (slice_index_or p.tables i d).name = same_Some at.0 (slice_index_or p.tables i d).name (sym at.1 ∙ named_table p.tables p.vars i d lt) in
    let here : place (variable_names p) at.0 ≡ i = (let e = at.3 in omega (arith, e)) in
    ap (λ (k : ℕ). map pos (users_from 0 (var_places p) k)) (sym here)
    ∙ (named (variable_names p) at.0 at.2 p.ops 0 valid.vars_apart ∙ ap (λ (v : Name). having v 0 p.ops) same)

-- a plan has few operators, and few tables
pub few_users : (p : PlanForm) → IsPlan p → (i k d : ℕ) → k < length (users_from 0 (var_places p) i)
    → slice_index_or (users_from 0 (var_places p) i) k d < 2 ^ 63
few_users p valid i k d lt =
    let few : length p.ops ≤ 256 = valid.within Operators 0 0 (omega arith) in
    let many : length (var_places p) ≡ length p.ops = length-map p.ops (λ (op : OpForm). places (variable_names p) op.vars) in
    let small = all_small (0 + length (var_places p)) (users_from 0 (var_places p) i) (users_below 0 (var_places p) i) k d lt in
    omega (arith, few, many, small)

-- a plan has at most 256 tables
pub few_tables : (p : PlanForm) → IsPlan p → length p.tables ≤ 256
few_tables p valid = let few : length p.tables + length p.vars ≤ 256 = valid.within Variables 0 0 (omega arith) in omega (arith, few)
