-- Types and limits of operators that stay, where declarations change.
use Rattle.std.proofs.Common.{◌≡◌, ℕ, suc, ◌+◌, ◌<◌, ◌≤◌, false, Some, List, [], ◌∷◌, ◌++◌, length, refl, sym, ap, ◌∙◌, subst, arith, ⊎_elim, map, nat_lt}
use Rattle.std.specs.Prelude.{if◌then◌else◌, All, filter, flat_map, unwrap_or}
use Rattle.std.proofs.lemmas.Bool.{cases_lt}
use Rattle.std.proofs.lemmas.List.Elements.{All-head, All-tail, All-cons, All-nil, All-append}
use Rattle.river_plan.proofs.DeclLemmas.{private_there, no_table}
use Rattle.river_base.proofs.PlaceLemmas.{if_lt, if_ge, if_true, if_false}
use Rattle.river_base.specs.Name.{name_eq}
use Rattle.river_base.specs.declared.kind.QueueType.{QueueType}
use Rattle.river_kernels.specs.Limits.{either}
use Rattle.river_kernels.specs.Fits.{Fits, rows}
use Rattle.river_kernels.specs.declared.types.VarKind.{VarKind}
use Rattle.river_kernels.specs.declared.types.VarKind.TheVariants.{Private, Table}
use Rattle.river_plan.specs.declared.plan.Decl.{Decl}
use Rattle.river_plan.specs.declared.plan.TableDecl.{TableDecl}
use Rattle.river_plan.specs.Forms.{Name, OpForm, decl_names, table_names}
use Rattle.river_plan.specs.Names.{count, one_if}
use Rattle.river_plan.specs.Uses.{Each, total, writes_it, reads_it}
use Rattle.river_plan.specs.Kinds.{kind_in, kind_of, private_in, var_kind, FitsAt}
use Rattle.river_plan.proofs.NameLemmas.{cases_name, count-append}
use Rattle.plan_edits.proofs.Lookups.{kind_in-append}
use Rattle.brooklet_model.proofs.Solutions.{count_here}
use Rattle.brooklet_model.proofs.Ports.{tables_in}
use Rattle.plan_edits.specs.Lists.{undeclared}
use Rattle.plan_edits.proofs.Lookups.{map_agree, table_there}

-- what an operator fits depends on the types of what it reads and writes alone
pub fits_agree : (kind kind' : Name → QueueType) (var : Name → VarKind) (op : OpForm)
    → ((x : Name) → 0 < count x op.reads + count x op.writes → kind x ≡ kind' x) → FitsAt kind var op → FitsAt kind' var op
fits_agree kind kind' var op e h =
    subst (λ l. Fits op.kernel l (map kind' op.writes) (map var op.vars)) (map_agree kind kind' op.reads (λ x lt. e x (omega (arith, lt))))
    (subst (λ l. Fits op.kernel (map kind op.reads) l (map var op.vars)) (map_agree kind kind' op.writes (λ x lt. e x (omega (arith, lt)))) h)

-- the same for all of these operators
pub each_fits : (kind kind' : Name → QueueType) (var : Name → VarKind) (ops : List OpForm)
    → ((x : Name) → 0 < total (reads_it x) ops + total (writes_it x) ops → kind x ≡ kind' x) → Each (FitsAt kind var) ops → Each (FitsAt kind' var) ops
each_fits kind kind' var [] e h = tt
each_fits kind kind' var (op ∷ ops) e h =
    (fits_agree kind kind' var op (λ x lt. e x (omega (arith, lt))) h.0, each_fits kind kind' var ops (λ x lt. e x (omega (arith, lt))) h.1)

-- how often a name is still declared
pub undeclared_count : (q x : Name) (ds : List Decl) → 0 < count q (decl_names ds)
    → count x (decl_names (undeclared q ds)) + one_if (name_eq q x) ≡ count x (decl_names ds)
undeclared_count q x [] lt = absurd (omega (arith, lt))
undeclared_count q x (d ∷ ds) lt = ⊎_elim
    (λ c. let e = ap (λ l. count x (decl_names l)) (if_true (name_eq d.name q) ds (d ∷ undeclared q ds) c.1) in let f =
    ap (λ n. one_if (name_eq n x)) c.0 in omega (arith, e, f))
    (λ c.
    let e = ap (λ l. count x (decl_names l)) (if_false (name_eq d.name q) ds (d ∷ undeclared q ds) c.1) in
    let z = ap one_if c.1 in
    let i = undeclared_count q x ds (omega (arith, z, lt)) in
    omega (arith, e, i))
    (cases_name d.name q)

-- the types of other names stay
pub undeclared_kind : (q x : Name) (ds : List Decl) → name_eq q x ≡ false → kind_in (undeclared q ds) x ≡ kind_in ds x
undeclared_kind q x [] n = refl
undeclared_kind q x (d ∷ ds) n = ⊎_elim
    (λ c. ap (λ l. kind_in l x) (if_true (name_eq d.name q) ds (d ∷ undeclared q ds) c.1)
    ∙ sym (if_false (name_eq d.name x) (Some d.kind) (kind_in ds x) (ap (λ m. name_eq m x) c.0 ∙ n)))
    (λ c. ap (λ l. kind_in l x) (if_false (name_eq d.name q) ds (d ∷ undeclared q ds) c.1)
    ∙ ap (λ o. if name_eq d.name x then Some d.kind else o) (undeclared_kind q x ds n))
    (cases_name d.name q)

-- the type of a name in three lists, of which the last changes
pub kind_last : (os is ds ds' : List Decl) (x : Name) → kind_in ds' x ≡ kind_in ds x → kind_of (os ++ (is ++ ds')) x ≡ kind_of (os ++ (is ++ ds)) x
kind_last os is ds ds' x e =
    let f : (l : List Decl) → kind_in (os ++ (is ++ l)) x ≡ either (kind_in os x) (either (kind_in is x) (kind_in l x)) =
    λ l. kind_in-append os (is ++ l) x ∙ ap (either (kind_in os x)) (kind_in-append is l x) in
    ap (λ o. unwrap_or o (rows 0)) (f ds' ∙ ap (λ o. either (kind_in os x) (either (kind_in is x) o)) e ∙ sym (f ds))

-- what holds of all declarations holds of those that are left
pub all_undeclared : (P : Decl → Type 0) (q : Name) (ds : List Decl) → All P ds → All P (undeclared q ds)
all_undeclared P q [] h = h
all_undeclared P q (d ∷ ds) h = ⊎_elim
    (λ c. subst (All P) (sym (if_true (name_eq d.name q) ds (d ∷ undeclared q ds) c.1)) (All-tail P d ds h))
    (λ c. subst (All P) (sym (if_false (name_eq d.name q) ds (d ∷ undeclared q ds) c.1))
    (All-cons P d (undeclared q ds) (All-head P d ds h) (all_undeclared P q ds (All-tail P d ds h))))
    (cases_name d.name q)

-- no more declarations than before
pub undeclared_length : (q : Name) (ds : List Decl) → length (undeclared q ds) ≤ length ds
undeclared_length q [] = omega arith
undeclared_length q (d ∷ ds) = ⊎_elim
    (λ c. let e = ap length (if_true (name_eq d.name q) ds (d ∷ undeclared q ds) c.1) in omega (arith, e))
    (λ c. let e = ap length (if_false (name_eq d.name q) ds (d ∷ undeclared q ds) c.1) in let i = undeclared_length q ds in omega (arith, e, i))
    (cases_name d.name q)

-- an operator has as many tables as its variables that are tables
pub tables_length : (ts : List TableDecl) (ps vs : List Name) → ((v : Name) → 0 < count v vs → 0 < count v (table_names ts ++ ps))
    → length (filter (λ v. nat_lt 0 (count v (table_names ts))) vs) ≡ tables_in (map (var_kind ts ps) vs)
tables_length ts ps [] d = refl
tables_length ts ps (v ∷ vs) d =
    let i = tables_length ts ps vs (λ x lt. d x (omega (arith, lt))) in
    let rest = filter (λ x. nat_lt 0 (count x (table_names ts))) vs in
    ⊎_elim
    (λ lt.
    let t = table_there ts v lt in
    let k : var_kind ts ps v ≡ Table t.0 = ap (λ o. unwrap_or (either o (private_in ps v)) (Table 0)) t.1 in
    ap length (if_lt 0 (count v (table_names ts)) (v ∷ rest) rest lt) ∙ ap suc i
    ∙ sym (ap (λ m. tables_in (m ∷ map (var_kind ts ps) vs)) k
    ∙ (let e : 1 + tables_in (map (var_kind ts ps) vs) ≡ suc (tables_in (map (var_kind ts ps) vs)) = omega arith in e)))
    (λ ge.
    let z : count v (table_names ts) ≡ 0 = omega (arith, ge) in
    let p : 0 < count v ps = (let a = count-append v (table_names ts) ps in let b = d v (count_here v vs) in omega (arith, a, b, z)) in
    let k : var_kind ts ps v ≡ Private = ap (λ o. unwrap_or (either o (private_in ps v)) (Table 0)) (no_table ts v z)
    ∙ ap (λ o. unwrap_or o (Table 0)) (private_there ps v p) in
    ap length (if_ge 0 (count v (table_names ts)) (v ∷ rest) rest ge) ∙ i ∙ sym (ap (λ m. tables_in (m ∷ map (var_kind ts ps) vs)) k))
    (cases_lt 0 (count v (table_names ts)))

-- what holds of two lists holds of the first
pub all_here : {A : Type 0} (P : A → Type 0) (xs ys : List A) → All P (xs ++ ys) → All P xs
all_here P [] ys h = All-nil P
all_here P (x ∷ xs) ys h = All-cons P x xs (All-head P x (xs ++ ys) h) (all_here P xs ys (All-tail P x (xs ++ ys) h))

-- what holds of two lists holds of the second
pub all_there : {A : Type 0} (P : A → Type 0) (xs ys : List A) → All P (xs ++ ys) → All P ys
all_there P [] ys h = h
all_there P (x ∷ xs) ys h = all_there P xs ys (All-tail P x (xs ++ ys) h)

-- what holds of all numbers holds of those of each operator
pub flat_each : (f : OpForm → List ℕ) (P : ℕ → Type 0) (ops : List OpForm) → All P (flat_map f ops) → Each (λ op. All P (f op)) ops
flat_each f P [] h = tt
flat_each f P (op ∷ ops) h = (all_here P (f op) (flat_map f ops) h, flat_each f P ops (all_there P (f op) (flat_map f ops) h))

-- and the other way
pub each_flat : (f : OpForm → List ℕ) (P : ℕ → Type 0) (ops : List OpForm) → Each (λ op. All P (f op)) ops → All P (flat_map f ops)
each_flat f P [] h = All-nil P
each_flat f P (op ∷ ops) h = All-append P (f op) (flat_map f ops) h.0 (each_flat f P ops h.1)

-- the same for one number of each operator
pub map_each : (f : OpForm → ℕ) (P : ℕ → Type 0) (ops : List OpForm) → All P (map f ops) → Each (λ op. P (f op)) ops
map_each f P [] h = tt
map_each f P (op ∷ ops) h = (All-head P (f op) (map f ops) h, map_each f P ops (All-tail P (f op) (map f ops) h))

-- and the other way
pub each_map : (f : OpForm → ℕ) (P : ℕ → Type 0) (ops : List OpForm) → Each (λ op. P (f op)) ops → All P (map f ops)
each_map f P [] h = All-nil P
each_map f P (op ∷ ops) h = All-cons P (f op) (map f ops) h.0 (each_map f P ops h.1)

-- what holds of one number
pub all_one : (P : ℕ → Type 0) (n : ℕ) → P n → All P (n ∷ [])
all_one P n h = All-cons P n [] h (All-nil P)

-- as many as there are operators
pub total_length : (ops : List OpForm) → total (λ op. 1) ops ≡ length ops
total_length [] = refl
total_length (op ∷ ops) = let e = total_length ops in omega (arith, e)
