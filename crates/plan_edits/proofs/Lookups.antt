-- Types of queues and kinds of variables, looked up by name.
use Rattle.std.proofs.Common.{◌≡◌, ℕ, ◌<◌, Some, List, [], ◌∷◌, ◌++◌, refl, sym, ap, ◌∙◌, subst, arith, ⊎_elim, map}
use Rattle.std.specs.Prelude.{if◌then◌else◌, All, unwrap_or, IsTrue}
use Rattle.std.proofs.lemmas.List.Elements.{All-head, All-tail}
use Rattle.river_base.specs.Name.{name_eq}
use Rattle.river_kernels.specs.Limits.{either}
use Rattle.river_kernels.specs.Fits.{rows}
use Rattle.river_kernels.specs.declared.types.VarKind.TheVariants.{Private, Table}
use Rattle.river_plan.specs.declared.plan.Decl.{Decl}
use Rattle.river_plan.specs.declared.plan.TableDecl.{TableDecl}
use Rattle.river_plan.specs.Forms.{Name, decl_names, table_names}
use Rattle.river_plan.specs.Names.{count, one_if}
use Rattle.river_plan.specs.Kinds.{kind_in, kind_of, table_in, table_width, private_in, var_kind}
use Rattle.river_plan.proofs.NameLemmas.{cases_name}
use Rattle.brooklet_model.proofs.Solutions.{count_here}
use Rattle.river_plan.proofs.DeclLemmas.{private_there, no_table}
use Rattle.river_plan.proofs.WiredLemmas.{if_either}
use Rattle.river_base.proofs.PlaceLemmas.{if_true, if_false}
use Rattle.river_kernels.specs.Formed.{is_width}
use Rattle.river_plan.specs.Faults.{HasWidth, type_width}

-- the type of a name in two lists of declarations: the first that has it
pub kind_in-append : (xs ys : List Decl) (q : Name) → kind_in (xs ++ ys) q ≡ either (kind_in xs q) (kind_in ys q)
kind_in-append [] ys q = refl
kind_in-append (x ∷ xs) ys q =
    ap (λ o. if name_eq x.name q then Some x.kind else o) (kind_in-append xs ys q) ∙ if_either (name_eq x.name q) x.kind (kind_in xs q) (kind_in ys q)

-- two functions that agree on all names of a list
pub map_agree : {A : Type 0} (f g : Name → A) (rs : List Name) → ((x : Name) → 0 < count x rs → f x ≡ g x) → map f rs ≡ map g rs
map_agree f g [] e = refl
map_agree f g (r ∷ rs) e = ap (λ y. y ∷ map f rs) (e r (count_here r rs)) ∙ ap (λ l. g r ∷ l) (map_agree f g rs (λ x lt. e x (omega (arith, lt))))

-- a name among the tables is a table of some width
pub table_there : (ts : List TableDecl) (v : Name) → 0 < count v (table_names ts) → (n : ℕ) × (table_in ts v ≡ Some (Table n))
table_there [] v lt = absurd (omega (arith, lt))
table_there (t ∷ ts) v lt = ⊎_elim
    (λ c. (table_width t.kind, if_true (name_eq t.name v) (Some (Table (table_width t.kind))) (table_in ts v) c.1))
    (λ c. let i = table_there ts v (let z = ap one_if c.1 in omega (arith, z, lt)) in
    (i.0, if_false (name_eq t.name v) (Some (Table (table_width t.kind))) (table_in ts v) c.1 ∙ i.1))
    (cases_name t.name v)

-- a queue that is declared has a width
pub kind_sized : (ds : List Decl) (q : Name) → All HasWidth ds → 0 < count q (decl_names ds) → IsTrue (is_width (type_width (kind_of ds q)))
kind_sized [] q h lt = absurd (omega (arith, lt))
kind_sized (d ∷ ds) q h lt = ⊎_elim
    (λ c. subst (λ o. IsTrue (is_width (type_width (unwrap_or o (rows 0))))) (sym (if_true (name_eq d.name q) (Some d.kind) (kind_in ds q) c.1))
    (All-head HasWidth d ds h))
    (λ c. subst (λ o. IsTrue (is_width (type_width (unwrap_or o (rows 0))))) (sym (if_false (name_eq d.name q) (Some d.kind) (kind_in ds q) c.1))
    (kind_sized ds q (All-tail HasWidth d ds h) (let e = ap one_if c.1 in omega (arith, e, lt))))
    (cases_name d.name q)

-- a variable that is no table, and is declared, is private
pub private_is : (ts : List TableDecl) (vars : List Name) (x : Name) → count x (table_names ts) ≡ 0 → 0 < count x vars → var_kind ts vars x ≡ Private
private_is ts vars x z lt =
    ap (λ o. unwrap_or (either o (private_in vars x)) (Table 0)) (no_table ts x z) ∙ ap (λ o. unwrap_or o (Table 0)) (private_there vars x lt)

-- a table is what it is whatever the private variables are
pub table_is : (ts : List TableDecl) (vars vars' : List Name) (x : Name) → 0 < count x (table_names ts) → var_kind ts vars x ≡ var_kind ts vars' x
table_is ts vars vars' x lt =
    let r = table_there ts x lt in
    ap (λ o. unwrap_or (either o (private_in vars x)) (Table 0)) r.1 ∙ sym (ap (λ o. unwrap_or (either o (private_in vars' x)) (Table 0)) r.1)
