-- The names that declarations give, and what stands for a name.
use Rattle.std.proofs.Common.{◌≡◌, ◌+◌, ◌<◌, Some, None, List, [], ◌∷◌, ◌++◌, refl, ap, ◌∙◌, arith, ⊎_elim}
use Rattle.std.proofs.lemmas.List.{map-append}
use Rattle.river_base.specs.Name.{name_eq}
use Rattle.river_base.proofs.PlaceLemmas.{if_true, if_false}
use Rattle.river_kernels.specs.declared.types.VarKind.TheVariants.{Private, Table}
use Rattle.river_plan.specs.declared.plan.TableDecl.{TableDecl}
use Rattle.river_plan.specs.declared.plan.Decl.{Decl}
use Rattle.river_plan.specs.Forms.{Name, decl_names, table_names}
use Rattle.river_plan.specs.Kinds.{table_in, table_width, private_in}
use Rattle.river_plan.specs.Names.{one_if, count}
use Rattle.river_plan.proofs.NameLemmas.{cases_name}

-- the names of two lists of declarations
pub names_append : (xs ys : List Decl) → decl_names (xs ++ ys) ≡ decl_names xs ++ decl_names ys
names_append xs ys = map-append (λ (d : Decl). d.name) xs ys

-- a name among the private variables is private
pub private_there : (vs : List Name) (v : Name) → 0 < count v vs → private_in vs v ≡ Some Private
private_there [] v lt = absurd (omega (arith, lt))
private_there (w ∷ vs) v lt = ⊎_elim
    (λ c. if_true (name_eq w v) (Some Private) (private_in vs v) c.1)
    (λ c. if_false (name_eq w v) (Some Private) (private_in vs v) c.1 ∙ private_there vs v (let z = ap one_if c.1 in omega (arith, z, lt)))
    (cases_name w v)

-- a name that is not among the tables is none
pub no_table : (ts : List TableDecl) (v : Name) → count v (table_names ts) ≡ 0 → table_in ts v ≡ None
no_table [] v z = refl
no_table (t ∷ ts) v z = ⊎_elim
    (λ c. absurd (let e = ap one_if c.1 in omega (arith, e, z)))
    (λ c. if_false (name_eq t.name v) (Some (Table (table_width t.kind))) (table_in ts v) c.1 ∙ no_table ts v (omega (arith, z)))
    (cases_name t.name v)
