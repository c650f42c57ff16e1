-- Plans of the same histories and bags have the same meaning, tables included.
use Rattle.std.proofs.Common.{◌≡◌, ℤ, List, [], ◌∷◌, map, refl, ap, ◌∙◌}
use Rattle.river_base.specs.declared.item.Item as item
use Rattle.kern_tables.specs.Tables.{tab}
use Rattle.kern_tables.proofs.Tabs.{tables_are_of_bags}
use Rattle.river_plan.specs.declared.plan.TableDecl.{TableDecl}
use Rattle.river_plan.specs.Forms.{Name, PlanForm, decl_names, all_decls}
use Rattle.brooklet_model.specs.Histories.{hist, all_adds}
use Rattle.brooklet_model.specs.Meaning.{meaning}
use Rattle.river_base.specs.Bags.{SameBag}
use Rattle.plan_edits.specs.Meaning.{SameOuter, SameMeaning}
use Rattle.plan_edits.proofs.Lookups.{map_agree}
use Rattle.std.specs.Prelude.{All}
use Rattle.river_base.specs.Held.{HasType}
use Rattle.river_plan.specs.Kinds.{kind_of}

-- all items in the plan are of their queues' types
abbrev pub AreTypedHistories : PlanForm → List (List item.Item) → Type 0
AreTypedHistories p inputs = (q : Name) → All (HasType (kind_of (all_decls p) q)) (hist p inputs q)

tables_same : (f g : Name → List (List ℤ)) (ts : List TableDecl) → ((x : Name) → SameBag (f x) (g x))
    → map (λ (t : TableDecl). tab t.kind (f t.name)) ts ≡ map (λ (t : TableDecl). tab t.kind (g t.name)) ts
tables_same f g [] h = refl
tables_same f g (t ∷ ts) h =
    ap (λ x. x ∷ map (λ (u : TableDecl). tab u.kind (f u.name)) ts) (tables_are_of_bags t.kind (f t.name) (g t.name) (h t.name))
    ∙ ap (λ l. tab t.kind (g t.name) ∷ l) (tables_same f g ts h)

-- so both plans have the same meaning
pub meaning_same : (p p' : PlanForm) (inputs : List (List item.Item)) → SameOuter p p' → SameMeaning p p' inputs → meaning p' inputs ≡ meaning p inputs
meaning_same p p' inputs o s =
    let outs : map (hist p' inputs) (decl_names p'.outputs) ≡ map (hist p inputs) (decl_names p.outputs) =
    ap (λ ds. map (hist p' inputs) (decl_names ds)) o.outputs ∙ map_agree (hist p' inputs) (hist p inputs) (decl_names p.outputs) s.hist in
    let tabs : map (λ (t : TableDecl). tab t.kind (all_adds p' inputs t.name)) p'.tables ≡ map
    (λ (t : TableDecl). tab t.kind (all_adds p inputs t.name)) p.tables =
    ap (map (λ (t : TableDecl). tab t.kind (all_adds p' inputs t.name))) o.tables ∙ tables_same (all_adds p' inputs) (all_adds p inputs) p.tables s.adds in
    λ i. record { outs = outs i; tables = tabs i }
