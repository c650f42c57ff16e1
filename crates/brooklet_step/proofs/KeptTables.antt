-- What tables keep, from the first firing to the end of a run.
use Rattle.std.proofs.Common.{◌≡◌, ℕ, zero, suc, ℤ, ◌<◌, ◌≤◌, Some, List, [], ◌∷◌, ◌++◌, length, map, fold, refl, sym, ap, ◌∙◌, append_assoc}
use Rattle.std.specs.Prelude.{slice_get}
use Rattle.std.proofs.lemmas.List.{append-nil}
use Rattle.std.proofs.lemmas.Option.{same_Some}
use Rattle.river_base.specs.declared.item.Item as item
use Rattle.river_base.specs.Bags.{SameBag}
use Rattle.river_base.specs.Places.{list_at}
use Rattle.kern_tables.specs.declared.kind.TableKind.{TableKind}
use Rattle.kern_tables.specs.declared.kept.Aggregate.{Aggregate}
use Rattle.kern_tables.specs.Kept.{kept_of, with_row, rows_of, width_of_table}
use Rattle.kern_tables.specs.Tables.{table_width, tab}
use Rattle.kern_tables.proofs.Tabs.{kept_more, kept_rows, kept_of_bag, kept_kind}
use Rattle.river_plan.specs.declared.plan.TableDecl.{TableDecl}
use Rattle.river_plan.specs.Forms.{Name, PlanForm, table_names}
use Rattle.river_plan.specs.Names.{count}
use Rattle.river_plan.specs.Places.{place, places}
use Rattle.brooklet_model.specs.Histories.{joined, all_adds}
use Rattle.brooklet_model.specs.Meaning.{meaning}
use Rattle.brooklet_model.proofs.Traces.{got_count}
use Rattle.brooklet_step.specs.ByPlace.{joined_at}
use Rattle.brooklet_step.specs.Tables.{kept_tables, defined_tables, each_added}
use Rattle.brooklet_step.proofs.QueuePlaces.{place_is, joined_places, joined_cong_below}

-- ONE TABLE

-- rows are added one after another
pub all_added : (kind : TableKind) (xs ys : List (List ℤ)) → fold with_row (kept_of kind xs) ys ≡ kept_of kind (xs ++ ys)
all_added kind xs [] = ap (kept_of kind) (sym (append-nil xs))
all_added kind xs (y ∷ ys) =
    ap (λ t. fold with_row t ys) (sym (kept_more kind xs y)) ∙ all_added kind (xs ++ y ∷ []) ys ∙ ap (kept_of kind) (append_assoc xs (y ∷ []) ys)

-- its rows are as wide as the plan says
pub kept_width : (kind : TableKind) (xs : List (List ℤ)) → width_of_table (kept_of kind xs) ≡ table_width kind
kept_width kind xs = ap table_width (kept_kind kind xs)

-- ALL TABLES

-- the declaration of what is kept at a place
pub kept_at : (ts : List TableDecl) (rows : Name → List (List ℤ)) (i : ℕ) (k : Aggregate) → slice_get (kept_tables ts rows) i ≡ Some k
    → (t : TableDecl) × (slice_get ts i ≡ Some t) × (k ≡ kept_of t.kind (rows t.name))
kept_at [] rows i k g = absurd (cc g)
kept_at (t ∷ ts) rows zero k g = (t, refl, sym (same_Some (kept_of t.kind (rows t.name)) k g))
kept_at (t ∷ ts) rows (suc i) k g = kept_at ts rows i k g

got_name : (ts : List TableDecl) (i : ℕ) (t : TableDecl) → slice_get ts i ≡ Some t → slice_get (table_names ts) i ≡ Some t.name
got_name [] i t g = absurd (cc g)
got_name (u ∷ us) zero t g = ap (λ (x : TableDecl). Some x.name) (same_Some u t g)
got_name (u ∷ us) (suc i) t g = got_name us i t g

each_next : (ts : List TableDecl) (rows rows' : Name → List (List ℤ)) (f : ℕ → List (List ℤ))
    → ((i : ℕ) (t : TableDecl) → slice_get ts i ≡ Some t → rows t.name ++ f i ≡ rows' t.name) → each_added (kept_tables ts rows) f ≡ kept_tables ts rows'
each_next [] rows rows' f h = refl
each_next (t ∷ ts) rows rows' f h =
    let a : fold with_row (kept_of t.kind (rows t.name)) (f 0) ≡ kept_of t.kind (rows' t.name) = all_added t.kind (rows t.name) (f 0)
    ∙ ap (kept_of t.kind) (h 0 t refl) in
    let b = each_next ts rows rows' (λ p. f (suc p)) (λ i u g. h (suc i) u g) in
    λ i. a i ∷ b i

-- a firing: what an operator gives for each of its tables comes to the tables at their places
pub kept_next : (tables : List TableDecl) (mine : List Name) (rows : Name → List (List ℤ)) (f : ℕ → List (List ℤ)) (adds : List (List (List ℤ)))
    → ((n : Name) → count n (table_names tables) ≤ 1) → ((n : Name) → 0 < count n mine → 0 < count n (table_names tables))
    → ((j : ℕ) → j < length mine → list_at adds j ≡ f j)
    → each_added (kept_tables tables rows) (joined_at (places (table_names tables) mine) (list_at adds)) ≡ kept_tables tables (λ n. rows n ++ joined mine f n)
kept_next tables mine rows f adds once declared same =
    let names = table_names tables in
    each_next tables rows (λ n. rows n ++ joined mine f n) (joined_at (places names mine) (list_at adds))
    (λ i t g.
    let n : slice_get names i ≡ Some t.name = got_name tables i t g in
    let there : 0 < count t.name names = got_count names i t.name n in
    let at : place names t.name ≡ i = place_is names i t.name (once t.name) there n in
    ap (λ l. rows t.name ++ l)
    (ap (joined_at (places names mine) (list_at adds)) (sym at) ∙ joined_places names mine (list_at adds) t.name declared there
    ∙ joined_cong_below mine (list_at adds) f t.name same))

-- THE END OF A RUN

-- what tables keep is a function of the bags of their rows
pub kept_of_bags : (ts : List TableDecl) (rows rows' : Name → List (List ℤ)) → ((n : Name) → SameBag (rows n) (rows' n))
    → kept_tables ts rows ≡ kept_tables ts rows'
kept_of_bags [] rows rows' h = refl
kept_of_bags (t ∷ ts) rows rows' h = λ i. kept_of_bag t.kind (rows t.name) (rows' t.name) (h t.name) i ∷ kept_of_bags ts rows rows' h i

rows_are : (ts : List TableDecl) (rows : Name → List (List ℤ)) → map rows_of (kept_tables ts rows) ≡ map (λ (t : TableDecl). tab t.kind (rows t.name)) ts
rows_are [] rows = refl
rows_are (t ∷ ts) rows = λ i. kept_rows t.kind (rows t.name) i ∷ rows_are ts rows i

-- the rows of the defined tables are what the plan means
pub defined_rows : (p : PlanForm) (inputs : List (List item.Item)) → map rows_of (defined_tables p inputs) ≡ (meaning p inputs).tables
defined_rows p inputs = rows_are p.tables (all_adds p inputs)
