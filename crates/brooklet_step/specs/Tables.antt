-- The tables of a machine, and the rows that a firing adds to them.
use Rattle.std.specs.Prelude.{◌≡◌, ℕ, suc, ℤ, nat_lt, List, [], ◌∷◌, map, filter, fold, length, All, Some, slice_get}
use Rattle.river_base.specs.declared.item.Item as item
use Rattle.river_base.specs.Places.{list_at}
use Rattle.kern_tables.specs.declared.kept.Aggregate.{Aggregate}
use Rattle.kern_tables.specs.Kept.{kept_of, with_row, width_of_table}
use Rattle.river_plan.specs.declared.plan.TableDecl.{TableDecl}
use Rattle.river_plan.specs.Forms.{Name, PlanForm}
use Rattle.brooklet_model.specs.Histories.{all_adds}

-- table by table, what is kept of these rows
abbrev pub kept_tables : List TableDecl → (Name → List (List ℤ)) → List Aggregate
kept_tables tables rows = map (λ t. kept_of t.kind (rows t.name)) tables

-- what is kept of all rows that the operators of a plan add
abbrev pub defined_tables : PlanForm → List (List item.Item) → List Aggregate
defined_tables p inputs = kept_tables p.tables (all_adds p inputs)

-- of the places of variables those of tables: among a plan's variables the tables stand first
abbrev pub table_places : ℕ → List ℕ → List ℕ
table_places tables vars = filter (λ v. nat_lt v tables) vars

-- to each table the rows for its place are added, one after another
abbrev pub each_added : List Aggregate → (ℕ → List (List ℤ)) → List Aggregate
each_added [] f = []
each_added (t ∷ ts) f = fold with_row t (f 0) ∷ each_added ts (λ p. f (suc p))

-- each list of rows is for the table at its place, and has the width of that table
abbrev pub AreFor : List Aggregate → List ℕ → List (List (List ℤ)) → Type 0
AreFor tables to adds = (j p : ℕ) (t : Aggregate) → slice_get to j ≡ Some p → slice_get tables p ≡ Some t
    → All (λ row. length row ≡ width_of_table t) (list_at adds j)
