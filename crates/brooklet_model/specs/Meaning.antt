-- What a plan means: the histories of its outputs, and its tables.
use Rattle.std.specs.Prelude.{ℤ, List, map}
use Rattle.river_base.specs.declared.item.Item as item
use Rattle.kern_tables.specs.Tables.{tab}
use Rattle.river_plan.specs.Forms.{PlanForm, decl_names}
use Rattle.brooklet_model.specs.Histories.{hist, all_adds}

-- the items of each output, in the order of the outputs, and the rows of each table, in the order of the tables
pub record Results : Type 0 where
  pub outs : List (List item.Item)
  pub tables : List (List (List ℤ))

abbrev pub meaning : PlanForm → List (List item.Item) → Results
meaning p inputs = record {
  outs = map (hist p inputs) (decl_names p.outputs);
  tables = map (λ t. tab t.kind (all_adds p inputs t.name)) p.tables;
}
