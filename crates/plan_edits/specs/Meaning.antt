-- When two plans mean the same.
use Rattle.std.specs.Prelude.{◌≡◌, ◌<◌, List}
use Rattle.river_base.specs.declared.item.Item as item
use Rattle.river_plan.specs.Forms.{Name, PlanForm, decl_names}
use Rattle.river_plan.specs.Names.{count}
use Rattle.river_base.specs.Bags.{SameBag}
use Rattle.brooklet_model.specs.Histories.{hist, all_adds}

-- the plans have the same outputs, inputs and tables
pub record SameOuter (p p' : PlanForm) : Type 0 where
  pub outputs : p'.outputs ≡ p.outputs
  pub inputs : p'.inputs ≡ p.inputs
  pub tables : p'.tables ≡ p.tables

-- on these inputs, the plans give the same histories at the outputs and the same bags of rows to the tables
pub record SameMeaning (p p' : PlanForm) (inputs : List (List item.Item)) : Type 0 where
  pub hist : (q : Name) → 0 < count q (decl_names p.outputs) → hist p' inputs q ≡ hist p inputs q
  pub adds : (t : Name) → SameBag (all_adds p' inputs t) (all_adds p inputs t)
