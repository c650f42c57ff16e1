-- The lists of a plan.
use Rattle.std.specs.Prelude.{List, [], ◌∷◌, map, codes}
use Rattle.river_plan.specs.Forms.{OpForm, PlanForm}
use Rattle.river_plan.specs.Uses.{all_vars}
use Rattle.streamit_model.specs.Plan.{own_queues, values_in}

-- with these operators
abbrev pub plan_lists : List OpForm → PlanForm
plan_lists ops = record {
  outputs = values_in (codes "out") ∷ [];
  inputs = values_in (codes "in") ∷ [];
  queues = map values_in (own_queues ops);
  tables = [];
  vars = all_vars ops;
  ops = ops;
}
