-- Plans in which no name stands twice, and which are within their limits.
use Rattle.std.specs.Prelude.{◌≤◌, All}
use Rattle.river_kernels.specs.declared.limit.Limit.{Limit}
use Rattle.river_plan.specs.Forms.{Name, PlanForm, queue_names, variable_names}
use Rattle.river_plan.specs.Limits.{most_of, numbers}
use Rattle.river_plan.specs.Names.{count}
use Rattle.river_plan.specs.Uses.{total, named_it}

-- the names of a plan stand once each
pub record IsApartPlan (r : PlanForm) : Type 0 where
  pub queues_once : (q : Name) → count q (queue_names r) ≤ 1
  pub variables_once : (x : Name) → count x (variable_names r) ≤ 1
  pub labels_once : (k : Name) → total (named_it k) r.ops ≤ 1
  pub within : (limit : Limit) → All (λ k. k ≤ most_of limit) (numbers limit r)
