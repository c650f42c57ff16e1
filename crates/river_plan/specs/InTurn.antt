-- The order of declarations: queues and variables stand as the operators first use them.
use Rattle.std.specs.Prelude.{◌≡◌, List, [], ◌++◌, flat_map, fold}
use Rattle.river_plan.specs.Forms.{OpForm, PlanForm, Name, decl_names, variable_names}
use Rattle.river_plan.specs.Names.{with_name}
use Rattle.river_plan.specs.Uses.{all_vars}

-- all queues that the operators name, in order
abbrev pub mentioned : List OpForm → List Name
mentioned ops = flat_map (λ op. op.reads ++ op.writes) ops

abbrev pub outer : PlanForm → List Name
outer p = decl_names p.outputs ++ decl_names p.inputs

-- behind outputs and inputs each queue stands when it is first named, and each variable, tables before private ones, when it is
-- first used
abbrev pub IsInTurn : PlanForm → Type 0
IsInTurn p = (fold with_name (outer p) (mentioned p.ops) ≡ outer p ++ decl_names p.queues) × (fold with_name [] (all_vars p.ops) ≡ variable_names p)
