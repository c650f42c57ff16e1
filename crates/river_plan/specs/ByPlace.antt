-- The types of queues and the kinds of variables by their places.
use Rattle.std.specs.Prelude.{ℕ, List, ◌++◌, map, slice_index_or}
use Rattle.river_base.specs.declared.kind.QueueType.{QueueType}
use Rattle.river_kernels.specs.Fits.{Fits, rows}
use Rattle.river_kernels.specs.Kern.{Kern}
use Rattle.river_kernels.specs.declared.types.VarKind.{VarKind}
use Rattle.river_kernels.specs.declared.types.VarKind.TheVariants.{Private, Table}
use Rattle.river_plan.specs.declared.plan.Decl.{Decl}
use Rattle.river_plan.specs.declared.plan.TableDecl.{TableDecl}
use Rattle.river_plan.specs.Forms.{Name, PlanForm}
use Rattle.river_plan.specs.Kinds.{table_width}

abbrev pub decl_kinds : List Decl → List QueueType
decl_kinds ds = map (λ d. d.kind) ds

abbrev pub table_kinds : List TableDecl → List VarKind
table_kinds ts = map (λ t. Table (table_width t.kind)) ts

abbrev pub private_kinds : List Name → List VarKind
private_kinds vs = map (λ v. Private) vs

-- the types of the queues and the kinds of the variables, in the order of their names
abbrev pub queue_kinds : PlanForm → List QueueType
queue_kinds p = decl_kinds p.outputs ++ (decl_kinds p.inputs ++ decl_kinds p.queues)

abbrev pub var_kinds : PlanForm → List VarKind
var_kinds p = table_kinds p.tables ++ private_kinds p.vars

-- the type at a place; beyond the last one without width
abbrev pub kind_at : List QueueType → ℕ → QueueType
kind_at kinds i = slice_index_or kinds i (rows 0)

abbrev pub var_kind_at : List VarKind → ℕ → VarKind
var_kind_at kinds i = slice_index_or kinds i (Table 0)

-- the kernel fits the types at these places
abbrev pub FitsPlaces : List QueueType → List VarKind → Kern → (reads writes vars : List ℕ) → Type 0
FitsPlaces queues kinds k reads writes vars = Fits k (map (kind_at queues) reads) (map (kind_at queues) writes) (map (var_kind_at kinds) vars)
