-- The types of queues and the kinds of variables, looked up by name.
use Rattle.std.specs.Prelude.{List, [], ◌∷◌, map, if◌then◌else◌, Option, Some, None, unwrap_or}
use Rattle.river_base.specs.Name.{name_eq}
use Rattle.river_base.specs.declared.kind.QueueType.{QueueType}
pub use Rattle.kern_tables.specs.Tables.{table_width}
use Rattle.river_kernels.specs.Fits.{Fits, rows}
use Rattle.river_kernels.specs.declared.types.VarKind.{VarKind}
use Rattle.river_kernels.specs.declared.types.VarKind.TheVariants.{Private, Table}
use Rattle.river_plan.specs.declared.plan.Decl.{Decl}
use Rattle.river_plan.specs.declared.plan.TableDecl.{TableDecl}
use Rattle.river_plan.specs.Forms.{Name, OpForm, PlanForm, all_decls}
use Rattle.river_kernels.specs.Limits.{either}

-- the type of a queue, by its first declaration
abbrev pub kind_in : List Decl → Name → Option QueueType
kind_in [] q = None
kind_in (d ∷ ds) q = if name_eq d.name q then Some d.kind else kind_in ds q

-- of a queue that is not declared, a type without width, which no kernel fits
abbrev pub kind_of : List Decl → Name → QueueType
kind_of ds q = unwrap_or (kind_in ds q) (rows 0)

-- what a variable is, by its first declaration, the tables first
abbrev pub table_in : List TableDecl → Name → Option VarKind
table_in [] v = None
table_in (t ∷ ts) v = if name_eq t.name v then Some (Table (table_width t.kind)) else table_in ts v

abbrev pub private_in : List Name → Name → Option VarKind
private_in [] v = None
private_in (w ∷ ws) v = if name_eq w v then Some Private else private_in ws v

abbrev pub var_in : List TableDecl → List Name → Name → Option VarKind
var_in ts vars v = either (table_in ts v) (private_in vars v)

-- one that is not declared is a table without width, which no kernel fits
abbrev pub var_kind : List TableDecl → List Name → Name → VarKind
var_kind ts vars v = unwrap_or (var_in ts vars v) (Table 0)

-- the kernel fits the types of the operator's queues and the kinds of its variables
abbrev pub FitsAt : (Name → QueueType) → (Name → VarKind) → OpForm → Type 0
FitsAt kind var op = Fits op.kernel (map kind op.reads) (map kind op.writes) (map var op.vars)

abbrev pub IsFit : PlanForm → OpForm → Type 0
IsFit p op = FitsAt (kind_of (all_decls p)) (var_kind p.tables p.vars) op
