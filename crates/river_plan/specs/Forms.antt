-- Plans as plain data, keyed by names: all definitions speak of these.
use Rattle.std.specs.Prelude.{ℕ, List, [], ◌++◌, map}
use Rattle.river_kernels.specs.Kern.{Kern, kern_of}
use Rattle.river_plan.specs.declared.op.Op.{Op}
use Rattle.river_plan.specs.declared.plan.Decl.{Decl}
use Rattle.river_plan.specs.declared.plan.TableDecl.{TableDecl}
use Rattle.river_plan.specs.declared.plan.RawPlan.{RawPlan}

-- a name is the list of its bytes
abbrev pub Name : Type 0
Name = List ℕ

-- an operator: its kernel, the queues that it reads and writes, port by port, and its variables in the kernel's order
pub record OpForm : Type 0 where
  pub label : Name
  pub kernel : Kern
  pub reads : List Name
  pub writes : List Name
  pub vars : List Name

abbrev pub op_form : Op → OpForm
op_form op = record { label = op.label; kernel = kern_of op.kernel; reads = op.reads; writes = op.writes; vars = op.vars }

abbrev pub op_forms : List Op → List OpForm
op_forms ops = map op_form ops

-- the lists of a plan
pub record PlanForm : Type 0 where
  pub outputs : List Decl
  pub inputs : List Decl
  pub queues : List Decl
  pub tables : List TableDecl
  pub vars : List Name
  pub ops : List OpForm

abbrev pub plan_form : RawPlan → PlanForm
plan_form p = record { outputs = p.outputs; inputs = p.inputs; queues = p.queues; tables = p.tables; vars = p.vars; ops = op_forms p.ops }

abbrev pub empty_form : PlanForm
empty_form = record { outputs = []; inputs = []; queues = []; tables = []; vars = []; ops = [] }

-- the names of the declarations
abbrev pub decl_names : List Decl → List Name
decl_names ds = map (λ d. d.name) ds

abbrev pub table_names : List TableDecl → List Name
table_names ts = map (λ t. t.name) ts

abbrev pub labels : List OpForm → List Name
labels ops = map (λ op. op.label) ops

-- all queues that are declared
abbrev pub all_decls : PlanForm → List Decl
all_decls p = p.outputs ++ (p.inputs ++ p.queues)

-- the names of the queues: the outputs, the inputs, the others
abbrev pub queue_names : PlanForm → List Name
queue_names p = decl_names p.outputs ++ (decl_names p.inputs ++ decl_names p.queues)

-- the variables: the tables, the others
abbrev pub variable_names : PlanForm → List Name
variable_names p = table_names p.tables ++ p.vars
