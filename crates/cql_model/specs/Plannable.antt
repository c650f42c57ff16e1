-- Programs of which a plan can be made: what plans need of the names, the queries and the values of a program.
use Rattle.std.specs.Prelude.{All, ◌<◌, ◌≤◌, Bool, not, nat_eq, nat_lt, ◌≡◌, List, [], ◌∷◌, length, Option, Some, None, IsTrue, ◌+◌}
use Rattle.std.specs.List.{list_all, list_any, AllByRecursion}
use Rattle.std.specs.Option.{is_some}
use Rattle.river_kernels.specs.Formed.{is_width, is_window}
use Rattle.river_plan.specs.Forms.{Name, PlanForm, decl_names, queue_names, variable_names}
use Rattle.river_plan.specs.Names.{count}
use Rattle.cql_model.specs.Laws.{AreKnown}
use Rattle.cql_model.specs.Program.{streams_of}
use Rattle.cql_text.specs.Tree.{Scalar, scalar_depth, Columns, Star, Chosen, Query, Register, AQuery, Program}
use Rattle.cql_model.specs.KernelWords.{kernel_window}
use Rattle.cql_model.specs.Scopes.{Named, scope_of}
use Rattle.river_kernels.specs.declared.limit.Limit.{Limit}
use Rattle.river_plan.specs.Limits.{most_of, limits, numbers}
use Rattle.river_plan.specs.Valid.{IsPlan, FirstFault}
use Rattle.river_plan.specs.declared.fault.PlanFault.{PlanFault}
use Rattle.river_plan.specs.declared.fault.PlanFault.TheVariants.{P1, P2, P3, P4, P5, P6, P7, P8, P9, NoMemory}
use Rattle.river_plan.specs.Faults.{IsOuter, HasWidth, IsTableKind}
use Rattle.river_plan.specs.Kinds.{IsFit}
use Rattle.river_plan.specs.Uses.{Each, total, writes_it, reads_it, vars_it, named_it, ReadsBefore}
use Rattle.cql_model.specs.Plan.{widths_of, columns_width, query_named, plan_of}

-- a name of a stream is a word of letters, digits and `_`; so it has no `@`
abbrev pub has_no_at : Name → Bool
has_no_at n = list_all (λ b. not (nat_eq b 64)) n

-- the names that are declared, in order
abbrev pub declared_names : Program → List Name
declared_names [] = []
declared_names (Register name fields ∷ ps) = name ∷ declared_names ps
declared_names (AQuery q ∷ ps) = q.name ∷ declared_names ps

abbrev pub AreShallowColumns : Columns → Type 0
AreShallowColumns Star = Unit {0}
AreShallowColumns (Chosen cs) = AllByRecursion (λ c. scalar_depth c.value ≤ 64) cs

abbrev pub IsShallowCondition : Option Scalar → Type 0
IsShallowCondition None = Unit {0}
IsShallowCondition (Some e) = scalar_depth e ≤ 64

pub record IsPlannableQuery (known : List Named) (q : Query) : Type 0 where
  pub some : 0 < length q.items
  pub few : length q.items ≤ 4
  pub streams : AreKnown known (streams_of q.items)
  pub windows : AllByRecursion (λ i. IsTrue (is_window (kernel_window i.window))) q.items
  pub product : widths_of (scope_of known q.items) ≤ 16
  pub columns : IsTrue (is_width (columns_width (scope_of known q.items) q.columns))
  pub values : AreShallowColumns q.columns
  pub condition : IsShallowCondition q.condition

abbrev pub AreQueries : List Named → Program → Type 0
AreQueries known [] = Unit {0}
AreQueries known (Register name fields ∷ ps) = IsTrue (is_width (length fields)) × AreQueries (record { name = name; fields = fields } ∷ known) ps
AreQueries known (AQuery q ∷ ps) = IsPlannableQuery known q × AreQueries (query_named known q ∷ known) ps

pub record IsPlannable (p : Program) : Type 0 where
  pub names : AllByRecursion (λ n. IsTrue (has_no_at n)) (declared_names p)
  pub once : (n : Name) → count n (declared_names p) ≤ 1
  pub queries : AreQueries [] p

-- no number of a plan is above its limit
abbrev pub KeepsLimits : PlanForm → Type 0
KeepsLimits plan = (l : Limit) → All (λ n. n ≤ most_of l) (numbers l plan)

-- the plan of such a program that keeps the limits of plans is valid
abbrev pub PlansAreValid : Type 0
PlansAreValid = (p : Program) → IsPlannable p → KeepsLimits (plan_of p) → IsPlan (plan_of p)

-- all conditions of a valid plan but the limits
pub record KeepsRules (p : PlanForm) : Type 0 where
  pub queues_once : (q : Name) → count q (queue_names p) ≤ 1
  pub variables_once : (v : Name) → count v (variable_names p) ≤ 1
  pub labels_once : (l : Name) → total (named_it l) p.ops ≤ 1
  pub reads_declared : (q : Name) → 0 < total (reads_it q) p.ops → 0 < count q (queue_names p)
  pub writes_declared : (q : Name) → 0 < total (writes_it q) p.ops → 0 < count q (queue_names p)
  pub vars_declared : (v : Name) → 0 < total (vars_it v) p.ops → 0 < count v (variable_names p)
  pub written_once : (q : Name) → count q (decl_names p.inputs) + total (writes_it q) p.ops ≤ 1
  pub read_once : (q : Name) → count q (decl_names p.outputs) + total (reads_it q) p.ops ≤ 1
  pub in_order : ReadsBefore (λ q. count q (decl_names p.inputs)) p.ops
  pub outputs_typed : All IsOuter p.outputs
  pub inputs_typed : All IsOuter p.inputs
  pub queues_typed : All HasWidth p.queues
  pub tables_typed : All (λ t. IsTableKind t.kind) p.tables
  pub fits : Each (IsFit p) p.ops
  pub vars_apart : Each (λ op. (v : Name) → vars_it v op ≤ 1) p.ops
  pub private_once : (v : Name) → 0 < count v p.vars → total (vars_it v) p.ops ≤ 1

-- the plan of such a program keeps them, whatever its size
abbrev pub PlansKeep : Type 0
PlansKeep = (p : Program) → IsPlannable p → KeepsRules (plan_of p)

-- so no fault but a limit is ever told of it
abbrev pub IsLimit : Option PlanFault → Type 0
IsLimit None = Unit {0}
IsLimit (Some (P1 n)) = ⊥
IsLimit (Some (P2 n)) = ⊥
IsLimit (Some (P3 n)) = ⊥
IsLimit (Some (P4 n)) = ⊥
IsLimit (Some (P5 n)) = ⊥
IsLimit (Some (P6 n)) = ⊥
IsLimit (Some (P7 n)) = ⊥
IsLimit (Some (P8 l n)) = Unit {0}
IsLimit (Some (P9 n)) = ⊥
IsLimit (Some NoMemory) = ⊥

-- a number of the plan is above its limit
abbrev pub exceeds : PlanForm → Bool
exceeds plan = list_any (λ l. list_any (λ n. nat_lt (most_of l) n) (numbers l plan)) limits

-- a fault is told of it exactly where it exceeds a limit
abbrev pub OnlyLimits : Type 0
OnlyLimits =
    (p : Program) (o : Option PlanFault) → IsPlannable p → FirstFault (plan_of p) o → IsLimit o × (exceeds (plan_of p) ≡ is_some o)
