-- The faults of a plan's lists. Each is a search in the order of the lists: queues (outputs, inputs, others), variables
-- (tables, others), operators with their reads, writes and variables.
use Rattle.std.specs.Prelude.{◌≡◌, ℕ, ◌+◌, ◌<◌, ◌≤◌, List, [], Option, IsTrue}
use Rattle.river_base.specs.declared.kind.FlatType.TheVariants.{Rows, Stream, Relation}
use Rattle.river_base.specs.declared.kind.QueueType.{QueueType}
use Rattle.river_base.specs.declared.kind.QueueType.TheVariants.{Flat, Pack}
use Rattle.kern_tables.specs.declared.kind.TableKind.{TableKind}
use Rattle.kern_tables.specs.declared.kind.TableKind.TheVariants.{Sum, Collection, Maximum}
use Rattle.river_kernels.specs.Formed.{is_width}
use Rattle.river_kernels.specs.Fits.{width_of}
use Rattle.river_plan.specs.declared.plan.Decl.{Decl}
use Rattle.river_plan.specs.declared.plan.TableDecl.{TableDecl}
use Rattle.river_plan.specs.declared.fault.Named.{Named}
use Rattle.river_plan.specs.declared.fault.Named.TheVariants.{Queue, Variable, Label}
use Rattle.river_plan.specs.Forms.{Name, OpForm, PlanForm, decl_names, queue_names, variable_names, labels}
use Rattle.river_plan.specs.Names.{count, IsUsedOnce}
use Rattle.river_plan.specs.First.{OrElse, As, IsFirst, Along}
use Rattle.river_plan.specs.Kinds.{IsFit}
use Rattle.river_plan.specs.Uses.{Each, total, writes_it, reads_it, vars_it}

-- P1: the first name that stood before it among the queues, among the variables, or among the labels
abbrev pub IsNew : List Name → Name → Type 0
IsNew before w = count w before ≡ 0

abbrev pub Repeated : PlanForm → Option Named → Type 0
Repeated p =
    OrElse (As Queue (IsFirst IsNew (queue_names p)))
    (OrElse (As Variable (IsFirst IsNew (variable_names p)))
    (As Label (IsFirst IsNew (labels p.ops))))

-- P2: the first queue or variable that an operator names and that is not declared
abbrev pub IsIn : List Name → List Name → Name → Type 0
IsIn declared before w = 0 < count w declared

abbrev pub UndeclaredAt : (queues variables : List Name) → OpForm → Option Named → Type 0
UndeclaredAt queues variables op =
    OrElse (As Queue (IsFirst (IsIn queues) op.reads))
    (OrElse (As Queue (IsFirst (IsIn queues) op.writes))
    (As Variable (IsFirst (IsIn variables) op.vars)))

abbrev pub Undeclared : PlanForm → Option Named → Type 0
Undeclared p = Along (λ before op. UndeclaredAt (queue_names p) (variable_names p) op) [] p.ops

-- P3: the first queue that is written twice, or that is an input and written
abbrev pub WrittenTwice : PlanForm → Option Named → Type 0
WrittenTwice p = As Queue (IsFirst (λ before q. IsUsedOnce (count q (decl_names p.inputs)) (total (writes_it q) p.ops)) (queue_names p))

-- P4: the first queue that is read twice, or that is an output and read
abbrev pub ReadTwice : PlanForm → Option Named → Type 0
ReadTwice p = As Queue (IsFirst (λ before q. IsUsedOnce (count q (decl_names p.outputs)) (total (reads_it q) p.ops)) (queue_names p))

-- P5: the first queue that an operator reads, and that is neither an input nor written by an operator listed before
abbrev pub IsWritten : (inputs : List Name) → List OpForm → Name → Type 0
IsWritten inputs before r = 0 < count r inputs + total (writes_it r) before

abbrev pub ReadTooEarlyAt : (inputs : List Name) → List OpForm → OpForm → Option Named → Type 0
ReadTooEarlyAt inputs before op = As Queue (IsFirst (λ before_it r. IsWritten inputs before r) op.reads)

abbrev pub ReadTooEarly : PlanForm → Option Named → Type 0
ReadTooEarly p = Along (ReadTooEarlyAt (decl_names p.inputs)) [] p.ops

-- P6: the first queue with a width that is not 1 to 16, or that is an output or input and of another type than rows or
-- a stream; then the first table with more than 8 keys, or that keeps no row
abbrev pub type_width : QueueType → ℕ
type_width (Flat t) = width_of t
type_width (Pack t) = width_of t

abbrev pub HasWidth : Decl → Type 0
HasWidth d = IsTrue (is_width (type_width d.kind))

abbrev pub IsRowsOrStream : QueueType → Type 0
IsRowsOrStream (Flat (Rows w)) = Unit {0}
IsRowsOrStream (Flat (Stream w)) = Unit {0}
IsRowsOrStream (Flat (Relation w)) = ⊥
IsRowsOrStream (Pack t) = ⊥

abbrev pub IsOuter : Decl → Type 0
IsOuter d = HasWidth d × IsRowsOrStream d.kind

abbrev pub IsTableKind : TableKind → Type 0
IsTableKind (Sum keys) = keys ≤ 8
IsTableKind (Collection keys) = keys ≤ 8
IsTableKind (Maximum best keys) = (keys ≤ 8) × (1 ≤ best)

abbrev pub MistypedQueue : (Decl → Type 0) → List Decl → Option Named → Type 0
MistypedQueue good ds = As (λ d. Queue d.name) (IsFirst (λ before d. good d) ds)

abbrev pub MistypedTable : List TableDecl → Option Named → Type 0
MistypedTable ts = As (λ t. Variable t.name) (IsFirst (λ before t. IsTableKind t.kind) ts)

abbrev pub Mistyped : PlanForm → Option Named → Type 0
Mistyped p =
    OrElse (MistypedQueue IsOuter p.outputs)
    (OrElse (MistypedQueue IsOuter p.inputs)
    (OrElse (MistypedQueue HasWidth p.queues)
    (MistypedTable p.tables)))

-- P7: the label of the first operator whose kernel does not fit its queues and variables, or is badly formed
abbrev pub Misfit : PlanForm → Option Named → Type 0
Misfit p = As (λ op. Label op.label) (IsFirst (λ before op. IsFit p op) p.ops)

-- P9: the first variable that stands twice in one operator, or that is private and stands in two
abbrev pub IsApart : PlanForm → Name → Type 0
IsApart p v = Each (λ op. vars_it v op ≤ 1) p.ops × (0 < count v p.vars → total (vars_it v) p.ops ≤ 1)

abbrev pub Shared : PlanForm → Option Named → Type 0
Shared p = As Variable (IsFirst (λ before v. IsApart p v) (variable_names p))
