-- When a plan is valid: conditions on its lists, and the faults in the order in which the first is told.
use Rattle.std.specs.Prelude.{◌≡◌, ◌+◌, ◌<◌, ◌≤◌, Option, Some, None, Result, Ok, Err, All}
use Rattle.river_kernels.specs.declared.limit.Limit.{Limit}
use Rattle.river_plan.specs.declared.fault.PlanFault.{PlanFault}
use Rattle.river_plan.specs.declared.fault.PlanFault.TheVariants.{P1, P2, P3, P4, P5, P6, P7, P8, P9, NoMemory}
use Rattle.river_plan.specs.Forms.{Name, PlanForm, decl_names, queue_names, variable_names}
use Rattle.river_plan.specs.Names.{count}
use Rattle.river_plan.specs.Uses.{Each, total, writes_it, reads_it, vars_it, named_it, ReadsBefore}
use Rattle.river_plan.specs.Kinds.{IsFit}
use Rattle.river_plan.specs.Limits.{most_of, numbers, OverLimit}
use Rattle.river_plan.specs.First.{OrElse, As}
use Rattle.river_plan.specs.Faults.{IsOuter, HasWidth, IsTableKind, Repeated, Undeclared, WrittenTwice, ReadTwice, ReadTooEarly, Mistyped, Misfit, Shared}

pub record IsPlan (p : PlanForm) : Type 0 where
  -- P1: no two queues, no two variables and no two operators have one name
  pub queues_once : (q : Name) → count q (queue_names p) ≤ 1
  pub variables_once : (v : Name) → count v (variable_names p) ≤ 1
  pub labels_once : (l : Name) → total (named_it l) p.ops ≤ 1
  -- P2: what operators name is declared
  pub reads_declared : (q : Name) → 0 < total (reads_it q) p.ops → 0 < count q (queue_names p)
  pub writes_declared : (q : Name) → 0 < total (writes_it q) p.ops → 0 < count q (queue_names p)
  pub vars_declared : (v : Name) → 0 < total (vars_it v) p.ops → 0 < count v (variable_names p)
  -- P3: a queue is an input, or written once, or neither
  pub written_once : (q : Name) → count q (decl_names p.inputs) + total (writes_it q) p.ops ≤ 1
  -- P4: a queue is an output, or read once, or neither
  pub read_once : (q : Name) → count q (decl_names p.outputs) + total (reads_it q) p.ops ≤ 1
  -- P5: each operator reads inputs, or what one before it writes
  pub in_order : ReadsBefore (λ q. count q (decl_names p.inputs)) p.ops
  -- P6: widths are 1 to 16, outputs and inputs carry rows or a stream, tables have at most 8 keys and keep a row
  pub outputs_typed : All IsOuter p.outputs
  pub inputs_typed : All IsOuter p.inputs
  pub queues_typed : All HasWidth p.queues
  pub tables_typed : All (λ t. IsTableKind t.kind) p.tables
  -- P7: each kernel is well formed, and fits its queues and variables
  pub fits : Each (IsFit p) p.ops
  -- P8: no number is above its limit
  pub within : (limit : Limit) → All (λ n. n ≤ most_of limit) (numbers limit p)
  -- P9: no variable stands twice in one operator, and no private one in two
  pub vars_apart : Each (λ op. (v : Name) → vars_it v op ≤ 1) p.ops
  pub private_once : (v : Name) → 0 < count v p.vars → total (vars_it v) p.ops ≤ 1

-- the first fault of the lists: the first kind that holds anywhere, at the first place in the order of the lists
abbrev pub FirstFault : PlanForm → Option PlanFault → Type 0
FirstFault p =
    OrElse (As P1 (Repeated p))
    (OrElse (As P2 (Undeclared p))
    (OrElse (As P3 (WrittenTwice p))
    (OrElse (As P4 (ReadTwice p))
    (OrElse (As P5 (ReadTooEarly p))
    (OrElse (As P6 (Mistyped p))
    (OrElse (As P7 (Misfit p))
    (OrElse (OverLimit p)
    (As P9 (Shared p)))))))))

-- what `check` may answer: the plan where there is no fault, and otherwise the first fault, or want of memory
abbrev pub IsJudged : PlanForm → Result PlanForm PlanFault → Type 0
IsJudged p (Ok q) = (q ≡ p) × FirstFault p None
IsJudged p (Err (P1 n)) = FirstFault p (Some (P1 n))
IsJudged p (Err (P2 n)) = FirstFault p (Some (P2 n))
IsJudged p (Err (P3 n)) = FirstFault p (Some (P3 n))
IsJudged p (Err (P4 n)) = FirstFault p (Some (P4 n))
IsJudged p (Err (P5 n)) = FirstFault p (Some (P5 n))
IsJudged p (Err (P6 n)) = FirstFault p (Some (P6 n))
IsJudged p (Err (P7 n)) = FirstFault p (Some (P7 n))
IsJudged p (Err (P8 l n)) = FirstFault p (Some (P8 l n))
IsJudged p (Err (P9 n)) = FirstFault p (Some (P9 n))
IsJudged p (Err NoMemory) = Unit {0}
