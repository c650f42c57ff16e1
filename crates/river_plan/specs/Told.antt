-- The first fault of a plan as a function of its lists. Each search finds something or nothing, since each condition holds or
-- does not; what it finds is told by the type of its definition here.
use Rattle.std.specs.Prelude.{◌≡◌, ℕ, ◌+◌, ◌≤◌, List, [], ◌∷◌, ◌++◌, Option, Some, None, Result, Ok, Err, refl}
use Rattle.std.proofs.Common.{inl, inr, ⊎_elim}
use Rattle.river_kernels.specs.Limits.{told}
use Rattle.river_plan.specs.declared.plan.Decl.{Decl}
use Rattle.river_plan.specs.declared.fault.Named.{Named}
use Rattle.river_plan.specs.declared.fault.Named.TheVariants.{Queue, Variable, Label}
use Rattle.river_plan.specs.declared.fault.PlanFault.{PlanFault}
use Rattle.river_plan.specs.declared.fault.PlanFault.TheVariants.{P1, P2, P3, P4, P5, P6, P7, P8, P9, NoMemory}
use Rattle.river_plan.specs.Forms.{Name, PlanForm, queue_names, variable_names, labels, decl_names}
use Rattle.river_plan.specs.Names.{count, IsUsedOnce}
use Rattle.river_plan.specs.Uses.{total, writes_it, reads_it}
use Rattle.river_plan.specs.Kinds.{IsFit}
use Rattle.river_plan.specs.First.{OrElse, As, Unless, Along, IsFirst}
use Rattle.river_plan.specs.Limits.{OverLimit, OverLimitAt, most_of, numbers, limits}
use Rattle.river_plan.specs.Faults.{IsNew, IsIn, IsWritten, IsOuter, HasWidth, IsTableKind, IsApart, UndeclaredAt, ReadTooEarlyAt, MistypedQueue, Repeated}
use Rattle.river_plan.specs.Faults.{Undeclared, ReadTooEarly, Mistyped, Misfit, Shared}
use Rattle.river_plan.specs.Valid.{FirstFault}
use Rattle.river_plan.specs.Decided.{Decided, less_decided, most_decided, equal_decided, once_decided, width_decided, outer_decided, table_decided, fit_decided}
use Rattle.river_plan.specs.Decided.{apart_decided}

-- what a search finds, with that it finds it
abbrev pub Found : {B : Type 0} → (Option B → Type 0) → Type 0
Found {B = B} s = (o : Option B) × s o

-- SEARCHES

-- a condition that may fail
pub unless_found : {A : Type 0} (good : Type 0) (y : A) → Decided good → Found (Unless good y)
unless_found good y d = ⊎_elim (λ h. (None, h)) (λ n. (Some y, (n, refl))) d

-- one search, and then another
pub or_else_found : {B : Type 0} (s t : Option B → Type 0) → Found s → Found t → Found (OrElse s t)
or_else_found {B = B} s t a b = first a.0 a.1
  where
    second : s None → (o : Option B) → t o → Found (OrElse s t)
    second h None k = (None, (h, k))
    second h (Some y) k = (Some y, inr (h, k))

    first : (o : Option B) → s o → Found (OrElse s t)
    first None h = second h b.0 b.1
    first (Some x) h = (Some x, inl h)

-- what is found, by another name
pub as_found : {A B : Type 0} (f : A → B) (s : Option A → Type 0) → Found s → Found (As f s)
as_found {A = A} f s a = seen a.0 a.1
  where
    seen : (o : Option A) → s o → Found (As f s)
    seen None h = (None, h)
    seen (Some x) h = (Some (f x), (x, refl, h))

-- a search of each element in turn
pub along_found : {A B : Type 0} (s : List A → A → Option B → Type 0) → ((b : List A) (y : A) → Found (s b y)) → (before xs : List A) → Found (Along s before xs)
along_found s h before [] = (None, tt)
along_found s h before (y ∷ ys) = or_else_found (s before y) (Along s (before ++ y ∷ []) ys) (h before y) (along_found s h (before ++ y ∷ []) ys)

-- the first element that is not good
pub plain_found : {A : Type 0} (good : List A → A → Type 0) → ((b : List A) (y : A) → Decided (good b y)) → (xs : List A) → Found (IsFirst good xs)
plain_found good d xs = along_found (λ b y. Unless (good b y) y) (λ b y. unless_found (good b y) y (d b y)) [] xs

-- told by a function of it
pub first_found : {A B : Type 0} (f : A → B) (good : List A → A → Type 0) → ((b : List A) (y : A) → Decided (good b y)) → (xs : List A)
    → Found (As f (IsFirst good xs))
first_found f good d xs = as_found f (IsFirst good xs) (plain_found good d xs)

-- THE FAULTS

new_found : (f : Name → Named) (ws : List Name) → Found (As f (IsFirst IsNew ws))
new_found f ws = first_found f IsNew (λ b w. equal_decided (count w b) 0) ws

-- names that stand twice
pub repeated_found : (p : PlanForm) → Found (Repeated p)
repeated_found p =
    or_else_found _ _ (new_found Queue (queue_names p)) (or_else_found _ _ (new_found Variable (variable_names p)) (new_found Label (labels p.ops)))

in_found : (f : Name → Named) (declared ws : List Name) → Found (As f (IsFirst (IsIn declared) ws))
in_found f declared ws = first_found f (IsIn declared) (λ b w. less_decided 0 (count w declared)) ws

-- names that are not declared
pub undeclared_found : (p : PlanForm) → Found (Undeclared p)
undeclared_found p = along_found (λ b op. UndeclaredAt (queue_names p) (variable_names p) op)
    (λ b op. or_else_found _ _ (in_found Queue (queue_names p) op.reads)
    (or_else_found _ _ (in_found Queue (queue_names p) op.writes) (in_found Variable (variable_names p) op.vars))) [] p.ops

-- names that are not used once
pub once_found : (given : List Name) (uses : Name → ℕ) (ws : List Name) → Found (As Queue (IsFirst (λ before q. IsUsedOnce (count q given) (uses q)) ws))
once_found given uses ws = first_found Queue (λ before q. IsUsedOnce (count q given) (uses q)) (λ b q. once_decided (count q given) (uses q)) ws

-- queues that are read before they are written
pub early_found : (p : PlanForm) → Found (ReadTooEarly p)
early_found p = along_found (ReadTooEarlyAt (decl_names p.inputs))
    (λ b op. first_found Queue (λ c r. IsWritten (decl_names p.inputs) b r)
    (λ c r. less_decided 0 (count r (decl_names p.inputs) + total (writes_it r) b)) op.reads) [] p.ops

queue_found : (good : Decl → Type 0) → ((d : Decl) → Decided (good d)) → (ds : List Decl) → Found (MistypedQueue good ds)
queue_found good d ds = first_found (λ e. Queue e.name) (λ before e. good e) (λ b e. d e) ds

mistyped_found : (p : PlanForm) → Found (Mistyped p)
mistyped_found p =
    or_else_found _ _ (queue_found IsOuter outer_decided p.outputs)
    (or_else_found _ _ (queue_found IsOuter outer_decided p.inputs)
    (or_else_found _ _ (queue_found HasWidth width_decided p.queues)
    (first_found (λ t. Variable t.name) (λ before t. IsTableKind t.kind) (λ b t. table_decided t.kind) p.tables)))

misfit_found : (p : PlanForm) → Found (Misfit p)
misfit_found p = first_found (λ op. Label op.label) (λ before op. IsFit p op) (λ b op. fit_decided p op) p.ops

over_found : (p : PlanForm) → Found (OverLimit p)
over_found p =
    along_found (λ b limit. OverLimitAt p limit)
    (λ b limit. first_found (λ n. P8 limit (told n)) (λ c n. n ≤ most_of limit) (λ c n. most_decided n (most_of limit)) (numbers limit p)) [] limits

shared_found : (p : PlanForm) → Found (Shared p)
shared_found p = first_found Variable (λ before v. IsApart p v) (λ b v. apart_decided p v) (variable_names p)

pub first_fault_found : (p : PlanForm) → Found (FirstFault p)
first_fault_found p =
    or_else_found _ _ (as_found P1 _ (repeated_found p))
    (or_else_found _ _ (as_found P2 _ (undeclared_found p))
    (or_else_found _ _ (as_found P3 _ (once_found (decl_names p.inputs) (λ q. total (writes_it q) p.ops) (queue_names p)))
    (or_else_found _ _ (as_found P4 _ (once_found (decl_names p.outputs) (λ q. total (reads_it q) p.ops) (queue_names p)))
    (or_else_found _ _ (as_found P5 _ (early_found p))
    (or_else_found _ _ (as_found P6 _ (mistyped_found p))
    (or_else_found _ _ (as_found P7 _ (misfit_found p))
    (or_else_found _ _ (over_found p)
    (as_found P9 _ (shared_found p)))))))))

-- the first fault of the lists, where they have one
abbrev pub fault_of : PlanForm → Option PlanFault
fault_of p = (first_fault_found p).0

-- what `check` may answer: the plan where there is no fault, and otherwise the first fault, or want of memory
abbrev pub IsTold : PlanForm → Result PlanForm PlanFault → Type 0
IsTold p (Ok q) = (q ≡ p) × (fault_of p ≡ None)
IsTold p (Err NoMemory) = Unit {0}
IsTold p (Err f) = fault_of p ≡ Some f
