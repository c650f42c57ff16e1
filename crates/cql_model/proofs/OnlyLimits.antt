-- Of the plan of an accepted program no fault is told but that it exceeds a limit.
use Rattle.std.proofs.Common.{◌≡◌, ℕ, ◌≤◌, List, [], ◌∷◌, ◌++◌, Option, Some, None, Bool, true, false, refl, ap, ◌∙◌, subst, arith, ⊎_elim}
use Rattle.std.specs.Prelude.{All, nat_lt, ◌||◌}
use Rattle.std.specs.List.{list_any, AllByRecursion}
use Rattle.std.specs.Option.{is_some}
use Rattle.std.proofs.lemmas.List.Elements.{All-head, All-tail, All-cons, All-nil}
use Rattle.std.proofs.lemmas.Bool.{ltb-false, le-ltb}
use Rattle.river_plan.specs.declared.fault.PlanFault.{PlanFault}
use Rattle.river_plan.specs.declared.fault.PlanFault.TheVariants.{P1, P2, P3, P4, P5, P6, P7, P9}
use Rattle.river_plan.specs.declared.fault.Named.TheVariants.{Queue, Variable, Label}
use Rattle.river_plan.specs.Faults.{IsNew, IsOuter, HasWidth, IsTableKind, IsApart, Repeated, Undeclared, UndeclaredAt, WrittenTwice, ReadTwice, ReadTooEarly}
use Rattle.river_plan.specs.Faults.{ReadTooEarlyAt, Mistyped, Misfit, Shared}
use Rattle.river_plan.specs.First.{OrElse, As, Unless, Along, IsFirst}
use Rattle.river_plan.specs.Forms.{PlanForm, decl_names, queue_names, variable_names, labels}
use Rattle.river_plan.specs.Kinds.{IsFit}
use Rattle.river_kernels.specs.declared.limit.Limit.{Limit}
use Rattle.river_kernels.specs.declared.limit.Limit.TheVariants.{Inputs, Operators, Queues, Variables, Ports, Statements, Slots, Rates, Weights, Nesting}
use Rattle.river_kernels.specs.declared.limit.Limit.TheVariants.{Latest, Best}
use Rattle.river_plan.specs.Limits.{OverLimitAt, limits, most_of, numbers}
use Rattle.river_plan.specs.Names.{count, IsUsedOnce}
use Rattle.river_plan.specs.Uses.{total, writes_it, reads_it}
use Rattle.river_plan.specs.Valid.{IsPlan, FirstFault}
use Rattle.river_plan.proofs.ValidLaw.{once-names, total-labels, all-along, each-along, names-along, all-declared, reads-order, every-each, no_fault-valid}
use Rattle.river_plan.proofs.ValidLaw.{valid-no_fault}
use Rattle.river_plan.proofs.OneFirst.{fault-one}
use Rattle.cql_model.specs.Plannable.{KeepsRules, IsLimit, exceeds, OnlyLimits, PlansAreValid}
use Rattle.cql_model.specs.Plan.{plan_of}
use Rattle.cql_model.proofs.Valid.{plans_keep}

-- A SEARCH THAT FINDS NOTHING FINDS NOTHING ELSE

abbrev Empty : {B : Type 0} → (Option B → Type 0) → Type 0
Empty {B = B} s = (o : Option B) → s o → o ≡ None

some_none : {B P : Type 0} (b : B) → Some b ≡ None → P
some_none b e = absurd (cc e)

along-empty : {A : Type 0} (good : List A → A → Type 0) (before xs : List A) → Along (λ b y. Unless (good b y) y) before xs None
    → Empty (Along (λ b y. Unless (good b y) y) before xs)
along-empty good before xs h None k = refl
along-empty good before [] h (Some b) k = absurd k
along-empty good before (y ∷ ys) h (Some b) k = ⊎_elim (λ x. absurd (x.0 h.0)) (λ x. along-empty good (before ++ y ∷ []) ys h.1 (Some b) x.1) k

as-empty : {A B : Type 0} (f : A → B) (s : Option A → Type 0) → Empty s → Empty (As f s)
as-empty f s e None k = refl
as-empty f s e (Some b) k = some_none k.0 (e (Some k.0) k.2)

or-empty : {B : Type 0} (s t : Option B → Type 0) → Empty s → Empty t → Empty (OrElse s t)
or-empty s t e f None k = refl
or-empty s t e f (Some b) k = ⊎_elim (λ x. e (Some b) x) (λ x. f (Some b) x.1) k

each-empty : {A B : Type 0} (s : List A → A → Option B → Type 0) (before xs : List A) → ((b : List A) (y : A) → s b y None → Empty (s b y))
    → Along s before xs None → Empty (Along s before xs)
each-empty s before xs e h None k = refl
each-empty s before [] e h (Some b) k = absurd k
each-empty s before (y ∷ ys) e h (Some b) k = ⊎_elim (λ x. e before y h.0 (Some b) x) (λ x. each-empty s (before ++ y ∷ []) ys e h.1 (Some b) x.1) k

first : {A B : Type 0} (f : A → B) (good : List A → A → Type 0) (xs : List A) → IsFirst good xs None → Empty (As f (IsFirst good xs))
first f good xs h = as-empty f (IsFirst good xs) (along-empty good [] xs h)

-- NO FAULT BUT A LIMIT

module _ (p : PlanForm) (v : KeepsRules p) where
  no_repeated : Empty (Repeated p)
  no_repeated =
      or-empty _ _ (first Queue IsNew (queue_names p) (once-names (queue_names p) v.queues_once))
      (or-empty _ _ (first Variable IsNew (variable_names p) (once-names (variable_names p) v.variables_once))
      (first Label IsNew (labels p.ops) (once-names (labels p.ops) (λ l. let a = v.labels_once l in let e = total-labels l p.ops in omega (arith, a, e)))))

  no_undeclared : Empty (Undeclared p)
  no_undeclared = each-empty (λ b op. UndeclaredAt (queue_names p) (variable_names p) op) [] p.ops
      (λ b op h. or-empty _ _ (first Queue _ op.reads h.0) (or-empty _ _ (first Queue _ op.writes h.1.0) (first Variable _ op.vars h.1.1)))
      (all-declared (queue_names p) (variable_names p) [] p.ops v.reads_declared v.writes_declared v.vars_declared)

  no_written_twice : Empty (WrittenTwice p)
  no_written_twice =
      first Queue _ (queue_names p)
      (names-along (λ w. IsUsedOnce (count w (decl_names p.inputs)) (total (writes_it w) p.ops)) [] (queue_names p)
      (λ q lt. let o = v.written_once q in ((omega (arith, o)), λ g. omega (arith, o, g))))

  no_read_twice : Empty (ReadTwice p)
  no_read_twice =
      first Queue _ (queue_names p)
      (names-along (λ w. IsUsedOnce (count w (decl_names p.outputs)) (total (reads_it w) p.ops)) [] (queue_names p)
      (λ q lt. let o = v.read_once q in ((omega (arith, o)), λ g. omega (arith, o, g))))

  no_early : Empty (ReadTooEarly p)
  no_early =
      each-empty (ReadTooEarlyAt (decl_names p.inputs)) [] p.ops (λ b op h. first Queue _ op.reads h)
      (reads-order (decl_names p.inputs) (λ q. count q (decl_names p.inputs)) [] p.ops (λ q. omega arith) v.in_order)

  no_mistyped : Empty (Mistyped p)
  no_mistyped =
      or-empty _ _ (first _ _ p.outputs (all-along IsOuter [] p.outputs v.outputs_typed))
      (or-empty _ _ (first _ _ p.inputs (all-along IsOuter [] p.inputs v.inputs_typed))
      (or-empty _ _ (first _ _ p.queues (all-along HasWidth [] p.queues v.queues_typed))
      (first _ _ p.tables (all-along (λ t. IsTableKind t.kind) [] p.tables v.tables_typed))))

  no_misfit : Empty (Misfit p)
  no_misfit = first _ _ p.ops (each-along (IsFit p) [] p.ops v.fits)

  no_shared : Empty (Shared p)
  no_shared = first Variable _ (variable_names p) (names-along (IsApart p) [] (variable_names p) (λ w lt. (every-each p.ops v.vars_apart w, v.private_once w)))

  none : {A : Type 0} (g : A → PlanFault) (s : Option A → Type 0) → Empty s → (f : PlanFault) → As g s (Some f) → ⊥
  none g s e f k = some_none k.0 (e (Some k.0) k.2)

  -- a limit is told as such
  over_is : (before : List _) (ls : List _) (f : PlanFault) → Along (λ b limit. OverLimitAt p limit) before ls (Some f) → IsLimit (Some f)
  over_is before [] f h = absurd h
  over_is before (l ∷ ls) f h = ⊎_elim (λ x. subst (λ (g : PlanFault). IsLimit (Some g)) x.1 tt) (λ x. over_is (before ++ l ∷ []) ls f x.1) h

  pub only_limit : (o : Option PlanFault) → FirstFault p o → IsLimit o
  only_limit None h = tt
  only_limit (Some f) h =
      ⊎_elim (λ x. absurd (none P1 (Repeated p) no_repeated f x)) (λ h1.
      ⊎_elim (λ x. absurd (none P2 (Undeclared p) no_undeclared f x)) (λ h2.
      ⊎_elim (λ x. absurd (none P3 (WrittenTwice p) no_written_twice f x)) (λ h3.
      ⊎_elim (λ x. absurd (none P4 (ReadTwice p) no_read_twice f x)) (λ h4.
      ⊎_elim (λ x. absurd (none P5 (ReadTooEarly p) no_early f x)) (λ h5.
      ⊎_elim (λ x. absurd (none P6 (Mistyped p) no_mistyped f x)) (λ h6.
      ⊎_elim (λ x. absurd (none P7 (Misfit p) no_misfit f x)) (λ h7.
      ⊎_elim (λ x. over_is [] limits f x) (λ h8. absurd (none P9 (Shared p) no_shared f h8.1))
      h7.1) h6.1) h5.1) h4.1) h3.1) h2.1) h1.1) h

-- LIMITS THAT ARE EXCEEDED

any_none : {A : Type 0} (p : A → Bool) (xs : List A) → list_any p xs ≡ false → AllByRecursion (λ x. p x ≡ false) xs
any_none p [] h = tt
any_none p (x ∷ xs) h = step (p x) refl h (any_none p xs) where
  step : (b : Bool) → p x ≡ b → b || list_any p xs ≡ false → (list_any p xs ≡ false → AllByRecursion (λ y. p y ≡ false) xs)
      → (p x ≡ false) × AllByRecursion (λ y. p y ≡ false) xs
  step true e g more = absurd (cc g)
  step false e g more = (e, more g)

none_any : {A : Type 0} (p : A → Bool) (xs : List A) → AllByRecursion (λ x. p x ≡ false) xs → list_any p xs ≡ false
none_any p [] h = refl
none_any p (x ∷ xs) h = ap (λ b. b || list_any p xs) h.0 ∙ none_any p xs h.1

-- a condition on all limits is one on each
at_limit : (P : Limit → Type 0) → AllByRecursion P limits → (l : Limit) → P l
at_limit P h Inputs = h.0
at_limit P h Operators = h.1.0
at_limit P h Queues = h.1.1.0
at_limit P h Variables = h.1.1.1.0
at_limit P h Ports = h.1.1.1.1.0
at_limit P h Statements = h.1.1.1.1.1.0
at_limit P h Slots = h.1.1.1.1.1.1.0
at_limit P h Rates = h.1.1.1.1.1.1.1.0
at_limit P h Weights = h.1.1.1.1.1.1.1.1.0
at_limit P h Nesting = h.1.1.1.1.1.1.1.1.1.0
at_limit P h Latest = h.1.1.1.1.1.1.1.1.1.1.0
at_limit P h Best = h.1.1.1.1.1.1.1.1.1.1.1.0

each_limit : (P : Limit → Type 0) → ((l : Limit) → P l) → (ls : List Limit) → AllByRecursion P ls
each_limit P h [] = tt
each_limit P h (l ∷ ls) = (h l, each_limit P h ls)

abbrev Within : PlanForm → Type 0
Within p = (l : Limit) → All (λ n. n ≤ most_of l) (numbers l p)

all_low : (m : ℕ) (ns : List ℕ) → AllByRecursion (λ n. nat_lt m n ≡ false) ns → All (λ n. n ≤ m) ns
all_low m [] h = All-nil (λ n. n ≤ m)
all_low m (n ∷ ns) h = All-cons (λ n. n ≤ m) n ns (ltb-false m n h.0) (all_low m ns h.1)

low_all : (m : ℕ) (ns : List ℕ) → All (λ n. n ≤ m) ns → AllByRecursion (λ n. nat_lt m n ≡ false) ns
low_all m [] h = tt
low_all m (n ∷ ns) h = (le-ltb m n (All-head (λ n. n ≤ m) n ns h), low_all m ns (All-tail (λ n. n ≤ m) n ns h))

abbrev is_over : PlanForm → Limit → Bool
is_over p l = list_any (nat_lt (most_of l)) (numbers l p)

-- a plan that exceeds no limit is within them, and back
pub within_where : (p : PlanForm) → exceeds p ≡ false → Within p
within_where p h l =
    all_low (most_of l) (numbers l p)
    (any_none (nat_lt (most_of l)) (numbers l p) (at_limit (λ k. is_over p k ≡ false) (any_none (is_over p) limits h) l))

-- a plan within the limits exceeds none
pub where_within : (p : PlanForm) → Within p → exceeds p ≡ false
where_within p h =
    none_any (is_over p) limits
    (each_limit (λ k. is_over p k ≡ false) (λ l. none_any (nat_lt (most_of l)) (numbers l p) (low_all (most_of l) (numbers l p) (h l))) limits)

-- ACCEPTED PROGRAMS

-- the rules and the limits are all that is asked of a plan
pub valid_within : (p : PlanForm) → KeepsRules p → Within p → IsPlan p
valid_within p k within = record {
  queues_once = k.queues_once;
  variables_once = k.variables_once;
  labels_once = k.labels_once;
  reads_declared = k.reads_declared;
  writes_declared = k.writes_declared;
  vars_declared = k.vars_declared;
  written_once = k.written_once;
  read_once = k.read_once;
  in_order = k.in_order;
  outputs_typed = k.outputs_typed;
  inputs_typed = k.inputs_typed;
  queues_typed = k.queues_typed;
  tables_typed = k.tables_typed;
  fits = k.fits;
  within = within;
  vars_apart = k.vars_apart;
  private_once = k.private_once;
}

told_where : (p : PlanForm) (o : Option PlanFault) → KeepsRules p → FirstFault p o → exceeds p ≡ is_some o
told_where p None k h = where_within p (no_fault-valid p h).within
told_where p (Some f) k h = step (exceeds p) refl where
  step : (b : Bool) → exceeds p ≡ b → b ≡ true
  step true e = refl
  step false e = some_none f (fault-one p (Some f) None h (valid-no_fault p (valid_within p k (within_where p e))))

-- the law: no fault but a limit is told of a plan
pub only_limits : OnlyLimits
only_limits p o a h = let k = plans_keep p a in (only_limit (plan_of p) k o h, told_where (plan_of p) o k h)

-- the law: a plan within the limits is valid
pub plans_are_valid : PlansAreValid
plans_are_valid p a within = valid_within (plan_of p) (plans_keep p a) within
