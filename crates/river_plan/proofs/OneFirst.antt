-- A search finds one thing.
use Rattle.std.proofs.Common.{◌≡◌, ◌≤◌, List, [], ◌∷◌, ◌++◌, Option, Some, None, refl, sym, ap, ◌∙◌, ⊎_elim}
use Rattle.river_kernels.specs.Limits.{told}
use Rattle.river_plan.specs.declared.fault.Named.TheVariants.{Queue, Variable, Label}
use Rattle.river_plan.specs.declared.fault.PlanFault.{PlanFault}
use Rattle.river_plan.specs.declared.fault.PlanFault.TheVariants.{P1, P2, P3, P4, P5, P6, P7, P8, P9}
use Rattle.river_plan.specs.Forms.{PlanForm, queue_names, variable_names, labels, decl_names}
use Rattle.river_plan.specs.First.{OrElse, As, Unless, Along, IsFirst}
use Rattle.river_plan.specs.Limits.{OverLimit, OverLimitAt, most_of, numbers, limits}
use Rattle.river_plan.specs.Faults.{UndeclaredAt, ReadTooEarlyAt, IsWritten, IsIn, Repeated, Undeclared, ReadTooEarly, Mistyped}
use Rattle.river_plan.specs.Valid.{FirstFault}

-- the search finds at most one thing, and not both something and nothing
abbrev pub IsOne : {B : Type 0} → (Option B → Type 0) → Type 0
IsOne {B = B} s = (o p : Option B) → s o → s p → o ≡ p

unless-one : {A : Type 0} (good : Type 0) (y : A) → IsOne (Unless good y)
unless-one good y None None h k = refl
unless-one good y None (Some x) h k = absurd (k.0 h)
unless-one good y (Some x) None h k = absurd (h.0 k)
unless-one good y (Some x) (Some z) h k = ap Some (sym h.1 ∙ k.1)

-- of one search, and then another
pub or_else-one : {B : Type 0} (s t : Option B → Type 0) → IsOne s → IsOne t → IsOne (OrElse s t)
or_else-one s t hs ht None None h k = refl
or_else-one s t hs ht None (Some b) h k = ⊎_elim (λ x. hs None (Some b) h.0 x) (λ x. ht None (Some b) h.1 x.1) k
or_else-one s t hs ht (Some a) None h k = ⊎_elim (λ x. hs (Some a) None x k.0) (λ x. ht (Some a) None x.1 k.1) h
or_else-one s t hs ht (Some a) (Some b) h k = ⊎_elim
    (λ x. ⊎_elim (λ y. hs (Some a) (Some b) x y) (λ y. absurd (let e = hs (Some a) None x y.0 in cc e)) k)
    (λ x. ⊎_elim (λ y. absurd (let e = hs (Some b) None y x.0 in cc e)) (λ y. ht (Some a) (Some b) x.1 y.1) k)
    h

-- by another name
pub as-one : {A B : Type 0} (f : A → B) (s : Option A → Type 0) → IsOne s → IsOne (As f s)
as-one f s hs None None h k = refl
as-one f s hs None (Some c) h k = absurd (let e = hs None (Some k.0) h k.2 in cc e)
as-one f s hs (Some b) None h k = absurd (let e = hs (Some h.0) None h.2 k in cc e)
as-one f s hs (Some b) (Some c) h k = let e : h.0 ≡ k.0 = (let g = hs (Some h.0) (Some k.0) h.2 k.2 in cc g) in ap Some (sym h.1 ∙ ap f e ∙ k.1)

-- of each element in turn
pub along-one : {A B : Type 0} (s : List A → A → Option B → Type 0) → ((b : List A) (y : A) → IsOne (s b y)) → (before xs : List A) → IsOne (Along s before xs)
along-one s hs before [] None None h k = refl
along-one s hs before [] None (Some b) h k = absurd k
along-one s hs before [] (Some a) None h k = absurd h
along-one s hs before [] (Some a) (Some b) h k = absurd h
along-one s hs before (y ∷ ys) o p h k = or_else-one (s before y) (Along s (before ++ y ∷ []) ys) (hs before y) (along-one s hs (before ++ y ∷ []) ys) o p h k

-- the first element that is not good
pub first-one : {A : Type 0} (good : List A → A → Type 0) (xs : List A) → IsOne (IsFirst good xs)
first-one good xs = along-one (λ b y. Unless (good b y) y) (λ b y. unless-one (good b y) y) [] xs

-- told by a function of it
pub as_first-one : {A B : Type 0} (f : A → B) (good : List A → A → Type 0) (xs : List A) → IsOne (As f (IsFirst good xs))
as_first-one f good xs = as-one f (IsFirst good xs) (first-one good xs)

-- names that stand twice
pub repeated-one : (p : PlanForm) → IsOne (Repeated p)
repeated-one p =
    or_else-one _ _ (as_first-one Queue _ (queue_names p)) (or_else-one _ _ (as_first-one Variable _ (variable_names p)) (as_first-one Label _ (labels p.ops)))

-- names that are not declared
pub undeclared-one : (p : PlanForm) → IsOne (Undeclared p)
undeclared-one p = along-one (λ b op. UndeclaredAt (queue_names p) (variable_names p) op)
    (λ b op. or_else-one _ _ (as_first-one Queue (IsIn (queue_names p)) op.reads)
    (or_else-one _ _ (as_first-one Queue (IsIn (queue_names p)) op.writes) (as_first-one Variable (IsIn (variable_names p)) op.vars))) [] p.ops

-- queues that are read before they are written
pub early-one : (p : PlanForm) → IsOne (ReadTooEarly p)
early-one p = along-one (ReadTooEarlyAt (decl_names p.inputs)) (λ b op. as_first-one Queue (λ c r. IsWritten (decl_names p.inputs) b r) op.reads) [] p.ops

mistyped-one : (p : PlanForm) → IsOne (Mistyped p)
mistyped-one p =
    or_else-one _ _ (as_first-one _ _ p.outputs)
    (or_else-one _ _ (as_first-one _ _ p.inputs) (or_else-one _ _ (as_first-one _ _ p.queues) (as_first-one _ _ p.tables)))

over-one : (p : PlanForm) → IsOne (OverLimit p)
over-one p =
    along-one (λ b limit. OverLimitAt p limit) (λ b limit. as_first-one (λ n. P8 limit (told n)) (λ c n. n ≤ most_of limit) (numbers limit p)) [] limits

-- a plan has one first fault
pub fault-one : (p : PlanForm) (o q : Option PlanFault) → FirstFault p o → FirstFault p q → o ≡ q
fault-one p =
    or_else-one _ _ (as-one P1 _ (repeated-one p))
    (or_else-one _ _ (as-one P2 _ (undeclared-one p))
    (or_else-one _ _ (as-one P3 _ (as_first-one Queue _ (queue_names p)))
    (or_else-one _ _ (as-one P4 _ (as_first-one Queue _ (queue_names p)))
    (or_else-one _ _ (as-one P5 _ (early-one p))
    (or_else-one _ _ (as-one P6 _ (mistyped-one p))
    (or_else-one _ _ (as-one P7 _ (as_first-one _ _ p.ops))
    (or_else-one _ _ (over-one p)
    (as-one P9 _ (as_first-one Variable _ (variable_names p))))))))))
