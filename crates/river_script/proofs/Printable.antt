-- Each step keeps a plan within the bounds of River text.
use Rattle.std.proofs.Common.{◌≡◌, ℕ, zero, suc, Bool, true, false, List, [], ◌∷◌, ◌++◌, Option, Some, None, Result, Ok, Err, refl, sym, subst, ⊎_elim}
use Rattle.std.specs.Prelude.{if◌then◌else◌, nat_lt}
use Rattle.river_kernels.specs.Kern.{Kern}
use Rattle.river_plan.specs.Forms.{Name, OpForm, PlanForm}
use Rattle.river_plan.specs.Names.{count}
use Rattle.river_plan.specs.Uses.{writes_it, reads_it, named_it}
use Rattle.river_base.specs.declared.kind.QueueType.{QueueType}
use Rattle.river_print.specs.Printable.{IsShallow, HasForward}
use Rattle.river_print.specs.Writable.{Every}
use Rattle.river_print.proofs.Spoken.{IsSpoken, every-joined, spoken-printable, printable-spoken}
use Rattle.plan_edits.specs.declared.unfit.Unfit.{Unfit}
use Rattle.plan_edits.specs.Lists.{first_with, replaced, swapped}
use Rattle.rw_local.specs.Fuse.{fused_op, fuse_of}
use Rattle.rw_local.specs.Hoist.{raised, lowered, hoist_of}
use Rattle.rw_local.proofs.FuseSteps as fusion
use Rattle.rw_local.proofs.HoistSteps as hoisting_up
use Rattle.rw_fission.specs.Asked.{fission_of}
use Rattle.rw_fission.specs.Fission.{Way, replica_op, each_op, joiner_ops, split_ops}
use Rattle.rw_fission.specs.Made.{FissionNames, made_of}
use Rattle.rw_fission.proofs.Accepted as fission
use Rattle.river_script.specs.Script.{StepForm, fusing, hoisting, splitting, after_step, then_all, script_from, ScriptIsPrintable}

-- LISTS OF OPERATORS

-- the first with a number is one of them
first-spoken : (f : OpForm → ℕ) (ops : List OpForm) (op : OpForm) → Every IsSpoken ops → first_with f ops ≡ Some op → IsSpoken op
first-spoken f [] op h e = absurd (cc e)
first-spoken f (x ∷ xs) op h e = by (nat_lt 0 (f x)) e (first-spoken f xs op h.1)
  where
    by : (b : Bool) → (if b then Some x else first_with f xs) ≡ Some op → (first_with f xs ≡ Some op → IsSpoken op) → IsSpoken op
    by true g later = subst IsSpoken (let same : x ≡ op = cc in same) h.0
    by false g later = later g

replaced-spoken : (q : Name) (news ops : List OpForm) → Every IsSpoken news → Every IsSpoken ops → Every IsSpoken (replaced q news ops)
replaced-spoken q news [] n h = tt
replaced-spoken q news (op ∷ ops) n h = by (nat_lt 0 (count q op.writes)) (nat_lt 0 (count q op.reads)) (replaced-spoken q news ops n h.1)
  where
    by : (b c : Bool) → Every IsSpoken (replaced q news ops)
        → Every IsSpoken (if b then news ++ replaced q news ops else (if c then replaced q news ops else op ∷ replaced q news ops))
    by true c rest = every-joined IsSpoken news (replaced q news ops) n rest
    by false true rest = rest
    by false false rest = (h.0, rest)

swapped-spoken : (l : Name) (news ops : List OpForm) → Every IsSpoken news → Every IsSpoken ops → Every IsSpoken (swapped l news ops)
swapped-spoken l news [] n h = tt
swapped-spoken l news (op ∷ ops) n h = by (nat_lt 0 (named_it l op)) (swapped-spoken l news ops n h.1)
  where
    by : (b : Bool) → Every IsSpoken (swapped l news ops) → Every IsSpoken (if b then news ++ ops else op ∷ swapped l news ops)
    by true rest = every-joined IsSpoken news ops n h.1
    by false rest = (h.0, rest)

-- THE STEPS

-- both parts of a fused operator are operators of the plan
fuse-spoken : (p p' : PlanForm) (q : Name) → Every IsSpoken p.ops → fuse_of p q ≡ Ok p' → Every IsSpoken p'.ops
fuse-spoken p p' q h e =
    let a = fusion.accepted p q p' e in
    let w = first-spoken (writes_it q) p.ops a.writer h a.may.writer in
    let r = first-spoken (reads_it q) p.ops a.reader h a.may.reader in
    subst (λ (x : PlanForm). Every IsSpoken x.ops) a.is
    (replaced-spoken q (fused_op q a.writer a.reader ∷ []) p.ops (((w.0, r.0), (w.1, r.1)), tt) h)

-- a selection has no body and no window, and the operator below it stays as it is
hoist-spoken : (p p' : PlanForm) (l : Name) → Every IsSpoken p.ops → hoist_of p l ≡ Ok p' → Every IsSpoken p'.ops
hoist-spoken p p' l h e =
    let a = hoisting_up.accepted p l p' e in
    let b = first-spoken (writes_it a.mid) p.ops a.below h a.may.below in
    subst (λ (x : PlanForm). Every IsSpoken x.ops) a.is
    (replaced-spoken a.mid (raised a.above a.moved a.src a.mid ∷ lowered a.below a.side a.mid a.out ∷ []) p.ops ((tt, tt), (b, tt)) h)

-- a kernel within the bounds
abbrev IsSpokenKernel : Kern → Type 0
IsSpokenKernel k = IsShallow k × HasForward k

abbrev IsSpokenJoin : Option (Kern × QueueType) → Type 0
IsSpokenJoin None = Unit {0}
IsSpokenJoin (Some j) = IsSpokenKernel j.0

-- the replicas and the joiner of a way
record IsSpokenWay (w : Way) : Type 0 where
  inner : IsSpokenKernel w.inner
  join : IsSpokenJoin w.join

way-spoken : (p : PlanForm) (op : OpForm) (m : FissionNames) (n : ℕ) (source : Name) (w : Way) → IsSpoken op → fission.IsWay p op m n source w → IsSpokenWay w
way-spoken p op m n source w h i = ⊎_elim
    (λ a. subst IsSpokenWay (sym a.is) (record { inner = h; join = (tt, tt) }))
    (λ o. ⊎_elim
    (λ b. subst IsSpokenWay (sym b.is) (record { inner = h; join = (tt, tt) }))
    (λ c. subst IsSpokenWay (sym c.is) (record { inner = h; join = tt }))
    o)
    i.one

replicas-spoken : (f : ℕ → OpForm) → ((i : ℕ) → IsSpoken (f i)) → (n : ℕ) → Every IsSpoken (each_op f n)
replicas-spoken f h zero = tt
replicas-spoken f h (suc n) = (h 0, replicas-spoken (λ i. f (suc i)) (λ i. h (suc i)) n)

joiner-spoken : (op : OpForm) (m : FissionNames) (n : ℕ) (o : Option (Kern × QueueType)) → IsSpokenJoin o → Every IsSpoken (joiner_ops op m n o)
joiner-spoken op m n None h = tt
joiner-spoken op m n (Some j) h = (h, tt)

split-spoken : (op : OpForm) (m : FissionNames) (n : ℕ) (w : Way) → IsSpokenWay w → Every IsSpoken (split_ops op m n w)
split-spoken op m n w h = (
  (tt, tt),
  every-joined IsSpoken (each_op (replica_op w m) n) (joiner_ops op m n w.join)
      (replicas-spoken (replica_op w m) (λ i. h.inner) n) (joiner-spoken op m n w.join h.join),
)

fission-spoken : (p p' : PlanForm) (l : Name) (n : ℕ) → Every IsSpoken p.ops → fission_of p l n ≡ Ok p' → Every IsSpoken p'.ops
fission-spoken p p' l n h e =
    let a = fission.accepted p l n p' e in
    let o = first-spoken (named_it l) p.ops a.op h a.here in
    let w = way-spoken p a.op (made_of l) n a.source a.way o (fission.way_is p a.op (made_of l) n a.source a.way a.reads a.way_is) in
    subst (λ (x : PlanForm). Every IsSpoken x.ops) (sym a.is)
    (swapped-spoken l (split_ops a.op (made_of l) n a.way) p.ops (split-spoken a.op (made_of l) n a.way w) h)

step-spoken : (p p' : PlanForm) (s : StepForm) → Every IsSpoken p.ops → after_step p s ≡ Ok p' → Every IsSpoken p'.ops
step-spoken p p' (fusing q) h e = fuse-spoken p p' q h e
step-spoken p p' (hoisting l) h e = hoist-spoken p p' l h e
step-spoken p p' (splitting l n) h e = fission-spoken p p' l n h e

-- steps one after another
script-spoken : (n : ℕ) (p p' : PlanForm) (ss : List StepForm) → Every IsSpoken p.ops → script_from n p ss ≡ Ok p' → Every IsSpoken p'.ops
script-spoken n p p' [] h e = subst (λ (x : PlanForm). Every IsSpoken x.ops) (let same : p ≡ p' = cc in same) h
script-spoken n p p' (s ∷ ss) h e = by (after_step p s) refl e (λ q. script-spoken (suc n) q p' ss)
  where
    by : (r : Result PlanForm Unfit) → after_step p s ≡ r → then_all n r (λ q. script_from (suc n) q ss) ≡ Ok p'
        → ((q : PlanForm) → Every IsSpoken q.ops → script_from (suc n) q ss ≡ Ok p' → Every IsSpoken p'.ops) → Every IsSpoken p'.ops
    by (Err f) is g later = absurd (cc g)
    by (Ok q) is g later = later q (step-spoken p q s h is) g

-- the law: a script keeps a plan within the bounds of River text
pub script_is_printable : ScriptIsPrintable
script_is_printable p p' ss h e = spoken-printable p' (script-spoken 1 p p' ss (printable-spoken p h) e)
