-- A valid plan that keeps the grammar's bounds can be written.
use Rattle.std.proofs.Common.{◌≡◌, ℕ, zero, suc, ◌<◌, ◌≤◌, ℤ, pos, negsuc, true, ◌&&◌, Option, Some, None, List, [], ◌∷◌, length, refl, sym, arith}
use Rattle.std.specs.Prelude.{All, nat_le, nat_lt, nat_eq, slice_get, map}
use Rattle.std.specs.List.{list_all}
use Rattle.std.proofs.lemmas.Bool.{and_parts, true≢false}
use Rattle.std.proofs.lemmas.Bool.Decides.{nat_tests}
use Rattle.std.proofs.lemmas.List.Elements.{All-head, All-tail}
use Rattle.river_base.proofs.Tests.{eq_by, le_by}
use Rattle.work_code.specs.Term.{Term, Const, Input, Slot, Neg, Not, Bin, depth_of}
use Rattle.work_code.specs.Steps.{Step, Steps, Set, Push, If, Done, Then}
use Rattle.kern_rows.specs.Forms.{CodeForm, FilterForm, RunForm}
use Rattle.kern_bags.specs.declared.kernel.Window.{Window}
use Rattle.kern_bags.specs.declared.kernel.Window.TheVariants.{Now, Range, Unbounded, Latest}
use Rattle.river_base.specs.Number.{count_of}
use Rattle.river_base.specs.declared.kind.QueueType.{QueueType}
use Rattle.river_base.specs.declared.kind.QueueType.TheVariants.{Flat}
use Rattle.river_kernels.specs.declared.types.VarKind.{VarKind}
use Rattle.river_kernels.specs.Formed.{is_width, is_sound, is_term, counts, has_port, is_step, is_steps, is_code, is_filter, is_usual, is_run, is_first, has_rates, is_number, are_weights}
use Rattle.river_kernels.specs.Formed.{pushes}
use Rattle.river_kernels.specs.Fits.{Fits, is_sized, is_bag, are_widths, width_of}
use Rattle.river_kernels.specs.Kern.{Kern}
use Rattle.river_kernels.specs.Kern as kern
use Rattle.river_kernels.specs.declared.limit.Limit.TheVariants.{Nesting}
use Rattle.river_kernels.specs.Limits.{nesting}
use Rattle.river_plan.specs.Forms.{OpForm, PlanForm, all_decls}
use Rattle.river_plan.specs.Uses.{Each}
use Rattle.river_plan.specs.Kinds.{IsFit, kind_of, var_kind}
use Rattle.river_plan.specs.Limits.{nestings}
use Rattle.river_plan.specs.Valid.{IsPlan}
use Rattle.river_print.specs.Writable as w
use Rattle.river_print.specs.Writable.{depths}
use Rattle.river_print.specs.Printable as r
use Rattle.river_print.specs.Ranged as ranges

-- EXPRESSIONS

spoken : (inputs slots : ℕ) (t : Term) → is_sound inputs slots t ≡ true → ranges.IsRangedTerm t → w.IsSpoken t
spoken i s (Const (pos n)) h k = (n, refl, k)
spoken i s (Const (negsuc n)) h k = absurd (true≢false (sym h))
spoken i s (Input place) h k = k
spoken i s (Slot slot) h k = k
spoken i s (Neg t) h k = spoken i s t h k
spoken i s (Not t) h k = spoken i s t h k
spoken i s (Bin o l m) h k = let a = and_parts (is_sound i s l) (is_sound i s m) h in (spoken i s l a.0 k.0, spoken i s m a.1 k.1)

term : (inputs slots : ℕ) (t : Term) → is_term inputs slots t ≡ true → ranges.IsRangedTerm t → w.IsWritableTerm t
term i s t h k = let a = and_parts (is_sound i s t) (nat_le (depth_of t) 64) h in (spoken i s t a.0 k, le_by (depth_of t) 64 a.1)

terms : (inputs slots : ℕ) (ts : List Term) → list_all (is_term inputs slots) ts ≡ true → w.Every ranges.IsRangedTerm ts → w.Every w.IsWritableTerm ts
terms i s [] h k = tt
terms i s (t ∷ ts) h k = let a = and_parts (is_term i s t) (list_all (is_term i s) ts) h in (term i s t a.0 k.0, terms i s ts a.1 k.1)

-- STATEMENTS

abbrev IsWide : Option ℤ → Type 0
IsWide None = Unit {0}
IsWide (Some z) = 0 < count_of z

-- the ports of a body have a width
some_values : (outs : List ℤ) (port n : ℕ) → are_widths outs ≡ true → has_port outs port n ≡ true → 0 < n
some_values outs port n h k = of_port (slice_get outs port) (there outs port h) k
  where
    wide : (z : ℤ) → is_width (count_of z) ≡ true → 0 < count_of z
    wide z h = let a = and_parts (nat_le 1 (count_of z)) (nat_le (count_of z) 16) h in let b = le_by 1 (count_of z) a.0 in omega (arith, b)

    there : (zs : List ℤ) (port : ℕ) → are_widths zs ≡ true → IsWide (slice_get zs port)
    there [] port h = tt
    there (z ∷ zs) zero h = let a = and_parts (is_width (count_of z)) (are_widths zs) h in wide z a.0
    there (z ∷ zs) (suc port) h = let a = and_parts (is_width (count_of z)) (are_widths zs) h in there zs port a.1

    of_port : (o : Option ℤ) → IsWide o → counts o n ≡ true → 0 < n
    of_port None h k = absurd (true≢false (sym k))
    of_port (Some z) h k = let e : count_of z ≡ n = grind (arith, nat_tests, k) in omega (arith, e, h)

mutual
  step : (inputs slots : ℕ) (outs : List ℤ) (x : Step) → are_widths outs ≡ true → is_step inputs slots outs x ≡ true → ranges.IsRangedStep x
      → w.IsWritableStep x
  step i s outs (Set slot t) wide h k = let a = and_parts (nat_lt slot s) (is_term i s t) h in (k.0, term i s t a.1 k.1)
  step i s outs (Push port ts) wide h k =
      let a = and_parts (has_port outs port (length ts)) (list_all (is_term i s) ts) h in
      (k.0, some_values outs port (length ts) wide a.0, terms i s ts a.1 k.1)
  step i s outs (If cond when otherwise) wide h k =
      let a = and_parts (is_term i s cond) (is_steps i s outs when && is_steps i s outs otherwise) h in
      let b = and_parts (is_steps i s outs when) (is_steps i s outs otherwise) a.1 in
      (term i s cond a.0 k.0, steps i s outs when wide b.0 k.1, steps i s outs otherwise wide b.1 k.2)

  steps : (inputs slots : ℕ) (outs : List ℤ) (xs : Steps) → are_widths outs ≡ true → is_steps inputs slots outs xs ≡ true → ranges.IsRangedSteps xs
      → w.AreWritableSteps xs
  steps i s outs Done wide h k = tt
  steps i s outs (Then x xs) wide h k =
      let a = and_parts (is_step i s outs x) (is_steps i s outs xs) h in (step i s outs x wide a.0 k.0, steps i s outs xs wide a.1 k.1)

-- WIDTHS AND WEIGHTS

width : (z : ℤ) → is_width (count_of z) ≡ true → w.IsWidth z
width (pos n) h = let a = and_parts (nat_le 1 n) (nat_le n 16) h in let b = le_by n 16 a.1 in (n, refl, omega (arith, b))
width (negsuc n) h = absurd (true≢false (sym h))

widths : (zs : List ℤ) → are_widths zs ≡ true → w.Every w.IsWidth zs
widths [] h = tt
widths (z ∷ zs) h = let a = and_parts (is_width (count_of z)) (are_widths zs) h in (width z a.0, widths zs a.1)

weight : (z : ℤ) → nat_le 1 (count_of z) ≡ true → w.IsWritableStart z → w.IsNatural z
weight (pos n) h k = (n, refl, k)
weight (negsuc n) h k = absurd (true≢false (sym h))

each_weight : (zs : List ℤ) → list_all (λ z. nat_le 1 (count_of z)) zs ≡ true → w.Every w.IsWritableStart zs → w.Every w.IsNatural zs
each_weight [] h k = tt
each_weight (z ∷ zs) h k = let a = and_parts (nat_le 1 (count_of z)) (list_all (λ y. nat_le 1 (count_of y)) zs) h in (weight z a.0 k.0, each_weight zs a.1 k.1)

weights : (zs : List ℤ) → are_weights zs ≡ true → w.Every w.IsWritableStart zs → (0 < length zs) × w.Every w.IsNatural zs
weights zs h k =
    let a = and_parts (nat_le 1 (length zs)) (list_all (λ z. nat_le 1 (count_of z)) zs) h in let b = le_by 1 (length zs) a.0 in
    (omega (arith, b), each_weight zs a.1 k)

-- KERNELS

window : (x : Window) → ranges.IsRangedWindow x → r.IsForward x → w.IsWritableWindow x
window Now k f = tt
window (Range (pos n)) k f = (n, refl, k)
window (Range (negsuc n)) k f = absurd f
window Unbounded k f = tt
window (Latest n) k f = k

code : (c : CodeForm) → are_widths c.outs ≡ true → is_code c ≡ true → ranges.IsRangedCode c → depths c.body.steps ≤ 16 → w.IsWritableCode c
code c wide h k s =
    let a = and_parts (is_steps c.body.inputs c.body.slots c.outs c.body.steps) (nat_le (length c.starts) c.body.slots) h in
    (k.0.0, k.0.1, widths c.outs wide, k.2, (steps c.body.inputs c.body.slots c.outs c.body.steps wide a.0 k.0.2, s))

run : (slots : ℕ) (x : RunForm) → is_run slots x ≡ true → ranges.IsRangedRun x → depths x.body.steps ≤ 16 → w.IsWritableRun slots x
run slots x h k d =
    let body = is_steps x.peek slots (pos 1 ∷ []) x.body.steps in
    let a = and_parts (nat_eq x.body.inputs x.peek)
    (nat_eq x.body.slots slots && (nat_le x.pop x.peek && (body && is_number (pushes x.body.steps) x.push))) h in
    let b = and_parts (nat_eq x.body.slots slots) (nat_le x.pop x.peek && (body && is_number (pushes x.body.steps) x.push)) a.1 in
    let c = and_parts (nat_le x.pop x.peek) (body && is_number (pushes x.body.steps) x.push) b.1 in
    let e = and_parts body (is_number (pushes x.body.steps) x.push) c.1 in
    (k.0, k.1, k.2, (steps x.peek slots (pos 1 ∷ []) x.body.steps refl e.0 k.3.2, d), eq_by x.body.inputs x.peek a.0, eq_by x.body.slots slots b.0)

first : (slots : ℕ) (o : Option RunForm) → is_first slots o ≡ true → ranges.IsRangedFirst o → r.IsShallowFirst o → w.IsWritableFirst slots o
first slots None h k d = tt
first slots (Some x) h k d = run slots x h k d

filter : (f : FilterForm) → is_filter f ≡ true → ranges.IsRangedFilter f → r.IsShallow (kern.filter f) → w.IsWritableFilter f
filter f h0 k s =
    let z = and_parts (is_usual f) (is_first f.body.slots f.first) h0 in
    let h = z.0 in
    let a = and_parts (has_rates f)
    (is_steps f.peek f.body.slots (pos 1 ∷ []) f.body.steps && (nat_le (length f.starts) f.body.slots && is_number (pushes f.body.steps) f.push)) h in
    let b = and_parts (is_steps f.peek f.body.slots (pos 1 ∷ []) f.body.steps)
    (nat_le (length f.starts) f.body.slots && is_number (pushes f.body.steps) f.push) a.1 in
    let c = and_parts (nat_eq f.body.inputs f.peek) (nat_le 1 f.pop && nat_le f.pop f.peek) a.0 in (
      k.0,
      k.1,
      k.2,
      k.3.1,
      k.4,
      (steps f.peek f.body.slots (pos 1 ∷ []) f.body.steps refl b.0 k.3.2, s.0),
      eq_by f.body.inputs f.peek c.0,
      first f.body.slots f.first z.1 k.5 s.1,
    )

kernel : (k : Kern) (is os : List QueueType) (vs : List VarKind) → Fits k is os vs → ranges.IsRangedKernel k → r.IsShallow k → r.HasForward k
    → w.IsWritableKernel k
kernel (kern.code c) is os vs f k s d =
    let a = and_parts (is_width c.body.inputs) (are_widths c.outs && is_code c) f.3 in
    let b = and_parts (are_widths c.outs) (is_code c) a.1 in
    code c b.0 b.1 k s
kernel (kern.filter x) is os vs f k s d = filter x f.3 k s
kernel (kern.deal ws) is os vs f k s d = weights ws (and_parts (is_sized f.0) (are_weights ws) f.4).1 k
kernel (kern.collect ws) is os vs f k s d = weights ws (and_parts (is_sized f.0) (are_weights ws) f.4).1 k
kernel (kern.packed x) is os vs f k s d = kernel x (Flat f.0 ∷ []) (Flat f.1 ∷ []) [] f.5 k s d
kernel (kern.window x) is os vs f k s d = window x k d
kernel (kern.select e) is os vs f k s d =
    let a = and_parts (is_sized f.0) (is_bag f.0 && is_term (width_of f.0) 0 e) f.4 in
    term (width_of f.0) 0 e (and_parts (is_bag f.0) (is_term (width_of f.0) 0 e) a.1).1 k
kernel (kern.project es) is os vs f k s d =
    let a = and_parts (is_width f.0) (is_width (length es) && list_all (is_term f.0 0) es) f.4 in
    let b = and_parts (is_width (length es)) (list_all (is_term f.0 0) es) a.1 in
    let c = le_by 1 (length es) (and_parts (nat_le 1 (length es)) (nat_le (length es) 16) b.0).0 in
    (omega (arith, c), terms f.0 0 es b.1 k)
kernel (kern.fused a b at) is os vs f k s d = (k.2, kernel a is f.0 f.3 f.5 k.0 s.0 d.0, kernel b (f.1 ∷ []) f.2 f.4 f.7 k.1 s.1 d.1)
kernel other is os vs f k s d = k

-- PLANS

operators : (p : PlanForm) (ops : List OpForm) → Each (IsFit p) ops → All (λ n. n ≤ 32) (nestings ops) → w.Every ranges.IsRangedOp ops
    → w.Every (λ op. r.IsShallow op.kernel) ops → w.Every (λ op. r.HasForward op.kernel) ops → w.Every w.IsWritableOp ops
operators p [] f n k s d = tt
operators p (op ∷ ops) f n k s d = (
  (
    k.0.0,
    kernel op.kernel (map (kind_of (all_decls p)) op.reads) (map (kind_of (all_decls p)) op.writes) (map (var_kind p.tables p.vars) op.vars) f.0 k.0.1 s.0 d.0,
    All-head (λ m. m ≤ 32) (nesting op.kernel) (nestings ops) n,
    k.0.2,
    k.0.3,
    k.0.4,
  ),
  operators p ops f.1 (All-tail (λ m. m ≤ 32) (nesting op.kernel) (nestings ops) n) k.1 s.1 d.1,
)

-- a valid plan within the grammar's bounds has what the grammar has
pub printable-writable : (p : PlanForm) → IsPlan p → ranges.IsRanged p → r.IsPrintable p → w.IsWritable p
printable-writable p valid ranged h = record {
  outputs = ranged.outputs;
  inputs = ranged.inputs;
  queues = ranged.queues;
  tables = ranged.tables;
  vars = ranged.vars;
  ops = operators p p.ops valid.fits (valid.within Nesting) ranged.ops h.shallow h.forward;
}
