-- Each firing lowers the number of firings that can still come.
use Rattle.std.proofs.Common.{◌≡◌, ℕ, ℤ, zero, suc, ◌+◌, ◌-◌, ◌*◌, ◌^◌, ◌<◌, ◌≤◌, Some, List, [], ◌∷◌, ◌++◌, length, map, refl, sym, ap, ◌∙◌, subst, arith, ⊎_elim}
use Rattle.std.specs.Prelude.{slice_get}
use Rattle.std.proofs.lemmas.List.{length-append}
use Rattle.std.proofs.lemmas.Option.{slice_get_within}
use Rattle.std.proofs.Math.Nat.{mul-le-mul_right, mul-le-mul_left, one-le-pow, pow-le-pow_right, pow-suc}
use Rattle.river_base.specs.declared.item.Item as item
use Rattle.river_base.specs.Name.{name_eq}
use Rattle.river_base.proofs.Lists.{got_map}
use Rattle.work_code.specs.Steps.{BodyForm}
use Rattle.work_code.specs.Ran.{ran}
use Rattle.kern_rows.specs.Runs.{pushed_to, slots_from}
use Rattle.river_kernels.specs.Limits.{size}
use Rattle.river_plan.specs.Forms.{Name, decl_names}
use Rattle.river_plan.specs.Names.{count, one_if}
use Rattle.river_plan.specs.Uses.{total, writes_it, reads_it, and_writes, ReadsBefore}
use Rattle.river_plan.proofs.NameLemmas.{cases_name}
use Rattle.brooklet_model.specs.Fire.{values_of}
use Rattle.brooklet_model.specs.Histories.{joined}
use Rattle.brooklet_model.specs.Machine.{at_name}
use Rattle.brooklet_model.proofs.Traces.{at_most, got_count, joined_out}
use Rattle.free_model.specs.Forms.{FreeOpForm, FreeForm, wired, wired_op}
use Rattle.free_model.specs.Valid.{IsFree}
use Rattle.free_model.specs.Machine.{State, Step, ran_at, fired}
use Rattle.free_model.specs.Bound.{rows_left, firings_left, FiringsCountDown}
use Rattle.free_model.proofs.Firings.{at_other, at_here}
use Rattle.free_model.proofs.Pushes.{ran_few, body_small, sum_names, sum_reads, reads_few}

-- ONE QUEUE

abbrev left_at : State → Name → ℕ
left_at s n = length (s.hist n) - s.taken n

-- one more was taken of this queue alone
taken_one : (t : Name → ℕ) (q n : Name) → at_name q (suc (t q)) t n ≡ t n + one_if (name_eq n q)
taken_one t q n = ⊎_elim
    (λ c. let e = at_here q n (suc (t q)) t (sym c.0) in let a = ap t c.0 in let b = ap one_if c.1 in omega (arith, e, a, b))
    (λ c. let e = at_other q n (suc (t q)) t (λ h. c.0 (sym h)) in let b = ap one_if c.1 in omega (arith, e, b))
    (cases_name n q)

-- there was one to take
one_there : (s : State) (q n : Name) (x : item.Item) → slice_get (s.hist q) (s.taken q) ≡ Some x → one_if (name_eq n q) ≤ left_at s n
one_there s q n x g = ⊎_elim
    (λ c. let lt = subst (λ k. s.taken k < length (s.hist k)) (sym c.0) (slice_get_within (s.hist q) (s.taken q) x g) in
    let b = ap one_if c.1 in omega (arith, lt, b))
    (λ c. let b = ap one_if c.1 in omega (arith, b))
    (cases_name n q)

-- MANY QUEUES

rows_more : (s m : State) (g : Name → ℕ) (qs : List Name) → ((n : Name) → left_at m n ≤ left_at s n + g n) → rows_left m qs ≤ rows_left s qs + sum_names g qs
rows_more s m g [] h = omega arith
rows_more s m g (q ∷ qs) h = let a = h q in let i = rows_more s m g qs h in omega (arith, a, i)

rows_fewer : (s m : State) (q : Name) (qs : List Name) → ((n : Name) → 0 < count n qs → left_at m n + one_if (name_eq n q) ≤ left_at s n)
    → rows_left m qs + count q qs ≤ rows_left s qs
rows_fewer s m q [] h = omega arith
rows_fewer s m q (r ∷ qs) h =
    let o = got_count (r ∷ qs) 0 r refl in
    let a = h r o in
    let i = rows_fewer s m q qs (λ n lt. h n (omega (arith, lt))) in
    omega (arith, a, i)

-- OPERATORS BEHIND

weighed : (a b g k l w W : ℕ) → a ≤ b + g → k ≤ l + w * W → (P : ℕ) → P ≤ W → a * P + k ≤ b * P + l + (g + w) * W
weighed a b g k l w W h i P le =
    let x = mul-le-mul_right P h in
    let y : (b + g) * P ≡ b * P + g * P = omega arith in
    let z = mul-le-mul_left g le in
    let d : (g + w) * W ≡ g * W + w * W = omega arith in
    omega (arith, x, y, z, d, i)

behind : (s m : State) (g : Name → ℕ) → ((n : Name) → left_at m n ≤ left_at s n + g n) → (k : ℕ) (ops : List FreeOpForm) → length ops ≤ suc k
    → firings_left ops m ≤ firings_left ops s + sum_reads g ops * 16385 ^ k
behind s m g h k [] le = omega arith
behind s m g h k (op ∷ ops) le =
    weighed (rows_left m op.reads) (rows_left s op.reads) (sum_names g op.reads) (firings_left ops m) (firings_left ops s) (sum_reads g ops) (16385 ^ k)
    (rows_more s m g op.reads h) (behind s m g h k ops (omega (arith, le))) (16385 ^ length ops) (pow-le-pow_right (omega arith) (omega (arith, le)))

-- what comes to the operators behind counts less than the row that was taken
behind_all : (s m : State) (g : Name → ℕ) → ((n : Name) → left_at m n ≤ left_at s n + g n) → (ops : List FreeOpForm) → sum_reads g ops ≤ 16384
    → firings_left ops m < firings_left ops s + 16385 ^ length ops
behind_all s m g h [] le = omega arith
behind_all s m g h (op ∷ ops) le =
    let W = 16385 ^ length ops in
    let b = behind s m g h (length ops) (op ∷ ops) (omega arith) in
    let c = mul-le-mul_right W le in
    let e = pow-suc 16385 (length ops) in
    let o = one-le-pow (length ops) 16385 (omega arith) in
    let d : W * 16385 ≡ 16384 * W + W = omega arith in
    omega (arith, b, c, e, o, d)

-- ALL OPERATORS

first_falls : (a b k l P : ℕ) → a + 1 ≤ b → k < l + P → a * P + k < b * P + l
first_falls a b k l P h i =
    let x = mul-le-mul_right P h in
    let y : (a + 1) * P ≡ a * P + P = omega arith in
    omega (arith, x, y, i)

later_falls : (a b k l P : ℕ) → a ≤ b → k < l → a * P + k < b * P + l
later_falls a b k l P h i = let x = mul-le-mul_right P h in omega (arith, x, i)

-- a firing of operator number o, as far as the queues tell it
record Taking (s m : State) (op : FreeOpForm) (q : Name) (g : Name → ℕ) : Type 0 where
  reads : 0 < count q op.reads
  more : (n : Name) → left_at m n ≤ left_at s n + g n
  fewer : (n : Name) → count n op.writes ≡ 0 → left_at m n + one_if (name_eq n q) ≤ left_at s n
  few : (ops : List FreeOpForm) → ((n : Name) → total (reads_it n) (map wired_op ops) ≤ 1) → sum_reads g ops ≤ 16384

falls : (s m : State) (op : FreeOpForm) (q : Name) (g : Name → ℕ) → Taking s m op q g → (known : Name → ℕ) (ops : List FreeOpForm) (o : ℕ)
    → slice_get ops o ≡ Some op → ReadsBefore known (map wired_op ops) → ((n : Name) → known n + total (writes_it n) (map wired_op ops) ≤ 1)
    → ((n : Name) → total (reads_it n) (map wired_op ops) ≤ 1) → firings_left ops m < firings_left ops s
falls s m op q g t known [] o at before once one = absurd (cc at)
falls s m op q g t known (a ∷ ops) zero at before once one =
    let e : a ≡ op = cc at in
    let mine = rows_fewer s m q a.reads (λ n lt. t.fewer n (
    let k = before.0 n lt in let w = once n in let x = ap (λ (f : FreeOpForm). count n f.writes) e in omega (arith, k, w, x))) in
    let some = subst (λ (f : FreeOpForm). 0 < count q f.reads) (sym e) t.reads in
    first_falls (rows_left m a.reads) (rows_left s a.reads) (firings_left ops m) (firings_left ops s) (16385 ^ length ops) (omega (arith, mine, some))
    (behind_all s m g t.more ops (t.few ops (λ n. let l = one n in omega (arith, l))))
falls s m op q g t known (a ∷ ops) (suc o) at before once one =
    let mine = rows_fewer s m q a.reads (λ n lt. t.fewer n (
    let k = before.0 n lt in let w = once n in
    let x = at_most (writes_it n) (map wired_op ops) o (wired_op op) (got_map wired_op ops o op at) in omega (arith, k, w, x))) in
    later_falls (rows_left m a.reads) (rows_left s a.reads) (firings_left ops m) (firings_left ops s) (16385 ^ length ops) (omega (arith, mine))
    (falls s m op q g t (and_writes known (wired_op a)) ops o at before.1 (λ n. let w = once n in omega (arith, w)) (λ n. let l = one n in omega (arith, l)))

-- each firing lowers the number of those that can still come
pub firings_count_down : FiringsCountDown
firings_count_down p s m o port v t =
    subst (λ (x : State). firings_left p.ops x < firings_left p.ops s) (sym t.after)
    (falls s next t.op t.queue given taking (λ n. count n (decl_names p.inputs)) p.ops o t.op_is v.in_order v.written_once
    (λ n. let r = v.read_once n in omega (arith, r)))
  where
    next : State
    next = fired t.op t.body t.queue t.item s

    given : Name → ℕ
    given n = length (joined t.op.writes (λ k. pushed_to k (ran_at t.op t.body t.item s.cells).pushes) n)

    lengths : (n : Name) → length (next.hist n) ≡ length (s.hist n) + given n
    lengths n = length-append (s.hist n) (joined t.op.writes (λ k. pushed_to k (ran_at t.op t.body t.item s.cells).pushes) n)

    takes : (n : Name) → next.taken n ≡ s.taken n + one_if (name_eq n t.queue)
    takes n = taken_one s.taken t.queue n

    taking : Taking s next t.op t.queue given
    taking = record {
      reads = got_count t.op.reads port t.queue t.queue_is;
      more = λ n. let l = lengths n in let k = takes n in omega (arith, l, k);
      fewer = λ n z.
          let l = lengths n in
          let k = takes n in
          let e = ap length (joined_out t.op.writes (λ k. pushed_to k (ran_at t.op t.body t.item s.cells).pushes) n z) in
          let o = one_there s t.queue n t.item t.item_is in
          omega (arith, l, k, e, o);
      few = λ ops h.
          let r = reads_few t.op.writes (ran_at t.op t.body t.item s.cells).pushes ops h in
          let b = ran_few t.body.steps (values_of t.item) (slots_from t.body.slots (map s.cells t.op.vars)) in
          let c = body_small p o port t.op t.body v t.op_is t.body_is in
          omega (arith, r, b, c);
    }
