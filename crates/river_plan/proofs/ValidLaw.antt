-- There is no fault exactly where a plan is valid.
use Rattle.std.proofs.Common.{◌≡◌, ℕ, ◌+◌, ◌<◌, ◌≤◌, List, [], ◌∷◌, ◌++◌, None, refl, ap, subst, arith, ⊎_elim}
use Rattle.std.specs.Prelude.{All}
use Rattle.std.proofs.lemmas.List.Elements.{All-head, All-tail, All-cons}
use Rattle.river_kernels.specs.declared.limit.Limit.{Limit}
use Rattle.river_kernels.specs.declared.limit.Limit.TheVariants.{Inputs, Operators, Queues, Variables, Ports, Statements, Slots, Rates, Weights, Nesting}
use Rattle.river_kernels.specs.declared.limit.Limit.TheVariants.{Latest, Best}
use Rattle.river_plan.specs.Forms.{Name, OpForm, PlanForm, decl_names, queue_names, variable_names, table_names, labels}
use Rattle.river_plan.specs.Names.{one_if, count, IsUsedOnce}
use Rattle.river_plan.specs.Uses.{Each, total, writes_it, reads_it, vars_it, named_it, ReadsBefore}
use Rattle.river_plan.specs.First.{Unless, Along, IsFirst}
use Rattle.river_plan.specs.Kinds.{IsFit}
use Rattle.river_plan.specs.Limits.{most_of, numbers, OverLimit}
use Rattle.river_plan.specs.Faults.{IsNew, IsWritten, IsOuter, HasWidth, IsTableKind, IsApart, UndeclaredAt, ReadTooEarlyAt}
use Rattle.river_plan.specs.Valid.{IsPlan, FirstFault}
use Rattle.river_plan.proofs.NameLemmas.{cases_name, count-append, one_same, nat_zero, more_or_zero}

-- NAMES THAT STAND ONCE

-- no name of the list stood before it: then each stands once
new-once : (before xs : List Name) → ((q : Name) → count q before ≤ 1) → Along (λ b y. Unless (IsNew b y) y) before xs None → (q : Name)
    → count q before + count q xs ≤ 1
new-once before [] o h q = let a = o q in omega (arith, a)
new-once before (x ∷ xs) o h q =
    let i = new-once (before ++ x ∷ []) xs (λ r. let a = count-append r before (x ∷ []) in let b = o r in ⊎_elim
    (λ c. let s = ap one_if c.1 in let z = ap (λ y. count y before) c.0 in let n = h.0 in omega (arith, a, z, n, s))
    (λ c. let s = ap one_if c.1 in omega (arith, a, b, s))
    (cases_name x r)) h.1 q in
    let a = count-append q before (x ∷ []) in omega (arith, i, a)

once-new : (before xs : List Name) → ((q : Name) → count q before + count q xs ≤ 1) → Along (λ b y. Unless (IsNew b y) y) before xs None
once-new before [] h = tt
once-new before (x ∷ xs) h = (
  (let a = h x in let s = one_same x in omega (arith, a, s)),
  once-new (before ++ x ∷ []) xs (λ q. let a = count-append q before (x ∷ []) in let b = h q in omega (arith, a, b)),
)

-- where no name is found twice, each stands once
pub names-once : (xs : List Name) → IsFirst IsNew xs None → (q : Name) → count q xs ≤ 1
names-once xs h q = let a = new-once [] xs (λ r. omega arith) h q in omega (arith, a)

-- and back
pub once-names : (xs : List Name) → ((q : Name) → count q xs ≤ 1) → IsFirst IsNew xs None
once-names xs h = once-new [] xs (λ q. let a = h q in omega (arith, a))

-- how many operators have a label
pub total-labels : (l : Name) (ops : List OpForm) → total (named_it l) ops ≡ count l (labels ops)
total-labels l [] = refl
total-labels l (op ∷ ops) = let e = total-labels l ops in omega (arith, e)

-- A CONDITION ON EACH ELEMENT

along-all : {A : Type 0} (P : A → Type 0) (before xs : List A) → Along (λ b y. Unless (P y) y) before xs None → All P xs
along-all P before [] h = λ k d lt. absurd (omega (arith, lt))
along-all P before (x ∷ xs) h = All-cons P x xs h.0 (along-all P (before ++ x ∷ []) xs h.1)

-- what holds of each element of a list holds along it
pub all-along : {A : Type 0} (P : A → Type 0) (before xs : List A) → All P xs → Along (λ b y. Unless (P y) y) before xs None
all-along P before [] h = tt
all-along P before (x ∷ xs) h = (All-head P x xs h, all-along P (before ++ x ∷ []) xs (All-tail P x xs h))

along-each : (P : OpForm → Type 0) (before ops : List OpForm) → Along (λ b y. Unless (P y) y) before ops None → Each P ops
along-each P before [] h = tt
along-each P before (op ∷ ops) h = (h.0, along-each P (before ++ op ∷ []) ops h.1)

-- what holds of each operator holds along them
pub each-along : (P : OpForm → Type 0) (before ops : List OpForm) → Each P ops → Along (λ b y. Unless (P y) y) before ops None
each-along P before [] h = tt
each-along P before (op ∷ ops) h = (h.0, each-along P (before ++ op ∷ []) ops h.1)

-- a condition on each name of a list is one on all that stand there
along-names : (P : Name → Type 0) (before xs : List Name) → Along (λ b y. Unless (P y) y) before xs None → (q : Name) → 0 < count q xs → P q
along-names P before [] h q lt = absurd (omega (arith, lt))
along-names P before (x ∷ xs) h q lt = ⊎_elim
    (λ c. subst P c.0 h.0)
    (λ c. let s = ap one_if c.1 in along-names P (before ++ x ∷ []) xs h.1 q (omega (arith, lt, s)))
    (cases_name x q)

-- what holds of each name that stands in a list holds along it
pub names-along : (P : Name → Type 0) (before xs : List Name) → ((q : Name) → 0 < count q xs → P q) → Along (λ b y. Unless (P y) y) before xs None
names-along P before [] h = tt
names-along P before (x ∷ xs) h = (
  h x (let s = one_same x in omega (arith, s)),
  names-along P (before ++ x ∷ []) xs (λ q lt. h q (omega (arith, lt))),
)

-- WHAT IS DECLARED

-- where nothing undeclared is found, all that is read is declared
pub declared-all : (queues variables : List Name) (before ops : List OpForm) → Along (λ b op. UndeclaredAt queues variables op) before ops None
    → ((q : Name) → 0 < total (reads_it q) ops → 0 < count q queues) × ((q : Name) → 0 < total (writes_it q) ops → 0 < count q queues)
    × ((v : Name) → 0 < total (vars_it v) ops → 0 < count v variables)
declared-all queues variables before [] h = ((λ q lt. absurd (omega (arith, lt))), (λ q lt. absurd (omega (arith, lt))), (λ v lt. absurd (omega (arith, lt))))
declared-all queues variables before (op ∷ ops) h =
    let i = declared-all queues variables (before ++ op ∷ []) ops h.1 in (
      (λ q lt. ⊎_elim (λ o. along-names (λ w. 0 < count w queues) [] op.reads h.0.0 q o) (λ z. i.0 q (omega (arith, lt, z))) (more_or_zero (count q op.reads))),
      (λ q lt. ⊎_elim (λ o. along-names (λ w. 0 < count w queues) [] op.writes h.0.1.0 q o) (λ z. i.1 q (omega (arith, lt, z)))
          (more_or_zero (count q op.writes))),
      (λ v lt. ⊎_elim (λ o. along-names (λ w. 0 < count w variables) [] op.vars h.0.1.1 v o) (λ z. i.2 v (omega (arith, lt, z)))
          (more_or_zero (count v op.vars))),
    )

-- where all that operators read, write and use is declared, no operator names something else
pub all-declared : (queues variables : List Name) (before ops : List OpForm)
    → ((q : Name) → 0 < total (reads_it q) ops → 0 < count q queues) → ((q : Name) → 0 < total (writes_it q) ops → 0 < count q queues)
    → ((v : Name) → 0 < total (vars_it v) ops → 0 < count v variables)
    → Along (λ b op. UndeclaredAt queues variables op) before ops None
all-declared queues variables before [] r w v = tt
all-declared queues variables before (op ∷ ops) r w v = (
  (
    names-along (λ x. 0 < count x queues) [] op.reads (λ q lt. r q (omega (arith, lt))),
    (
      names-along (λ x. 0 < count x queues) [] op.writes (λ q lt. w q (omega (arith, lt))),
      names-along (λ x. 0 < count x variables) [] op.vars (λ q lt. v q (omega (arith, lt))),
    ),
  ),
  all-declared queues variables (before ++ op ∷ []) ops (λ q lt. r q (omega (arith, lt))) (λ q lt. w q (omega (arith, lt))) (λ q lt. v q (omega (arith, lt))),
)

-- THE ORDER OF OPERATORS

-- the sum over operators is that over the first and that over the others
pub total-append : (f : OpForm → ℕ) (xs ys : List OpForm) → total f (xs ++ ys) ≡ total f xs + total f ys
total-append f [] ys = omega arith
total-append f (x ∷ xs) ys = let e = total-append f xs ys in omega (arith, e)

order-reads : (inputs : List Name) (k : Name → ℕ) (before ops : List OpForm) → ((q : Name) → k q ≡ count q inputs + total (writes_it q) before)
    → Along (ReadTooEarlyAt inputs) before ops None → ReadsBefore k ops
order-reads inputs k before [] e h = tt
order-reads inputs k before (op ∷ ops) e h = (
  (λ q lt. let a = along-names (λ r. IsWritten inputs before r) [] op.reads h.0 q lt in let b = e q in omega (arith, a, b)),
  order-reads inputs (λ q. k q + count q op.writes) (before ++ op ∷ []) ops
      (λ q. let b = e q in let a = total-append (writes_it q) before (op ∷ []) in omega (arith, a, b)) h.1,
)

-- where operators read what is known, none reads too early
pub reads-order : (inputs : List Name) (k : Name → ℕ) (before ops : List OpForm) → ((q : Name) → k q ≡ count q inputs + total (writes_it q) before)
    → ReadsBefore k ops → Along (ReadTooEarlyAt inputs) before ops None
reads-order inputs k before [] e h = tt
reads-order inputs k before (op ∷ ops) e h = (
  names-along (λ r. IsWritten inputs before r) [] op.reads (λ q lt. let a = h.0 q lt in let b = e q in omega (arith, a, b)),
  reads-order inputs (λ q. k q + count q op.writes) (before ++ op ∷ []) ops
      (λ q. let b = e q in let a = total-append (writes_it q) before (op ∷ []) in omega (arith, a, b)) h.1,
)

-- VARIABLES

each-every : (ops : List OpForm) → ((v : Name) → Each (λ op. vars_it v op ≤ 1) ops) → Each (λ op. (v : Name) → vars_it v op ≤ 1) ops
each-every [] h = tt
each-every (op ∷ ops) h = ((λ v. let a = h v in a.0), each-every ops (λ v. let a = h v in a.1))

-- one condition on all variables is one on each
pub every-each : (ops : List OpForm) → Each (λ op. (v : Name) → vars_it v op ≤ 1) ops → (v : Name) → Each (λ op. vars_it v op ≤ 1) ops
every-each [] h v = tt
every-each (op ∷ ops) h v = (h.0 v, every-each ops h.1 v)

total-each : (v : Name) (ops : List OpForm) → total (vars_it v) ops ≤ 1 → Each (λ op. vars_it v op ≤ 1) ops
total-each v [] h = tt
total-each v (op ∷ ops) h = ((omega (arith, h)), total-each v ops (omega (arith, h)))

-- THE LAW

-- a plan without a fault is valid
pub no_fault-valid : (p : PlanForm) → FirstFault p None → IsPlan p
no_fault-valid p h =
    let p1 = h.0 in let p2 = h.1.0 in let p3 = h.1.1.0 in let p4 = h.1.1.1.0 in let p5 = h.1.1.1.1.0 in let p6 = h.1.1.1.1.1.0 in
    let p7 = h.1.1.1.1.1.1.0 in let p8 = h.1.1.1.1.1.1.1.0 in let p9 = h.1.1.1.1.1.1.1.1 in
    let d = declared-all (queue_names p) (variable_names p) [] p.ops p2 in
    let once = names-once (queue_names p) p1.0 in
    record {
      queues_once = once;
      variables_once = names-once (variable_names p) p1.1.0;
      labels_once = λ l. let a = names-once (labels p.ops) p1.1.1 l in let e = total-labels l p.ops in omega (arith, a, e);
      reads_declared = d.0;
      writes_declared = d.1;
      vars_declared = d.2;
      written_once = λ q. let s = queue_parts p q in let o = once q in ⊎_elim
          (λ lt. let u = along-names (λ w. IsUsedOnce (count w (decl_names p.inputs)) (total (writes_it w) p.ops)) [] (queue_names p) p3 q lt in
          used (count q (decl_names p.inputs)) (total (writes_it q) p.ops) (omega (arith, s, o)) u)
          (λ z. let w : total (writes_it q) p.ops ≡ 0 = nat_zero (λ lt. let k = d.1 q lt in omega (arith, z, k)) in omega (arith, s, z, w))
          (more_or_zero (count q (queue_names p)));
      read_once = λ q. let s = queue_parts p q in let o = once q in ⊎_elim
          (λ lt. let u = along-names (λ w. IsUsedOnce (count w (decl_names p.outputs)) (total (reads_it w) p.ops)) [] (queue_names p) p4 q lt in
          used (count q (decl_names p.outputs)) (total (reads_it q) p.ops) (omega (arith, s, o)) u)
          (λ z. let w : total (reads_it q) p.ops ≡ 0 = nat_zero (λ lt. let k = d.0 q lt in omega (arith, z, k)) in omega (arith, s, z, w))
          (more_or_zero (count q (queue_names p)));
      in_order = order-reads (decl_names p.inputs) (λ q. count q (decl_names p.inputs)) [] p.ops (λ q. omega arith) p5;
      outputs_typed = along-all IsOuter [] p.outputs p6.0;
      inputs_typed = along-all IsOuter [] p.inputs p6.1.0;
      queues_typed = along-all HasWidth [] p.queues p6.1.1.0;
      tables_typed = along-all (λ t. IsTableKind t.kind) [] p.tables p6.1.1.1;
      fits = along-each (IsFit p) [] p.ops p7;
      within = λ limit. along-all (λ n. n ≤ most_of limit) [] (numbers limit p) (limit_part p limit p8);
      vars_apart = each-every p.ops (λ v. ⊎_elim
          (λ lt. let a = along-names (IsApart p) [] (variable_names p) p9 v lt in a.0)
          (λ z. total-each v p.ops (let w : total (vars_it v) p.ops ≡ 0 = nat_zero (λ lt. let k = d.2 v lt in omega (arith, z, k)) in omega (arith, w)))
          (more_or_zero (count v (variable_names p))));
      private_once = λ v lt. let e = variable_parts p v in let a = along-names (IsApart p) [] (variable_names p) p9 v (omega (arith, e, lt)) in a.1 lt;
    }
  where
    queue_parts : (p : PlanForm) (q : Name)
        → count q (queue_names p) ≡ count q (decl_names p.outputs) + (count q (decl_names p.inputs) + count q (decl_names p.queues))
    queue_parts p q =
        let a = count-append q (decl_names p.outputs) (decl_names p.inputs ++ decl_names p.queues) in
        let b = count-append q (decl_names p.inputs) (decl_names p.queues) in omega (arith, a, b)

    variable_parts : (p : PlanForm) (v : Name) → count v (variable_names p) ≡ count v (table_names p.tables) + count v p.vars
    variable_parts p v = count-append v (table_names p.tables) p.vars

    used : (g u : ℕ) → g ≤ 1 → IsUsedOnce g u → g + u ≤ 1
    used g u le h = let a = h.0 in ⊎_elim (λ lt. let z = h.1 lt in omega (arith, le, z)) (λ z. omega (arith, z, a)) (more_or_zero g)

    limit_part : (p : PlanForm) (limit : Limit) → OverLimit p None → IsFirst (λ before n. n ≤ most_of limit) (numbers limit p) None
    limit_part p Inputs h = h.0
    limit_part p Operators h = h.1.0
    limit_part p Queues h = h.1.1.0
    limit_part p Variables h = h.1.1.1.0
    limit_part p Ports h = h.1.1.1.1.0
    limit_part p Statements h = h.1.1.1.1.1.0
    limit_part p Slots h = h.1.1.1.1.1.1.0
    limit_part p Rates h = h.1.1.1.1.1.1.1.0
    limit_part p Weights h = h.1.1.1.1.1.1.1.1.0
    limit_part p Nesting h = h.1.1.1.1.1.1.1.1.1.0
    limit_part p Latest h = h.1.1.1.1.1.1.1.1.1.1.0
    limit_part p Best h = h.1.1.1.1.1.1.1.1.1.1.1.0

-- a valid plan has no fault
pub valid-no_fault : (p : PlanForm) → IsPlan p → FirstFault p None
valid-no_fault p v = (
  (
    once-names (queue_names p) v.queues_once,
    (
      once-names (variable_names p) v.variables_once,
      once-names (labels p.ops) (λ l. let a = v.labels_once l in let e = total-labels l p.ops in omega (arith, a, e)),
    ),
  ),
  (
    all-declared (queue_names p) (variable_names p) [] p.ops v.reads_declared v.writes_declared v.vars_declared,
    (
      names-along (λ w. IsUsedOnce (count w (decl_names p.inputs)) (total (writes_it w) p.ops)) [] (queue_names p)
          (λ q lt. let o = v.written_once q in ((omega (arith, o)), λ g. omega (arith, o, g))),
      (
        names-along (λ w. IsUsedOnce (count w (decl_names p.outputs)) (total (reads_it w) p.ops)) [] (queue_names p)
            (λ q lt. let o = v.read_once q in ((omega (arith, o)), λ g. omega (arith, o, g))),
        (
          reads-order (decl_names p.inputs) (λ q. count q (decl_names p.inputs)) [] p.ops (λ q. omega arith) v.in_order,
          (
            (
              all-along IsOuter [] p.outputs v.outputs_typed,
              (
                all-along IsOuter [] p.inputs v.inputs_typed,
                (all-along HasWidth [] p.queues v.queues_typed, all-along (λ t. IsTableKind t.kind) [] p.tables v.tables_typed),
              ),
            ),
            (
              each-along (IsFit p) [] p.ops v.fits,
              (
                limits p v.within,
                names-along (IsApart p) [] (variable_names p) (λ w lt. (every-each p.ops v.vars_apart w, v.private_once w)),
              ),
            ),
          ),
        ),
      ),
    ),
  ),
)
  where
    bounded : (p : PlanForm) (limit : Limit) → ((limit : Limit) → All (λ n. n ≤ most_of limit) (numbers limit p))
        → IsFirst (λ before n. n ≤ most_of limit) (numbers limit p) None
    bounded p limit h = all-along (λ n. n ≤ most_of limit) [] (numbers limit p) (h limit)

    limits : (p : PlanForm) → ((limit : Limit) → All (λ n. n ≤ most_of limit) (numbers limit p)) → OverLimit p None
    limits p h = (
      bounded p Inputs h,
      (
        bounded p Operators h,
        (
          bounded p Queues h,
          (
            bounded p Variables h,
            (
              bounded p Ports h,
              (
                bounded p Statements h,
                (bounded p Slots h, (bounded p Rates h, (bounded p Weights h, (bounded p Nesting h, (bounded p Latest h, (bounded p Best h, tt)))))),
              ),
            ),
          ),
        ),
      ),
    )
