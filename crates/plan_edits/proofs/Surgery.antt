-- Operators' lists that are cut and joined.
use Rattle.std.proofs.Common.{◌≡◌, ℕ, ◌+◌, ◌<◌, Some, List, [], ◌∷◌, ◌++◌, refl, sym, ap, ◌∙◌, subst, arith, ⊎_elim, ◌≤◌, Bool, ℤ}
use Rattle.std.proofs.lemmas.Bool.{cases_lt}
use Rattle.river_plan.specs.Forms.{Name, OpForm}
use Rattle.river_plan.specs.Names.{count}
use Rattle.river_plan.specs.Uses.{Each, total, writes_it, reads_it, and_writes, ReadsBefore, named_it}
use Rattle.river_plan.proofs.NameLemmas.{more_or_zero}
use Rattle.brooklet_model.specs.Histories.{History, given_on, joined, tables_of, adds, Lists, Solves}
use Rattle.brooklet_model.proofs.Solutions.{given_same}
use Rattle.plan_edits.specs.Lists.{first_with}
use Rattle.std.specs.Prelude.{count_by}
use Rattle.std.proofs.lemmas.Option.{same_Some}
use Rattle.river_plan.proofs.ValidLaw.{total-append}
use Rattle.river_base.proofs.PlaceLemmas.{if_lt, if_ge}
use Rattle.brooklet_model.proofs.Traces.{adds_it, adds_total, lists_agree}

-- what is known after these operators
abbrev pub after : (Name → ℕ) → List OpForm → Name → ℕ
after known xs q = known q + total (writes_it q) xs

-- where more is known, operators that read what was known still do
pub before_more : (ops : List OpForm) (k k' : Name → ℕ) → ((q : Name) → 0 < total (reads_it q) ops → 0 < k q → 0 < k' q) → ReadsBefore k ops
    → ReadsBefore k' ops
before_more [] k k' m r = tt
before_more (op ∷ ops) k k' m r = (
  (λ q lt. m q (omega (arith, lt)) (r.0 q lt)),
  before_more ops (and_writes k op) (and_writes k' op)
      (λ q lr lt. ⊎_elim (λ a. let b = m q (omega (arith, lr)) a in omega (arith, b)) (λ z. omega (arith, z, lt)) (more_or_zero (k q)))
      r.1,
)

-- two lists of operators in order, one after the other
pub before_append : (xs ys : List OpForm) (k : Name → ℕ) → ReadsBefore k xs → ReadsBefore (after k xs) ys → ReadsBefore k (xs ++ ys)
before_append [] ys k a b = before_more ys (after k []) k (λ q lr lt. omega (arith, lt)) b
before_append (x ∷ xs) ys k a b =
    (a.0, before_append xs ys (and_writes k x) a.1 (before_more ys (after k (x ∷ xs)) (after (and_writes k x) xs) (λ q lr lt. omega (arith, lt)) b))

-- the front of operators that are in order
pub before_front : (xs ys : List OpForm) (k : Name → ℕ) → ReadsBefore k (xs ++ ys) → ReadsBefore k xs
before_front [] ys k h = tt
before_front (x ∷ xs) ys k h = (h.0, before_front xs ys (and_writes k x) h.1)

-- the back of operators that are in order
pub before_back : (xs ys : List OpForm) (k : Name → ℕ) → ReadsBefore k (xs ++ ys) → ReadsBefore (after k xs) ys
before_back [] ys k h = before_more ys k (after k []) (λ q lr lt. omega (arith, lt)) h
before_back (x ∷ xs) ys k h =
    before_more ys (after (and_writes k x) xs) (after k (x ∷ xs)) (λ q lr lt. omega (arith, lt)) (before_back xs ys (and_writes k x) h.1)

-- a queue that nobody has written is not read
pub unread : (ops : List OpForm) (k : Name → ℕ) (q : Name) → ReadsBefore k ops → k q ≡ 0 → total (writes_it q) ops ≡ 0 → total (reads_it q) ops ≡ 0
unread [] k q r z w = refl
unread (op ∷ ops) k q r z w =
    let t = unread ops (and_writes k op) q r.1 (omega (arith, z, w)) (omega (arith, w)) in
    ⊎_elim (λ lt. absurd (let c = r.0 q lt in omega (arith, c, z))) (λ n. omega (arith, n, t)) (more_or_zero (count q op.reads))

-- the first operator at which a number is not 0, with those before and behind it
pub record Found (f : OpForm → ℕ) (ops : List OpForm) (op : OpForm) : Type 0 where
  pub before : List OpForm
  pub behind : List OpForm
  pub is : ops ≡ before ++ op ∷ behind
  pub has : 0 < f op
  pub none : total f before ≡ 0

-- what is found stands there
pub found : (f : OpForm → ℕ) (ops : List OpForm) (op : OpForm) → first_with f ops ≡ Some op → Found f ops op
found f [] op h = absurd (cc h)
found f (x ∷ xs) op h = ⊎_elim
    (λ lt.
    let e : x ≡ op = same_Some x op (sym (if_lt 0 (f x) (Some x) (first_with f xs) lt) ∙ h) in
    record { before = []; behind = xs; is = ap (λ o. o ∷ xs) e; has = subst (λ o. 0 < f o) e lt; none = refl })
    (λ ge.
    let r = found f xs op (sym (if_ge 0 (f x) (Some x) (first_with f xs) ge) ∙ h) in
    let n = r.none in
    record { before = x ∷ r.before; behind = r.behind; is = ap (λ l. x ∷ l) r.is; has = r.has; none = omega (arith, ge, n) })
    (cases_lt 0 (f x))

-- operators at which the number is 0 are passed over
pub first_past : (f : OpForm → ℕ) (xs ys : List OpForm) → total f xs ≡ 0 → first_with f (xs ++ ys) ≡ first_with f ys
first_past f [] ys z = refl
first_past f (x ∷ xs) ys z = if_ge 0 (f x) (Some x) (first_with f (xs ++ ys)) (omega (arith, z)) ∙ first_past f xs ys (omega (arith, z))

-- the rows for a table depend on the histories that are read alone
pub adds_same : (tables : List Name) (ops : List OpForm) (h h' : History) (t : Name) → ((q : Name) → 0 < total (reads_it q) ops → h q ≡ h' q)
    → adds tables ops h t ≡ adds tables ops h' t
adds_same tables [] h h' t e = refl
adds_same tables (op ∷ ops) h h' t e =
    ap (λ g. joined (tables_of tables op) g.adds t ++ adds tables ops h t) (given_same op h h' (λ q lt. e q (omega (arith, lt))))
    ∙ ap (λ l. joined (tables_of tables op) (given_on op h').adds t ++ l) (adds_same tables ops h h' t (λ q lt. e q (omega (arith, lt))))

-- histories that agree on all that operators read and write solve the same equations
pub all_agree : (ops : List OpForm) (h h' : History) → ((q : Name) → 0 < total (reads_it q) ops + total (writes_it q) ops → h q ≡ h' q) → Each (Solves h) ops
    → Each (Solves h') ops
all_agree [] h h' e s = tt
all_agree (op ∷ ops) h h' e s = (
  lists_agree op.writes (given_on op h').outs h h' (λ q lt. e q (omega (arith, lt)))
      (subst (λ f. Lists op.writes f.outs h) (given_same op h h' (λ q lt. e q (omega (arith, lt)))) s.0),
  all_agree ops h h' (λ q lt. e q (omega (arith, lt))) s.1,
)

-- the same for the number of rows that pass a test
pub adds_it_same : (tables : List Name) (ops : List OpForm) (h h' : History) (t : Name) (test : List ℤ → Bool)
    → ((q : Name) → 0 < total (reads_it q) ops → h q ≡ h' q) → total (adds_it tables h t test) ops ≡ total (adds_it tables h' t test) ops
adds_it_same tables ops h h' t test e =
    sym (adds_total tables ops h t test) ∙ ap (count_by test) (adds_same tables ops h h' t e) ∙ adds_total tables ops h' t test

-- the number at the operator that was found is within the sum
pub at_most_all : (l : Name) (f : OpForm → ℕ) (ops : List OpForm) (op : OpForm) → first_with (named_it l) ops ≡ Some op → f op ≤ total f ops
at_most_all l f ops op h =
    let r = found (named_it l) ops op h in
    let a = ap (total f) r.is ∙ total-append f r.before (op ∷ r.behind) in
    omega (arith, a)
