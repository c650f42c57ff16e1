-- Each operator reads inputs, or what one before it writes.
use Rattle.std.proofs.Common.{◌≡◌, ℕ, zero, suc, ◌+◌, ◌<◌, ◌≤◌, Option, Some, None, List, [], ◌∷◌, ◌++◌, sym, ap, arith, subst, length, ⊎_elim}
use Rattle.std.specs.Prelude.{codes}
use Rattle.std.proofs.lemmas.Bool.{cases_lt}
use Rattle.river_kernels.specs.Kern.{window, cross}
use Rattle.river_plan.specs.Forms.{Name, OpForm}
use Rattle.river_plan.specs.Names.{one_if, count}
use Rattle.river_plan.specs.Uses.{total, writes_it, reads_it, AreAllKnown, and_writes, ReadsBefore}
use Rattle.river_plan.proofs.NameLemmas.{cases_name, count-append, one_same, more_or_zero}
use Rattle.cql_model.specs.KernelWords.{kernel_window}
use Rattle.cql_model.specs.Plannable.{AreQueries}
use Rattle.cql_model.specs.Laws.{known_names, AreKnown}
use Rattle.cql_model.specs.Program.{streams_of, all_uses}
use Rattle.cql_text.specs.Tree.{Scalar, Source, Columns, Star, Chosen, Query, Register, AQuery, Program}
use Rattle.cql_model.specs.Scopes.{Named, scope_of}
use Rattle.cql_model.specs.Plan.{op, at_word, copy_names, copy_name, queue_of_use, queues_of_uses, w_name, x_name, window_ops, cross_ops, cross_last, select_ops}
use Rattle.cql_model.specs.Plan.{select_last, project_ops, project_last, out_ops, out_name, tail_ops, item_ops, item_last, query_named, queries_ops}
use Rattle.cql_model.specs.Plan.{copy_ops, input_ops}
use Rattle.river_plan.proofs.ValidLaw.{total-append}
use Rattle.cql_model.proofs.Counting.{stream_op, project_from, block_ops}
use Rattle.cql_model.proofs.Sums.{as_many}
use Rattle.cql_model.proofs.Uses.{which}

pub reads_more : (ops : List OpForm) (known known' : Name → ℕ) → ((z : Name) → 0 < known z → 0 < known' z) → ReadsBefore known ops → ReadsBefore known' ops
reads_more [] known known' h r = tt
reads_more (op ∷ ops) known known' h r = (
  (λ z lt. h z (r.0 z lt)),
  reads_more ops (and_writes known op) (and_writes known' op)
      (λ z lt. ⊎_elim (λ k. let m = h z k in omega (arith, m)) (λ n. omega (arith, n, lt)) (more_or_zero (known z))) r.1,
)

-- what is known behind these operators
abbrev pub behind : (Name → ℕ) → List OpForm → Name → ℕ
behind known ops z = known z + total (writes_it z) ops

-- operators in order, and behind them others in order
pub reads_append : (xs ys : List OpForm) (known : Name → ℕ) → ReadsBefore known xs → ReadsBefore (behind known xs) ys → ReadsBefore known (xs ++ ys)
reads_append [] ys known a b = reads_more ys (behind known []) known (λ z lt. omega (arith, lt)) b
reads_append (x ∷ xs) ys known a b = (
  a.0,
  reads_append xs ys (and_writes known x) a.1 (reads_more ys (behind known (x ∷ xs)) (behind (and_writes known x) xs) (λ z lt. omega (arith, lt)) b),
)

-- one name that is known, and two
one_known : (known : Name → ℕ) (r : Name) → 0 < known r → AreAllKnown known (r ∷ [])
one_known known r h z lt = ⊎_elim (λ c. subst (λ x. 0 < known x) c.0 h) (λ c. absurd (let o = ap one_if c.1 in omega (arith, o, lt))) (cases_name r z)

two_known : (known : Name → ℕ) (r s : Name) → 0 < known r → 0 < known s → AreAllKnown known (r ∷ s ∷ [])
two_known known r s h g z lt =
    ⊎_elim (λ c. subst (λ x. 0 < known x) c.0 h) (λ c. one_known known s g z (let o = ap one_if c.1 in omega (arith, o, lt))) (cases_name r z)

-- WINDOWS AND PRODUCTS

abbrev pub AllKnown : (Name → ℕ) → List Name → Type 0
AllKnown known [] = Unit {0}
AllKnown known (n ∷ ns) = (0 < known n) × AllKnown known ns

all_more : (known known' : Name → ℕ) (ns : List Name) → ((z : Name) → 0 < known z → 0 < known' z) → AllKnown known ns → AllKnown known' ns
all_more known known' [] h a = tt
all_more known known' (n ∷ ns) h a = (h n a.0, all_more known known' ns h a.1)

windows_read : (known : Name → ℕ) (b : Name) (k : ℕ) (items : List Source) (srcs : List Name) → AllKnown known srcs
    → ReadsBefore known (window_ops b k items srcs)
windows_read known b k [] srcs a = tt
windows_read known b k (i ∷ is) [] a = tt
windows_read known b k (i ∷ is) (s ∷ srcs) a =
    let o = op (w_name b k) (window (kernel_window i.window)) (s ∷ []) (w_name b k ∷ []) (w_name b k ∷ []) in
    (one_known known s a.0, windows_read (and_writes known o) b (k + 1) is srcs (all_more known (and_writes known o) srcs (λ z lt. omega (arith, lt)) a.1))

-- the windows are known
abbrev pub WindowsKnown : (Name → ℕ) → Name → ℕ → List Source → Type 0
WindowsKnown known b k [] = Unit {0}
WindowsKnown known b k (i ∷ is) = (0 < known (w_name b k)) × WindowsKnown known b (k + 1) is

windows_more : (known known' : Name → ℕ) (b : Name) (k : ℕ) (items : List Source) → ((z : Name) → 0 < known z → 0 < known' z) → WindowsKnown known b k items
    → WindowsKnown known' b k items
windows_more known known' b k [] h a = tt
windows_more known known' b k (i ∷ is) h a = (h (w_name b k) a.0, windows_more known known' b (k + 1) is h a.1)

windows_known : (known : Name → ℕ) (b : Name) (k : ℕ) (items : List Source) (srcs : List Name) → length srcs ≡ length items
    → WindowsKnown (behind known (window_ops b k items srcs)) b k items
windows_known known b k [] srcs e = tt
windows_known known b k (i ∷ is) [] e = absurd (omega (arith, e))
windows_known known b k (i ∷ is) (s ∷ srcs) e =
    let rest = window_ops b (k + 1) is srcs in
    let o = op (w_name b k) (window (kernel_window i.window)) (s ∷ []) (w_name b k ∷ []) (w_name b k ∷ []) in (
      (let f = one_same (w_name b k) in omega (arith, f)),
      windows_more (behind known rest) (behind known (o ∷ rest)) b (k + 1) is (λ z lt. omega (arith, lt))
          (windows_known known b (k + 1) is srcs (omega (arith, e))),
    )

crosses_read : (known : Name → ℕ) (b last : Name) (k : ℕ) (items : List Source) → 0 < known last → WindowsKnown known b k items
    → ReadsBefore known (cross_ops b last k items)
crosses_read known b last k [] l w = tt
crosses_read known b last k (i ∷ is) l w =
    let o = op (x_name b k) cross (last ∷ w_name b k ∷ []) (x_name b k ∷ []) (x_name b k ∷ []) in (
      two_known known last (w_name b k) l w.0,
      crosses_read (and_writes known o) b (x_name b k) (k + 1) is (let f = one_same (x_name b k) in omega (arith, f))
          (windows_more known (and_writes known o) b (k + 1) is (λ z lt. omega (arith, lt)) w.1),
    )

cross_known : (known : Name → ℕ) (b last : Name) (k : ℕ) (items : List Source) → 0 < known last
    → 0 < behind known (cross_ops b last k items) (cross_last b last k items)
cross_known known b last k [] l = omega (arith, l)
cross_known known b last k (i ∷ is) l =
    let o = op (x_name b k) cross (last ∷ w_name b k ∷ []) (x_name b k ∷ []) (x_name b k ∷ []) in
    let m = cross_known (and_writes known o) b (x_name b k) (k + 1) is (let f = one_same (x_name b k) in omega (arith, f)) in omega (arith, m)

items_read : (known : Name → ℕ) (b : Name) (items : List Source) (srcs : List Name) → 0 < length items → length srcs ≡ length items → AllKnown known srcs
    → ReadsBefore known (item_ops b items srcs) × (0 < behind known (item_ops b items srcs) (item_last b items))
items_read known b [] srcs some e a = absurd (omega (arith, some))
items_read known b (i ∷ is) srcs some e a =
    let ws = window_ops b 1 (i ∷ is) srcs in let xs = cross_ops b (w_name b 1) 2 is in
    let w = windows_known known b 1 (i ∷ is) srcs e in
    let t = total-append (writes_it (cross_last b (w_name b 1) 2 is)) ws xs in
    let c = cross_known (behind known ws) b (w_name b 1) 2 is w.0 in (
      reads_append ws xs known (windows_read known b 1 (i ∷ is) srcs a) (crosses_read (behind known ws) b (w_name b 1) 2 is w.0 w.1),
      omega (arith, t, c),
    )

-- THE OTHERS

select_read : (known : Name → ℕ) (b : Name) (scope : List Named) (last : Name) (o : Option Scalar) → 0 < known last
    → ReadsBefore known (select_ops b scope last o) × (0 < behind known (select_ops b scope last o) (select_last b last o))
select_read known b scope last None l = (tt, omega (arith, l))
select_read known b scope last (Some e) l = ((one_known known last l, tt), (let f = one_same (at_word b (codes "s")) in omega (arith, f)))

project_read : (known : Name → ℕ) (b : Name) (scope : List Named) (last : Name) (cs : Columns) → 0 < known last
    → ReadsBefore known (project_ops b scope last cs) × (0 < behind known (project_ops b scope last cs) (project_last b last cs))
project_read known b scope last Star l = (tt, omega (arith, l))
project_read known b scope last (Chosen cs) l = ((one_known known last l, tt), (let f = one_same (at_word b (codes "p")) in omega (arith, f)))

out_read : (known : Name → ℕ) (b : Name) (u : ℕ) → 0 < known (out_name b u) → ReadsBefore known (out_ops b u)
out_read known b zero l = tt
out_read known b (suc u) l = (one_known known (at_word b (codes "o")) l, tt)

pub block_in_order : (known : Name → ℕ) (q : Query) (scope : List Named) (u : ℕ) (srcs : List Name) → 0 < length q.items → length srcs ≡ length q.items
    → AllKnown known srcs → ReadsBefore known (block_ops q scope u srcs)
block_in_order known q scope u srcs some e a =
    let b = q.name in
    let last = item_last b q.items in
    let is = items_read known b q.items srcs some e a in
    let k1 = behind known (item_ops b q.items srcs) in
    let so = select_ops b scope last q.condition in
    let s = select_read k1 b scope last q.condition is.1 in
    let k2 = behind k1 so in
    let from = project_from q last in
    let po = project_ops b scope from q.columns in
    let p = project_read k2 b scope from q.columns s.1 in
    let k3 = behind k2 po in
    let pro = project_last b from q.columns in
    let st = stream_op q u pro in
    reads_append (item_ops b q.items srcs) (tail_ops q scope u last) known is.0
    (reads_append so (po ++ (st ∷ out_ops b u)) k1 s.0
    (reads_append po (st ∷ out_ops b u) k2 p.0
    (one_known k3 pro p.1, out_read (and_writes k3 st) b u (let f = one_same (out_name b u) in omega (arith, f)))))

-- COPIES

copies_there : (b : Name) (k u j : ℕ) → j < u → 0 < count (copy_name b (k + j)) (copy_names b k u)
copies_there b k zero j lt = absurd (omega (arith, lt))
copies_there b k (suc u) zero lt =
    let z : k + 0 ≡ k = omega arith in
    subst (λ m. 0 < count (copy_name b m) (copy_names b k (suc u))) (sym z) (let f = one_same (copy_name b k) in omega (arith, f))
copies_there b k (suc u) (suc j) lt =
    let z : k + suc j ≡ (k + 1) + j = omega arith in
    subst (λ m. 0 < count (copy_name b m) (copy_names b k (suc u))) (sym z) (let m = copies_there b (k + 1) u j (omega (arith, lt)) in omega (arith, m))

pub copy_there : (b : Name) (u j : ℕ) → j < u → 0 < count (copy_name b j) (copy_names b 0 u)
copy_there b u j lt = let z : 0 + j ≡ j = omega arith in subst (λ m. 0 < count (copy_name b m) (copy_names b 0 u)) z (copies_there b 0 u j lt)

out_writes_copy : (b : Name) (u j : ℕ) → j < u → 0 < total (writes_it (copy_name b j)) (out_ops b u)
out_writes_copy b zero j lt = absurd (omega (arith, lt))
out_writes_copy b (suc u) j lt = let m = copy_there b (suc u) j lt in omega (arith, m)

tail_writes_copy : (q : Query) (scope : List Named) (u : ℕ) (last : Name) (j : ℕ) → j < u → 0 < total (writes_it (copy_name q.name j)) (tail_ops q scope u last)
tail_writes_copy q scope u last j lt =
    let f = writes_it (copy_name q.name j) in
    let b = q.name in
    let from = project_from q last in
    let so = select_ops b scope last q.condition in
    let po = project_ops b scope from q.columns in
    let st = stream_op q u (project_last b from q.columns) in
    let a1 = total-append f so (po ++ (st ∷ out_ops b u)) in
    let a2 = total-append f po (st ∷ out_ops b u) in
    let m = out_writes_copy b u j lt in
    omega (arith, a1, a2, m)

block_writes_copy : (q : Query) (scope : List Named) (u : ℕ) (srcs : List Name) (j : ℕ) → j < u
    → 0 < total (writes_it (copy_name q.name j)) (block_ops q scope u srcs)
block_writes_copy q scope u srcs j lt =
    let a = total-append (writes_it (copy_name q.name j)) (item_ops q.name q.items srcs) (tail_ops q scope u (item_last q.name q.items)) in
    let m = tail_writes_copy q scope u (item_last q.name q.items) j lt in
    omega (arith, a, m)

input_writes_copy : (n : Name) (u j : ℕ) → 1 < u → j < u → 0 < total (writes_it (copy_name n j)) (copy_ops n u)
input_writes_copy n zero j h lt = absurd (omega (arith, h))
input_writes_copy n (suc zero) j h lt = absurd (omega (arith, h))
input_writes_copy n (suc (suc u)) j h lt = let m = copy_there n (suc (suc u)) j lt in omega (arith, m)

-- THE WHOLE

module _ (inputs all : List Name) where
  -- each use of these streams reads what is known
  abbrev pub Serves : (Name → ℕ) → Name → Type 0
  Serves known n = (j : ℕ) → j < count n all → 0 < known (queue_of_use inputs all n j)

  abbrev pub ServesAll : (Name → ℕ) → List Named → Type 0
  ServesAll known [] = Unit {0}
  ServesAll known (k ∷ ks) = Serves known k.name × ServesAll known ks

  serves_more : (known known' : Name → ℕ) (ks : List Named) → ((z : Name) → 0 < known z → 0 < known' z) → ServesAll known ks → ServesAll known' ks
  serves_more known known' [] h s = tt
  serves_more known known' (k ∷ ks) h s = ((λ j lt. h (queue_of_use inputs all k.name j) (s.0 j lt)), serves_more known known' ks h s.1)

  serves_one : (known : Name → ℕ) (ks : List Named) (n : Name) → ServesAll known ks → 0 < count n (known_names ks) → Serves known n
  serves_one known [] n s lt = absurd (omega (arith, lt))
  serves_one known (k ∷ ks) n s lt = ⊎_elim
      (λ c. subst (λ x. Serves known x) c.0 s.0)
      (λ c. serves_one known ks n s.1 (let o = ap one_if c.1 in omega (arith, o, lt)))
      (cases_name k.name n)

  -- the uses of streams go on from those before
  abbrev pub Fit : List Name → List Name → Type 0
  Fit past ns = (n : Name) → count n past + count n ns ≤ count n all

  -- what fits behind a list fits behind its first part
  pub fit_next : (past ns ms : List Name) → Fit past (ns ++ ms) → Fit (past ++ ns) ms
  fit_next past ns ms r n = let a = count-append n past ns in let b = count-append n ns ms in let c = r n in omega (arith, a, b, c)

  sources_known : (known : Name → ℕ) (ks : List Named) (past : List Name) (items : List Source) (rest : List Name) → ServesAll known ks
      → AreKnown ks (streams_of items) → Fit past (streams_of items ++ rest)
      → AllKnown known (queues_of_uses inputs all past (streams_of items))
  sources_known known ks past [] rest s a r = tt
  sources_known known ks past (i ∷ is) rest s a r = (
    serves_one known ks i.stream s a.0 (count i.stream past) (let c = r i.stream in let o = one_same i.stream in omega (arith, c, o)),
    sources_known known ks (past ++ i.stream ∷ []) is rest s a.1 (fit_next past (i.stream ∷ []) (streams_of is ++ rest) r),
  )

  -- what serves the registered streams from the start
  abbrev pub InputsServe : (Name → ℕ) → Program → Type 0
  InputsServe known [] = Unit {0}
  InputsServe known (Register name fields ∷ ps) = Serves known name × InputsServe known ps
  InputsServe known (AQuery q ∷ ps) = InputsServe known ps

  inputs_more : (known known' : Name → ℕ) (ps : Program) → ((z : Name) → 0 < known z → 0 < known' z) → InputsServe known ps → InputsServe known' ps
  inputs_more known known' [] h s = tt
  inputs_more known known' (Register name fields ∷ ps) h s = ((λ j lt. h (queue_of_use inputs all name j) (s.0 j lt)), inputs_more known known' ps h s.1)
  inputs_more known known' (AQuery q ∷ ps) h s = inputs_more known known' ps h s

  -- what a query is called is no registered stream
  abbrev pub Others : Program → Type 0
  Others [] = Unit {0}
  Others (Register name fields ∷ ps) = Others ps
  Others (AQuery q ∷ ps) = (count q.name inputs ≡ 0) × Others ps

  -- a query's stream is read from its copies
  pub query_source : (n : Name) (j : ℕ) → count n inputs ≡ 0 → queue_of_use inputs all n j ≡ copy_name n j
  query_source n j z = grind (arith, z)

  -- the operators of all queries read what was written before
  pub queries_in_order : (known : Name → ℕ) (ks : List Named) (past : List Name) (ps : Program) → ServesAll known ks → InputsServe known ps → AreQueries ks ps
      → Others ps → Fit past (all_uses ps)
      → ReadsBefore known (queries_ops inputs all ks past ps)
  queries_in_order known ks past [] s i a o r = tt
  queries_in_order known ks past (Register name fields ∷ ps) s i a o r =
      queries_in_order known (record { name = name; fields = fields } ∷ ks) past ps (i.0, s) i.1 a.1 o r
  queries_in_order known ks past (AQuery q ∷ ps) s i a o r =
      let srcs = queues_of_uses inputs all past (streams_of q.items) in
      let u = count q.name all in
      let scope = scope_of ks q.items in
      let block = block_ops q scope u srcs in
      let later = behind known block in
      let more : (z : Name) → 0 < known z → 0 < later z = λ z lt. omega (arith, lt) in
      reads_append block (queries_ops inputs all (query_named ks q ∷ ks) (past ++ streams_of q.items) ps) known
      (block_in_order known q scope u srcs a.0.some (as_many inputs all past q.items) (sources_known known ks past q.items (all_uses ps) s a.0.streams r))
      (queries_in_order later (query_named ks q ∷ ks) (past ++ streams_of q.items) ps (
        (λ j lt. subst (λ x. 0 < later x) (sym (query_source q.name j o.0)) (let w = block_writes_copy q scope u srcs j lt in omega (arith, w))),
        serves_more known later ks more s,
      )
      (inputs_more known later ps more i) a.1 o.1 (fit_next past (streams_of q.items) (all_uses ps) r))

  -- the copies of the inputs
  copy_in_order : (known : Name → ℕ) (n : Name) (u : ℕ) → 0 < known n → ReadsBefore known (copy_ops n u)
  copy_in_order known n zero h = tt
  copy_in_order known n (suc zero) h = tt
  copy_in_order known n (suc (suc u)) h = (one_known known n h, tt)

  -- registered streams are inputs
  abbrev pub InputsKnown : (Name → ℕ) → Program → Type 0
  InputsKnown known [] = Unit {0}
  InputsKnown known (Register name fields ∷ ps) = (0 < known name) × InputsKnown known ps
  InputsKnown known (AQuery q ∷ ps) = InputsKnown known ps

  known_more : (known known' : Name → ℕ) (ps : Program) → ((z : Name) → 0 < known z → 0 < known' z) → InputsKnown known ps → InputsKnown known' ps
  known_more known known' [] h s = tt
  known_more known known' (Register name fields ∷ ps) h s = (h name s.0, known_more known known' ps h s.1)
  known_more known known' (AQuery q ∷ ps) h s = known_more known known' ps h s

  -- so do those that copy the inputs
  pub inputs_in_order : (known : Name → ℕ) (ps : Program) → InputsKnown known ps → ReadsBefore known (input_ops all ps)
  inputs_in_order known [] k = tt
  inputs_in_order known (Register name fields ∷ ps) k =
      let c = copy_ops name (count name all) in
      reads_append c (input_ops all ps) known (copy_in_order known name (count name all) k.0)
      (inputs_in_order (behind known c) ps (known_more known (behind known c) ps (λ z lt. omega (arith, lt)) k.1))
  inputs_in_order known (AQuery q ∷ ps) k = inputs_in_order known ps k

  one_serves : (known : Name → ℕ) (n : Name) → 0 < count n inputs → 0 < known n → Serves (behind known (copy_ops n (count n all))) n
  one_serves known n i k j lt = ⊎_elim
      (λ o. subst (λ x. 0 < behind known (copy_ops n (count n all)) x) (sym o.is) (omega (arith, k)))
      (λ c. ⊎_elim
      (λ more. subst (λ x. 0 < behind known (copy_ops n (count n all)) x) (sym c.is) (let w = input_writes_copy n (count n all) j more lt in omega (arith, w)))
      (λ le. let e : queue_of_use inputs all n j ≡ n =
      grind (arith, i, le) in subst (λ x. 0 < behind known (copy_ops n (count n all)) x) (sym e) (omega (arith, k)))
      (cases_lt 1 (count n all)))
      (which inputs all n j)

  -- registered streams are among the names
  abbrev pub InputsThere : Program → Type 0
  InputsThere [] = Unit {0}
  InputsThere (Register name fields ∷ ps) = (0 < count name inputs) × InputsThere ps
  InputsThere (AQuery q ∷ ps) = InputsThere ps

  -- behind them the inputs can be read
  pub inputs_serve : (known : Name → ℕ) (ps : Program) → InputsThere ps → InputsKnown known ps → InputsServe (behind known (input_ops all ps)) ps
  inputs_serve known [] t k = tt
  inputs_serve known (Register name fields ∷ ps) t k =
      let c = copy_ops name (count name all) in
      let all_ops = behind known (c ++ input_ops all ps) in (
        (λ j lt. let m = one_serves known name t.0 k.0 j lt in let a =
            total-append (writes_it (queue_of_use inputs all name j)) c (input_ops all ps) in omega (arith, m, a)),
        inputs_more (behind known (input_ops all ps)) all_ops ps (λ z lt. let a = total-append (writes_it z) c (input_ops all ps) in omega (arith, lt, a))
            (inputs_serve known ps t.1 k.1),
      )
  inputs_serve known (AQuery q ∷ ps) t k = inputs_serve known ps t k

-- what is read is an input, or written
pub reads_there : (ops : List OpForm) (known : Name → ℕ) → ReadsBefore known ops → (z : Name) → 0 < total (reads_it z) ops
    → 0 < known z + total (writes_it z) ops
reads_there [] known r z lt = absurd (omega (arith, lt))
reads_there (o ∷ os) known r z lt = ⊎_elim
    (λ here. let k = r.0 z here in omega (arith, k))
    (λ none. let m = reads_there os (and_writes known o) r.1 z (omega (arith, none, lt)) in omega (arith, m))
    (more_or_zero (reads_it z o))
