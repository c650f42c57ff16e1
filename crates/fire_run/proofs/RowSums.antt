-- The rows in a log, summed by the operators that added them.
use Rattle.std.proofs.Common.{◌≡◌, ◌≢◌, Bool, ℕ, ℤ, zero, suc, ◌+◌, ◌<◌, ◌≤◌, ⊎_elim, Some, List, [], ◌∷◌, ◌++◌, length, refl, sym, ap, ◌∙◌, arith, subst, eq-eqb, ne_eqb}
use Rattle.std.specs.Prelude.{All, count_by, filter, nat_lt, slice_get, slice_index_or, if◌then◌else◌}
use Rattle.std.specs.List.{flat_map}
use Rattle.std.proofs.lemmas.Bool.{cases_eq, cases_lt}
use Rattle.std.proofs.lemmas.List.Elements.{All-head, All-tail}
use Rattle.std.proofs.lemmas.List.{append-nil}
use Rattle.std.proofs.lemmas.Option.{get_or_from_slice_get, slice_get_within, same_Some}
use Rattle.river_base.proofs.PlaceLemmas.{if_lt, if_ge}
use Rattle.river_base.proofs.Lists.{count_by-append, got_map}
use Rattle.river_base.specs.Bags.{SameBag}
use Rattle.river_base.specs.declared.item.Item as item
use Rattle.river_plan.specs.declared.plan.TableDecl.{TableDecl}
use Rattle.river_plan.specs.Forms.{Name, OpForm, PlanForm, table_names}
use Rattle.river_plan.specs.Names.{count, one_if}
use Rattle.river_plan.specs.Places.{place, places}
use Rattle.river_plan.specs.Uses.{vars_it}
use Rattle.river_plan.specs.Valid.{IsPlan}
use Rattle.river_plan.proofs.NameLemmas.{cases_name, count-append, more_or_zero}
use Rattle.river_plan.proofs.PlaceLemmas.{place_apart}
use Rattle.brooklet_model.specs.Fire.{tabs}
use Rattle.brooklet_model.specs.Histories.{given_on, hist, joined, own_adds, all_adds, tables_of}
use Rattle.brooklet_model.proofs.Swaps.{bag_append}
use Rattle.brooklet_model.proofs.Traces.{got_count, each_at, joined_out}
use Rattle.brooklet_step.proofs.NextLemmas.{got_place}
use Rattle.brooklet_step.proofs.OpTables.{among_known, mine_many}
use Rattle.brooklet_step.proofs.QueuePlaces.{place_is}
use Rattle.class_locks.specs.declared.log.LogEntry.{LogEntry}
use Rattle.class_locks.specs.Logs.{rows_of_entry, rows_to, part_of_op}
use Rattle.fire_tasks.specs.Adds.{AreEntries, IsEntryOf, added, rows_by, table_at, table_class, table_numbers}
use Rattle.fire_tasks.proofs.Joining.{place_of}

-- ONE ENTRY

own_entry : (o table : ℕ) (e : LogEntry) (log : List LogEntry) → e.op ≡ o → rows_by o table (e ∷ log) ≡ rows_of_entry table e ++ rows_by o table log
own_entry o table e log q = ap (λ (b : Bool). rows_to table (if b then e ∷ part_of_op o log else part_of_op o log)) (eq-eqb e.op o q)

other_entry : (o table : ℕ) (e : LogEntry) (log : List LogEntry) → e.op ≢ o → rows_by o table (e ∷ log) ≡ rows_by o table log
other_entry o table e log q = ap (λ (b : Bool). rows_to table (if b then e ∷ part_of_op o log else part_of_op o log)) (ne_eqb e.op o q)

-- the rows of m operators, from number o on
abbrev rows_of_all : ℕ → List LogEntry → ℕ → ℕ → List (List ℤ)
rows_of_all table log o zero = []
rows_of_all table log o (suc m) = rows_by o table log ++ rows_of_all table log (suc o) m

none_yet : (table o m : ℕ) → rows_of_all table [] o m ≡ []
none_yet table o zero = refl
none_yet table o (suc m) = none_yet table (suc o) m

entry_away : (table : ℕ) (e : LogEntry) (log : List LogEntry) (o m : ℕ) → e.op < o → rows_of_all table (e ∷ log) o m ≡ rows_of_all table log o m
entry_away table e log o zero lt = refl
entry_away table e log o (suc m) lt =
    ap (λ l. l ++ rows_of_all table (e ∷ log) (suc o) m) (other_entry o table e log (λ q. omega (arith, q, lt)))
    ∙ ap (λ l. rows_by o table log ++ l) (entry_away table e log (suc o) m (omega (arith, lt)))

entry_here : (test : List ℤ → Bool) (table : ℕ) (e : LogEntry) (log : List LogEntry) (o m : ℕ) → o ≤ e.op → e.op < o + m
    → count_by test (rows_of_all table (e ∷ log) o m) ≡ count_by test (rows_of_entry table e) + count_by test (rows_of_all table log o m)
entry_here test table e log o zero le lt = absurd (omega (arith, le, lt))
entry_here test table e log o (suc m) le lt = ⊎_elim
    (λ q.
    let a = ap (count_by test) (ap (λ l. l ++ rows_of_all table (e ∷ log) (suc o) m) (own_entry o table e log q)
    ∙ ap (λ l. (rows_of_entry table e ++ rows_by o table log) ++ l) (entry_away table e log (suc o) m (omega (arith, q)))) in
    let b = count_by-append test (rows_of_entry table e ++ rows_by o table log) (rows_of_all table log (suc o) m) in
    let c = count_by-append test (rows_of_entry table e) (rows_by o table log) in
    let d = count_by-append test (rows_by o table log) (rows_of_all table log (suc o) m) in
    omega (arith, a, b, c, d))
    (λ ne.
    let a = ap (λ l. count_by test (l ++ rows_of_all table (e ∷ log) (suc o) m)) (other_entry o table e log ne) in
    let b = count_by-append test (rows_by o table log) (rows_of_all table (e ∷ log) (suc o) m) in
    let r = entry_here test table e log (suc o) m (omega (arith, le, ne)) (omega (arith, lt)) in
    let d = count_by-append test (rows_by o table log) (rows_of_all table log (suc o) m) in
    omega (arith, a, b, r, d))
    (cases_eq e.op o)

-- ALL ENTRIES

-- the rows of a log are those of all operators
log_rows : (table : ℕ) (log : List LogEntry) (m : ℕ) → All (λ (e : LogEntry). e.op < m) log → SameBag (rows_to table log) (rows_of_all table log 0 m)
log_rows table [] m h test = ap (count_by test) (sym (none_yet table 0 m))
log_rows table (e ∷ log) m h test =
    let r = log_rows table log m (All-tail (λ (x : LogEntry). x.op < m) e log h) test in
    let a = count_by-append test (rows_of_entry table e) (rows_to table log) in
    let below = All-head (λ (x : LogEntry). x.op < m) e log h in
    let b = entry_here test table e log 0 m (omega arith) (omega (arith, below)) in
    omega (arith, r, a, b)

by_ops : (table : ℕ) (log : List LogEntry) (f : OpForm → List (List ℤ)) (ops : List OpForm) (o : ℕ)
    → ((k : ℕ) (op : OpForm) → slice_get ops k ≡ Some op → SameBag (rows_by (o + k) table log) (f op))
    → SameBag (rows_of_all table log o (length ops)) (flat_map f ops)
by_ops table log f [] o h = λ test. refl
by_ops table log f (op ∷ ops) o h =
    let z : o + 0 ≡ o = omega arith in
    bag_append (rows_by o table log) (f op) (rows_of_all table log (suc o) (length ops)) (flat_map f ops)
    (subst (λ n. SameBag (rows_by n table log) (f op)) z (h 0 op refl))
    (by_ops table log f ops (suc o)
    (λ k a g. let s : o + suc k ≡ suc o + k = omega arith in subst (λ n. SameBag (rows_by n table log) (f a)) s (h (suc k) a g)))

rows_none : (o table : ℕ) (log : List LogEntry) → All (λ (e : LogEntry). e.op ≡ o → e.table ≢ table) log → rows_by o table log ≡ []
rows_none o table [] h = refl
rows_none o table (e ∷ log) h =
    let r = rows_none o table log (All-tail (λ (x : LogEntry). x.op ≡ o → x.table ≢ table) e log h) in
    let first = All-head (λ (x : LogEntry). x.op ≡ o → x.table ≢ table) e log h in
    ⊎_elim
    (λ q. own_entry o table e log q ∙ ap (λ (b : Bool). (if b then e.rows else []) ++ rows_by o table log) (ne_eqb e.table table (first q)) ∙ r)
    (λ ne. other_entry o table e log ne ∙ r)
    (cases_eq e.op o)

-- what comes to a name that stands at one port
joined_one : {A : Type 0} (ws : List Name) (f : ℕ → List A) (t : Name) (j : ℕ) → count t ws ≤ 1 → slice_get ws j ≡ Some t → joined ws f t ≡ f j
joined_one [] f t j once g = absurd (cc g)
joined_one (w ∷ ws) f t zero once g = ⊎_elim
    (λ c.
    let e = ap one_if c.1 in
    ap (λ b. (if b then f 0 else []) ++ joined ws (λ i. f (suc i)) t) c.1 ∙ ap (λ l. f 0 ++ l) (joined_out ws (λ i. f (suc i)) t (omega (arith, e, once)))
    ∙ append-nil (f 0))
    (λ c. absurd (c.0 (same_Some w t g)))
    (cases_name w t)
joined_one (w ∷ ws) f t (suc j) once g = ⊎_elim
    (λ c. absurd (let e = ap one_if c.1 in let k = got_count ws j t g in omega (arith, e, k, once)))
    (λ c. let e = ap one_if c.1 in ap (λ b. (if b then f 0 else []) ++ joined ws (λ i. f (suc i)) t) c.1
    ∙ joined_one ws (λ i. f (suc i)) t j (omega (arith, once)) g)
    (cases_name w t)

-- THE ROWS OF A TABLE

got_name : (ts : List TableDecl) (i : ℕ) (t : TableDecl) → slice_get ts i ≡ Some t → slice_get (table_names ts) i ≡ Some t.name
got_name ts i t g = got_map (λ (x : TableDecl). x.name) ts i t g

fewer : (ns vs : List Name) (w : Name) → count w (filter (λ v. nat_lt 0 (count v ns)) vs) ≤ count w vs
fewer ns [] w = omega arith
fewer ns (x ∷ vs) w =
    let h = fewer ns vs w in
    let rest = filter (λ v. nat_lt 0 (count v ns)) vs in
    ⊎_elim
    (λ lt. let e = ap (count w) (if_lt 0 (count x ns) (x ∷ rest) rest lt) in omega (arith, e, h))
    (λ ge. let e = ap (count w) (if_ge 0 (count x ns) (x ∷ rest) rest ge) in omega (arith, e, h))
    (cases_lt 0 (count x ns))

module _ (p : PlanForm) (inputs : List (List item.Item)) (logs : ℕ → List LogEntry) (v : IsPlan p) (entries : AreEntries p logs)
    (bags : (o k : ℕ) (op : OpForm) → slice_get p.ops o ≡ Some op → k < tabs op.kernel → SameBag (added p logs o k) ((given_on op (hist p inputs)).adds k))
    (n : ℕ) (t : TableDecl) (g : slice_get p.tables n ≡ Some t) where
  abbrev names : List Name
  names = table_names p.tables

  abbrev log : List LogEntry
  log = logs (table_class p n)

  name_here : slice_get names n ≡ Some t.name
  name_here = got_name p.tables n t g

  known : 0 < count t.name names
  known = got_count names n t.name name_here

  once : count t.name names ≤ 1
  once = let o = v.variables_once t.name in let a = count-append t.name names p.vars in omega (arith, o, a)

  -- an entry of an operator that has not the table is for another table
  others : (o : ℕ) (op : OpForm) → slice_get p.ops o ≡ Some op → count t.name (tables_of names op) ≡ 0 → (e : LogEntry) → IsEntryOf p (table_class p n) e
      → e.op ≡ o → e.table ≢ n
  others o op go z e x eo en =
      let is : x.op ≡ op = same_Some x.op op (sym x.op_is ∙ ap (slice_get p.ops) eo ∙ go) in
      let q = got_place names (tables_of names op) x.port n
      (ap (λ (y : OpForm). slice_get (places names (tables_of names y)) x.port) (sym is) ∙ x.table ∙ ap Some en) in
      let there = among_known names op.vars q.0 (got_count (tables_of names op) x.port q.0 q.1) in
      let same : q.0 ≡ t.name = place_apart names q.0 t.name there known (q.2 ∙ sym (place_is names n t.name once known name_here)) in
      let c = got_count (tables_of names op) x.port t.name (q.1 ∙ ap Some same) in
      omega (arith, c, z)

  each_entry : (o : ℕ) (op : OpForm) → slice_get p.ops o ≡ Some op → count t.name (tables_of names op) ≡ 0 → All (λ (e : LogEntry). e.op ≡ o → e.table ≢ n) log
  each_entry o op go z i d lt = others o op go z (slice_index_or log i d) (entries (table_class p n) i d lt)

  own_rows : (o : ℕ) (op : OpForm) → slice_get p.ops o ≡ Some op → SameBag (rows_by o n log) (own_adds names (hist p inputs) t.name op)
  own_rows o op go =
      let mine = tables_of names op in
      let f = (given_on op (hist p inputs)).adds in
      ⊎_elim
      (λ more.
      let j = place_of mine t.name more in
      let few = each_at (λ (d : OpForm). (w : Name) → vars_it w d ≤ 1) p.ops o op v.vars_apart go t.name in
      let less = fewer names op.vars t.name in
      let below = slice_get_within mine j.0 t.name j.1 in
      let many = mine_many p v o op go in
      let at : table_at p o j.0 ≡ n =
      ap (λ d. slice_index_or (table_numbers p d) j.0 0) go
      ∙ get_or_from_slice_get (places names mine) j.0 (place names t.name) 0 (got_map (place names) mine j.0 t.name j.1)
      ∙ place_is names n t.name once known name_here in
      let bag = bags o j.0 op go (omega (arith, below, many)) in
      subst (SameBag (rows_by o n log)) (sym (joined_one mine f t.name j.0 (omega (arith, few, less)) j.1))
      (subst (λ m. SameBag (rows_by o m (logs (table_class p m))) (f j.0)) at bag))
      (λ none. λ test. ap (count_by test) (rows_none o n log (each_entry o op go none) ∙ sym (joined_out mine f t.name none)))
      (more_or_zero (count t.name mine))

  known_ops : All (λ (e : LogEntry). e.op < length p.ops) log
  known_ops i d lt = let x = entries (table_class p n) i d lt in slice_get_within p.ops (slice_index_or log i d).op x.op x.op_is

  -- the rows of a log for its table are those that the definition adds, as a bag
  pub table_rows : SameBag (rows_to n log) (all_adds p inputs t.name)
  table_rows test =
      log_rows n log (length p.ops) known_ops test
      ∙ by_ops n log (own_adds names (hist p inputs) t.name) p.ops 0
      (λ o op go. let z : o ≡ 0 + o =
      omega arith in subst (λ m. SameBag (rows_by m n log) (own_adds names (hist p inputs) t.name op)) z (own_rows o op go)) test
