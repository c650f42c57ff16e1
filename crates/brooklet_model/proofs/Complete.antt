-- Every complete run has the plan's histories.
use Rattle.std.proofs.Common.{◌≡◌, ◌≢◌, ℕ, ◌+◌, ◌<◌, ◌≤◌, Some, List, [], ◌∷◌, ◌++◌, length, take, refl, sym, ap, ◌∙◌, subst, arith, length-append, ⊎_elim}
use Rattle.std.proofs.Common.{ℤ, map, nat_eq, false}
use Rattle.std.specs.Prelude.{Bool, if◌then◌else◌, count_by, slice_get}
use Rattle.std.proofs.lemmas.Bool.{cases_eq}
use Rattle.std.proofs.lemmas.List.{append-nil, take-append-le, length-map}
use Rattle.std.proofs.Math.Seq.{take-length}
use Rattle.std.proofs.lemmas.Option.{slice_get_within, same_Some}
use Rattle.river_base.proofs.PlaceLemmas.{if_true, if_false, if_eq, if_ne}
use Rattle.river_base.proofs.Lists.{count_by-append, there_is}
use Rattle.river_base.specs.declared.item.Item as item
use Rattle.river_base.specs.Name.{name_eq}
use Rattle.river_base.specs.Places.{none, list_at}
use Rattle.kern_tables.specs.Tables.{tab}
use Rattle.kern_tables.proofs.Tabs.{tables_are_of_bags}
use Rattle.river_plan.specs.declared.plan.TableDecl.{TableDecl}
use Rattle.river_plan.specs.Forms.{Name, OpForm, PlanForm, decl_names, table_names, all_decls}
use Rattle.river_plan.specs.Kinds.{IsFit, kind_of}
use Rattle.river_plan.specs.Names.{count}
use Rattle.river_plan.specs.Uses.{total, writes_it, reads_it}
use Rattle.river_plan.specs.Valid.{IsPlan}
use Rattle.river_plan.proofs.NameLemmas.{cases_name, more_or_zero}
use Rattle.brooklet_model.specs.Firings.{Kept, Fired, and_then, Same}
use Rattle.brooklet_model.specs.Fire.{fire, ins, first_kept}
use Rattle.brooklet_model.specs.Histories.{History, lists_of, given_on, histories, joined, tables_of, adds, all_adds, inputs_of, lengths, Lists, Solves}
use Rattle.brooklet_model.specs.Laws.{given_to, RunsAgree}
use Rattle.brooklet_model.specs.Machine.{Machine, at_key, fired, Run, IsComplete, first_kept_of, times}
use Rattle.brooklet_model.specs.Traced.{ran, sum_numbered, Traced}
use Rattle.river_base.specs.Bags.{SameBag}
use Rattle.brooklet_model.specs.Words.{Word, run, at_port, PortsBelow, Alike}
use Rattle.brooklet_model.proofs.Free.{order_is_free, at_port-append, below-append}
use Rattle.brooklet_model.proofs.Lists.{funext}
use Rattle.brooklet_model.proofs.Ports.{counts, shaped}
use Rattle.brooklet_model.proofs.Shapes.{first_shape}
use Rattle.brooklet_model.proofs.Solutions.{count_here, written_out, plan_unique}
use Rattle.brooklet_model.proofs.Swaps.{at_port_here, at_port_past}
use Rattle.brooklet_model.proofs.Traces.{at_most, one_place, got_count, place_once, each_at, each_of, got_read, joined_out, lists_more}
use Rattle.brooklet_model.proofs.Traces.{joined-append, joined_none, joined_bag, joined_cong, lists_cong, lists_agree, at_key_same, at_key_other, run_more}
use Rattle.brooklet_model.proofs.Traces.{at_same, take_next, numbered_same, numbered_more, numbered_total, adds_it, adds_total, word_lengths}

-- one more firing of the operator that fired, and of no other
one_more : (k o : ℕ) (e : ℕ × item.Item) (ws : ℕ → Word) → length (at_key k (ws k ++ e ∷ []) ws o) ≡ length (ws o) + (if nat_eq k o then 1 else 0)
one_more k o e ws = ⊎_elim
    (λ h.
    let a = ap length (if_eq k o (ws k ++ e ∷ []) (ws o) h) in
    let b = length-append (ws k) (e ∷ []) in
    let c = ap (λ n. length (ws n)) h in
    let d = if_eq {A = ℕ} k o 1 0 h in
    omega (arith, a, b, c, d))
    (λ n.
    let a = ap length (if_ne k o (ws k ++ e ∷ []) (ws o) n) in
    let d = if_ne {A = ℕ} k o 1 0 n in
    omega (arith, a, d))
    (cases_eq k o)

lists_none : (ws : List Name) (h : History) → ((q : Name) → 0 < count q ws → h q ≡ []) → Lists ws none h
lists_none [] h e = tt
lists_none (w ∷ ws) h e = (e w (count_here w ws), lists_none ws h (λ q lt. e q (omega (arith, lt))))

-- the machine before the first firing, with these inputs
abbrev pub started : PlanForm → History → Machine
started p h = record { hist = h; taken = λ q. 0; kept = λ o. first_kept_of (slice_get p.ops o); rows = λ t. [] }

-- an operator of a valid plan reads as many queues as its kernel has ports
pub reads_are : (p : PlanForm) → IsPlan p → (o : ℕ) (op : OpForm) → slice_get p.ops o ≡ Some op → length op.reads ≡ ins op.kernel
reads_are p v o op g =
    let fit : IsFit p op = each_at (IsFit p) p.ops o op v.fits g in
    let c = counts op.kernel _ _ _ fit in
    sym (length-map op.reads (kind_of (all_decls p))) ∙ c.ins

module _ (pl : PlanForm) (inputs : History) (v : IsPlan pl) (empty : (q : Name) → count q (decl_names pl.inputs) ≡ 0 → inputs q ≡ []) where
  abbrev ops : List OpForm
  ops = pl.ops

  abbrev tables : List Name
  tables = table_names pl.tables

  abbrev tabs : OpForm → List Name
  tabs op = tables_of tables op

  -- the first state is traced by empty words
  pub traced_start : Traced tables ops inputs (started pl inputs) (λ o. [])
  traced_start = record {
    kept = λ o op g. ap first_kept_of g;
    written_by =
        λ o op g. lists_none op.writes inputs
        (λ q lt. empty q (let m = at_most (writes_it q) ops o op g in let w = v.written_once q in omega (arith, m, w, lt)));
    unwritten = λ q z. refl;
    below = λ o op g. tt;
    taken = λ o op g p q is. (refl, omega arith);
    rows = λ t test.
        let a = numbered_same (λ o op. count_by test (joined (tabs op) none t)) (λ o op. 0) ops 0 (λ i op g. ap (count_by test) (joined_none (tabs op) t)) in
        let b = numbered_total (λ op. 0) ops 0 in
        let c = zeros ops in
        omega (arith, a, b, c);
  }
    where
      zeros : (xs : List OpForm) → total (λ op. 0) xs ≡ 0
      zeros [] = refl
      zeros (x ∷ xs) = let e = zeros xs in omega (arith, e)

  -- a state that is traced by words stays so, where an operator fires once more
  module _ (s : Machine) (ws : ℕ → Word) (o p : ℕ) (op : OpForm) (q : Name) (x : item.Item) (t : Traced tables ops inputs s ws) (g : slice_get ops o ≡ Some op)
      (pq : slice_get op.reads p ≡ Some q) (is : slice_get (s.hist q) (s.taken q) ≡ Some x) where
    -- what the operator does with an item
    abbrev f : ℕ → item.Item → List Kept → Fired
    f = fire op.kernel

    abbrev first : List Kept
    first = first_kept op.kernel

    -- this firing, and those before it
    abbrev r : Fired
    r = f p x (s.kept o)

    abbrev before : Fired
    before = run f (ws o) first

    -- the words afterwards
    abbrev ws' : ℕ → Word
    ws' = at_key o (ws o ++ (p, x) ∷ []) ws

    here : ws' o ≡ ws o ++ (p, x) ∷ []
    here = at_key_same o (ws o ++ (p, x) ∷ []) ws

    there : (o' : ℕ) → o ≢ o' → ws' o' ≡ ws o'
    there o' n = at_key_other o (ws o ++ (p, x) ∷ []) ws o' n

    -- the firings so far and this one are the run of the longer word
    more : Same (run f (ws o ++ (p, x) ∷ []) first) (and_then before (f p x before.states))
    more = run_more f (ws o) p x first

    -- the state afterwards
    abbrev s' : Machine
    s' = fired tables o op p q x s

    -- what it does not write grows by nothing
    not_here : (n : Name) → count n op.writes ≡ 0 → s'.hist n ≡ s.hist n
    not_here n z = ap (λ l. s.hist n ++ l) (joined_out op.writes r.outs n z) ∙ append-nil (s.hist n)

    -- what it writes
    written_here : Lists op.writes (ran op (ws' o)).outs s'.hist
    written_here =
        lists_cong op.writes (λ j. before.outs j ++ r.outs j) (ran op (ws' o)).outs s'.hist
        (λ j. ap (λ us. before.outs j ++ (f p x us).outs j) (t.kept o op g) ∙ sym (more.outs j) ∙ ap (λ w. (ran op w).outs j) (sym here))
        (lists_more op.writes before.outs r.outs s.hist (joined op.writes r.outs)
        (λ n. let m = at_most (writes_it n) ops o op g in let w = v.written_once n in omega (arith, m, w))
        (λ n lt. refl) (t.written_by o op g))

    -- what is known of a queue that an operator reads
    abbrev Taken : ℕ → OpForm → ℕ → Name → Type 0
    Taken i j l n = (at_port l (ws' i) ≡ take (s'.taken n) (s'.hist n)) × (s'.taken n ≤ length (s'.hist n))

    -- one more item is taken
    n_is : s'.taken q ≡ s.taken q + 1
    n_is = ⊎_elim (λ c. if_true (name_eq q q) (s.taken q + 1) (s.taken q) c.1) (λ c. absurd (c.0 refl)) (cases_name q q)

    taken_here : Taken o op p q
    taken_here =
        let g1 = joined op.writes r.outs q in
        let lt = slice_get_within (s.hist q) (s.taken q) x is in (
          ap (at_port p) here ∙ at_port-append p (ws o) ((p, x) ∷ []) ∙ ap (λ l. at_port p (ws o) ++ l) (at_port_here p (p, x) [] refl)
              ∙ ap (λ l. l ++ x ∷ []) (t.taken o op g p q pq).0
              ∙ sym (take_next (s.hist q) g1 (s.taken q) x is) ∙ ap (λ n. take n (s.hist q ++ g1)) (sym n_is),
          omega (arith, n_is, lt, length-append (s.hist q) g1),
        )

    -- the other queues
    taken_there : (o' : ℕ) (op' : OpForm) → slice_get ops o' ≡ Some op' → (p' : ℕ) (q' : Name) → slice_get op'.reads p' ≡ Some q' → (q ≡ q' → ⊥)
        → name_eq q q' ≡ false → Taken o' op' p' q'
    taken_there o' op' g' p' q' pq' n nf =
        let g1 = joined op.writes r.outs q' in
        let old = t.taken o' op' g' p' q' pq' in
        let m_is : s'.taken q' ≡ s.taken q' = if_false (name_eq q q') (s.taken q + 1) (s.taken q') nf in
        let w_is : at_port p' (ws' o') ≡ at_port p' (ws o') = ⊎_elim
        (λ e.
        at_same ops (λ i j. slice_get j.reads p' ≡ Some q' → at_port p' (ws' i) ≡ at_port p' (ws i)) o o' op op' g g' e
        (λ h.
        let np : p ≢ p' = λ ep. n (same_Some q q' (sym pq ∙ ap (slice_get op.reads) ep ∙ h)) in
        ap (at_port p') here ∙ at_port-append p' (ws o) ((p, x) ∷ []) ∙ ap (λ l. at_port p' (ws o) ++ l) (at_port_past p' (p, x) [] np)
        ∙ append-nil (at_port p' (ws o))) pq')
        (λ ne. ap (at_port p') (there o' ne))
        (cases_eq o o') in (
          w_is ∙ old.0 ∙ sym (take-append-le (s.taken q') (s.hist q') g1 old.1) ∙ ap (λ k. take k (s.hist q' ++ g1)) (sym m_is),
          omega (arith, m_is, old.1, length-append (s.hist q') g1),
        )

    -- THE STEPS

    kept_after : (o' : ℕ) (op' : OpForm) → slice_get ops o' ≡ Some op' → s'.kept o' ≡ (ran op' (ws' o')).states
    kept_after o' op' g' = ⊎_elim
        (λ e. at_same ops (λ i j. at_key o r.states s.kept i ≡ (ran j (ws' i)).states) o o' op op' g g' e
        (at_key_same o r.states s.kept ∙ ap (λ us. (f p x us).states) (t.kept o op g) ∙ sym (more.states) ∙ ap (λ w. (run f w first).states) (sym here)))
        (λ n. at_key_other o r.states s.kept o' n ∙ t.kept o' op' g' ∙ ap (λ w. (ran op' w).states) (sym (there o' n)))
        (cases_eq o o')

    written_after : (o' : ℕ) (op' : OpForm) → slice_get ops o' ≡ Some op' → Lists op'.writes (ran op' (ws' o')).outs s'.hist
    written_after o' op' g' = ⊎_elim
        (λ e. at_same ops (λ i j. Lists j.writes (ran j (ws' i)).outs s'.hist) o o' op op' g g' e written_here)
        (λ n. subst (λ w. Lists op'.writes (ran op' w).outs s'.hist) (sym (there o' n))
        (lists_agree op'.writes (ran op' (ws o')).outs s.hist s'.hist
        (λ n' lt. sym (not_here n'
        (⊎_elim (λ h. absurd (n (one_place (writes_it n') ops o o' op op' (let w = v.written_once n' in omega (arith, w)) g g' h lt))) (λ z. z)
        (more_or_zero (count n' op.writes)))))
        (t.written_by o' op' g')))
        (cases_eq o o')

    below_after : (o' : ℕ) (op' : OpForm) → slice_get ops o' ≡ Some op' → PortsBelow (length op'.reads) (ws' o')
    below_after o' op' g' = ⊎_elim
        (λ e. at_same ops (λ i j. PortsBelow (length j.reads) (ws' i)) o o' op op' g g' e
        (subst (PortsBelow (length op.reads)) (sym here)
        (below-append (length op.reads) (ws o) ((p, x) ∷ []) (t.below o op g) (slice_get_within op.reads p q pq, tt))))
        (λ n. subst (PortsBelow (length op'.reads)) (sym (there o' n)) (t.below o' op' g'))
        (cases_eq o o')

    -- of the queue that was read no other port takes
    taken_after : (o' : ℕ) (op' : OpForm) → slice_get ops o' ≡ Some op' → (p' : ℕ) (q' : Name) → slice_get op'.reads p' ≡ Some q' → Taken o' op' p' q'
    taken_after o' op' g' p' q' pq' = ⊎_elim
        (λ c.
        let lt : 0 < count q op.reads = got_count op.reads p q pq in
        let pq2 : slice_get op'.reads p' ≡ Some q = pq' ∙ ap Some (sym c.0) in
        let lt' : 0 < count q op'.reads = got_count op'.reads p' q pq2 in
        let eo = one_place (reads_it q) ops o o' op op' (let w = v.read_once q in omega (arith, w)) g g' lt lt' in
        subst (λ n. Taken o' op' p' n) c.0
        (at_same ops (λ i j. slice_get j.reads p' ≡ Some q → Taken i j p' q) o o' op op' g g' eo
        (λ h. subst (λ k. Taken o op k q)
        (place_once op.reads p p' q (let m = at_most (reads_it q) ops o op g in let w = v.read_once q in omega (arith, m, w)) pq h) taken_here) pq2))
        (λ c. taken_there o' op' g' p' q' pq' c.0 c.1)
        (cases_name q q')

    -- what this firing adds to a table is added to what the operator's word adds
    added_here : (u : Name) (test : List ℤ → Bool)
        → count_by test (joined (tabs op) (ran op (ws' o)).adds u) ≡ count_by test (joined (tabs op) (ran op (ws o)).adds u) + count_by test
        (joined (tabs op) (f p x before.states).adds u)
    added_here u test =
        ap (λ w. count_by test (joined (tabs op) (ran op w).adds u)) here
        ∙ ap (count_by test) (joined_cong (tabs op) (ran op (ws o ++ (p, x) ∷ [])).adds (λ j. before.adds j ++ (f p x before.states).adds j) u more.adds)
        ∙ joined-append test (tabs op) before.adds (f p x before.states).adds u

    rows_after : (u : Name) (test : List ℤ → Bool) → count_by test (s'.rows u) ≡ sum_numbered (λ i j. count_by test (joined (tabs j) (ran j (ws' i)).adds u)) 0 ops
    rows_after u test =
        let z : 0 + o ≡ o = omega arith in
        let a = count_by-append test (s.rows u) (joined (tabs op) r.adds u) in
        let b = t.rows u test in
        let k = ap (λ us. count_by test (joined (tabs op) (f p x us).adds u)) (t.kept o op g) in
        let d = numbered_more (λ i j. count_by test (joined (tabs j) (ran j (ws i)).adds u))
        (λ i j. count_by test (joined (tabs j) (ran j (ws' i)).adds u)) ops 0 o
        (count_by test (joined (tabs op) (f p x before.states).adds u)) op g
        (subst (λ i. count_by test (joined (tabs op) (ran op (ws' i)).adds u) ≡ count_by test (joined (tabs op) (ran op (ws i)).adds u) + count_by test
        (joined (tabs op) (f p x before.states).adds u)) (sym z) (added_here u test))
        (λ i j ne. ap (λ w. count_by test (joined (tabs j) (ran j w).adds u)) (sym (there i (λ e. ne (sym e ∙ sym z))))) in
        omega (arith, a, b, k, d)

    -- the words, with this firing, trace the state afterwards
    pub traced_fired : Traced tables ops inputs s' ws'
    traced_fired = record {
      kept = kept_after;
      written_by = written_after;
      unwritten = λ n z. not_here n (let m = at_most (writes_it n) ops o op g in omega (arith, m, z)) ∙ t.unwritten n z;
      below = below_after;
      taken = taken_after;
      rows = rows_after;
    }

  -- the firings of each operator, as many more as it stands in the run
  pub traced_run : (es : List (ℕ × ℕ)) (s s' : Machine) (ws : ℕ → Word) → Traced tables ops inputs s ws → Run pl s es s'
      → (ws' : ℕ → Word) × Traced tables ops inputs s' ws' × ((o : ℕ) → length (ws' o) ≡ length (ws o) + times o es)
  traced_run [] s s' ws t r = (ws, subst (λ m. Traced tables ops inputs m ws) (sym r) t, λ o. omega arith)
  traced_run (e ∷ es) s s' ws t r =
      let st = r.1 in
      let w = at_key e.0 (ws e.0 ++ (e.1, st.item) ∷ []) ws in
      let next = traced_fired s ws e.0 e.1 st.op st.queue st.item t st.op_is st.queue_is st.item_is in
      let rest = traced_run es r.0 s' w (subst (λ m. Traced tables ops inputs m w) (sym st.after) next) r.2 in
      (rest.0, rest.1, λ o. let a = rest.2 o in let b = one_more e.0 o (e.1, st.item) ws in omega (arith, a, b))

  -- in a complete state the firings of an operator are an interleaving of its inputs
  came : (s : Machine) (ws : ℕ → Word) (o : ℕ) (op : OpForm) → Traced tables ops inputs s ws → IsComplete pl s → slice_get ops o ≡ Some op → (p : ℕ) (q : Name)
      → slice_get op.reads p ≡ Some q → at_port p (ws o) ≡ s.hist q
  came s ws o op t done g p q is = (t.taken o op g p q is).0 ∙ ap (λ n. take n (s.hist q)) (done o p op q g is) ∙ take-length (s.hist q)

  operator_is : (s : Machine) (ws : ℕ → Word) (o : ℕ) (op : OpForm) → Traced tables ops inputs s ws → IsComplete pl s → slice_get ops o ≡ Some op
      → Alike (ran op (ws o)) (given_on op s.hist)
  operator_is s ws o op t done g =
      let fit : IsFit pl op = each_at (IsFit pl) ops o op v.fits g in
      let e = reads_are pl v o op g in
      let f = shaped op.kernel _ _ _ fit in
      order_is_free op.kernel (lists_of s.hist op.reads) (ws o) (first_kept op.kernel) f (first_shape op.kernel f)
      (record {
        below = subst (λ n. PortsBelow n (ws o)) e (t.below o op g);
        lists = λ p lt.
            let q = there_is op.reads p (omega (arith, e, lt)) in
            came s ws o op t done g p q.0 q.1 ∙ sym (got_read s.hist op.reads p q.0 q.1);
      })

  -- so its histories solve the equations
  agree : (es : List (ℕ × ℕ)) (s : Machine) → Run pl (started pl inputs) es s → IsComplete pl s
      → ((q : Name) → s.hist q ≡ histories ops inputs q) × ((t : Name) → SameBag (s.rows t) (adds tables ops (histories ops inputs) t))
      × ((o : ℕ) (op : OpForm) → slice_get ops o ≡ Some op → times o es ≡ lengths (histories ops inputs) op.reads)
  agree es s r done =
      let w = traced_run es (started pl inputs) s (λ o. []) traced_start r in
      let t = w.1 in
      let all = plan_unique pl v inputs s.hist t.unwritten
      (each_of (Solves s.hist) ops
      (λ o op g. lists_cong op.writes (ran op (w.0 o)).outs (given_on op s.hist).outs s.hist (operator_is s w.0 o op t done g).outs (t.written_by o op g))) in
      let same : s.hist ≡ histories ops inputs = funext s.hist (histories ops inputs) all in (
        all,
        λ u test.
            let a = t.rows u test in
            let b = numbered_same (λ o op. count_by test (joined (tabs op) (ran op (w.0 o)).adds u)) (λ o op. adds_it tables s.hist u test op) ops 0
            (λ i op g.
            let z : 0 + i ≡ i = omega arith in
            ap (λ n. count_by test (joined (tabs op) (ran op (w.0 n)).adds u)) z
            ∙ joined_bag test (tabs op) (ran op (w.0 i)).adds (given_on op s.hist).adds u (operator_is s w.0 i op t done g).adds
            ∙ ap (λ n. adds_it tables s.hist u test op) z) in
            let c = numbered_total (adds_it tables s.hist u test) ops 0 in
            let d = adds_total tables ops s.hist u test in
            let e = ap (λ h. count_by test (adds tables ops h u)) same in
            omega (arith, a, b, c, d, e),
        λ o op g.
            let a = w.2 o in
            let b = word_lengths op.reads s.hist (w.0 o) (t.below o op g) (came s w.0 o op t done g) in
            let c = ap (λ h. lengths h op.reads) same in
            omega (arith, a, b, c),
      )

-- a name that is no input has nothing at the start
pub nothing_given : (names : List Name) (f : ℕ → List item.Item) (q : Name) → count q names ≡ 0 → inputs_of names f q ≡ []
nothing_given names f q z = written_out names f (λ n. []) q z

-- every complete run has the defined histories, rows and firings
pub runs_law : RunsAgree
runs_law p inputs es s v r done =
    let a = agree p (given_to p inputs) v (λ q z. nothing_given (decl_names p.inputs) (list_at inputs) q z) es s r done in
    let printed = λ (t : TableDecl). tables_are_of_bags t.kind (s.rows t.name) (all_adds p inputs t.name) (a.1 t.name) in
    record {
      queues = a.0;
      tables = a.1;
      printed =
          ap (λ (f : TableDecl → List (List ℤ)). map f p.tables)
          (funext (λ t. tab t.kind (s.rows t.name)) (λ t. tab t.kind (all_adds p inputs t.name)) printed);
      firings = a.2;
    }
