-- The named run is a run.
use Rattle.std.proofs.Common.{◌≡◌, ◌≢◌, ℕ, ℤ, zero, suc, ◌+◌, ◌<◌, Bool, Some, List, [], ◌∷◌, ◌++◌, length, refl, sym, ap, ◌∙◌, subst, arith, ⊎_elim}
use Rattle.std.proofs.Common.{append_assoc}
use Rattle.std.specs.Prelude.{count_by, slice_get}
use Rattle.std.proofs.lemmas.Bool.{cases_lt}
use Rattle.std.proofs.lemmas.List.{append-nil, length-take}
use Rattle.std.proofs.lemmas.Option.{slice_get_within}
use Rattle.river_base.proofs.PlaceLemmas.{if_eq, if_ne}
use Rattle.river_base.proofs.Lists.{count_by-append, there_is}
use Rattle.river_base.specs.declared.item.Item as item
use Rattle.river_plan.specs.Forms.{Name, OpForm, PlanForm, decl_names, table_names}
use Rattle.river_plan.specs.Names.{count}
use Rattle.river_plan.specs.Uses.{total, writes_it}
use Rattle.river_plan.specs.Valid.{IsPlan}
use Rattle.brooklet_model.specs.Histories.{History, Lists, joined, tables_of}
use Rattle.brooklet_model.specs.Laws.{given_to}
use Rattle.brooklet_model.specs.Machine.{Machine, Step, Run, start, fired, at_key, times}
use Rattle.brooklet_model.specs.Words.{Word, at_port, PortsBelow}
use Rattle.brooklet_model.proofs.Complete.{traced_start, traced_fired, nothing_given}
use Rattle.brooklet_model.specs.Traced.{ran, sum_numbered, Traced}
use Rattle.brooklet_model.proofs.Free.{at_port-append}
use Rattle.brooklet_model.proofs.Solutions.{lists_one}
use Rattle.brooklet_model.proofs.Swaps.{at_port_here}
use Rattle.brooklet_model.proofs.Traces.{got_count, at_key_same, at_key_other, numbered_same}
use Rattle.river_base.specs.Places.{list_at}
use Rattle.brooklet_model.specs.Received.{hist_by, rows_added, AreWords, events, named_from, named_run}
use Rattle.brooklet_model.specs.NetLaws.{NamedRuns}
use Rattle.brooklet_model.proofs.Received.{got_mid, writer_before, by_words, unwritten_by, only_words}

-- a run, and a run that goes on where it ended
pub run_append : (p : PlanForm) (es fs : List (ℕ × ℕ)) (s m s' : Machine) → Run p s es m → Run p m fs s' → Run p s (es ++ fs) s'
run_append p [] fs s m s' r r' = subst (λ n. Run p n fs s') r r'
run_append p (e ∷ es) fs s m s' r r' = (r.0, r.1, run_append p es fs r.0 m s' r.2 r')

mid_below : (n : ℕ) (u es : Word) (e : ℕ × item.Item) → PortsBelow n (u ++ e ∷ es) → e.0 < n
mid_below n [] es e b = b.0
mid_below n (x ∷ u) es e b = mid_below n u es e b.1

times_append : (o : ℕ) (es fs : List (ℕ × ℕ)) → times o (es ++ fs) ≡ times o es + times o fs
times_append o [] fs = omega arith
times_append o (e ∷ es) fs = let i = times_append o es fs in omega (arith, i)

times_same : (o : ℕ) (w : Word) → times o (events o w) ≡ length w
times_same o [] = refl
times_same o (e ∷ es) = let i = times_same o es in let c = if_eq {A = ℕ} o o 1 0 refl in omega (arith, i, c)

times_other : (o o' : ℕ) (w : Word) → o' ≢ o → times o (events o' w) ≡ 0
times_other o o' [] ne = refl
times_other o o' (e ∷ es) ne = let i = times_other o o' es ne in let c = if_ne {A = ℕ} o' o 1 0 ne in omega (arith, i, c)

times_before : (rest : List OpForm) (o i : ℕ) (ws : ℕ → Word) → i < o → times i (named_from o rest ws) ≡ 0
times_before [] o i ws lt = refl
times_before (op ∷ rest) o i ws lt =
    let a = times_append i (events o (ws o)) (named_from (suc o) rest ws) in
    let b = times_other i o (ws o) (let ne : o ≢ i = omega (arith, lt) in ne) in
    let c = times_before rest (suc o) i ws (omega (arith, lt)) in
    omega (arith, a, b, c)

times_named : (rest : List OpForm) (o i : ℕ) (ws : ℕ → Word) → i < length rest → times (o + i) (named_from o rest ws) ≡ length (ws (o + i))
times_named [] o i ws lt = absurd (omega (arith, lt))
times_named (op ∷ rest) o zero ws lt =
    let z : o ≡ o + 0 = omega arith in
    subst (λ n. times n (named_from o (op ∷ rest) ws) ≡ length (ws n)) z
    (let a = times_append o (events o (ws o)) (named_from (suc o) rest ws) in
    let b = times_same o (ws o) in
    let c = times_before rest (suc o) o ws (omega arith) in
    omega (arith, a, b, c))
times_named (op ∷ rest) o (suc i) ws lt =
    let z : suc o + i ≡ o + suc i = omega arith in
    subst (λ n. times n (named_from o (op ∷ rest) ws) ≡ length (ws n)) z
    (let a = times_append (suc o + i) (events o (ws o)) (named_from (suc o) rest ws) in
    let b = times_other (suc o + i) o (ws o) (let ne : o ≢ suc o + i = omega arith in ne) in
    let c = times_named rest (suc o) i ws (omega (arith, lt)) in
    omega (arith, a, b, c))

-- how often a row was added to a table is a sum over the operators with their numbers
pub added_numbered : (tables : List Name) (ops : List OpForm) (o : ℕ) (ws : ℕ → Word) (t : Name) (test : List ℤ → Bool)
    → count_by test (rows_added tables o ops ws t) ≡ sum_numbered (λ i op. count_by test (joined (tables_of tables op) (ran op (ws i)).adds t)) o ops
added_numbered tables [] o ws t test = refl
added_numbered tables (op ∷ ops) o ws t test =
    let a = count_by-append test (joined (tables_of tables op) (ran op (ws o)).adds t) (rows_added tables (suc o) ops ws t) in
    let b = added_numbered tables ops (suc o) ws t test in
    omega (arith, a, b)

module _ (p : PlanForm) (inputs : List (List item.Item)) (v : IsPlan p) (ws : ℕ → Word) (a : AreWords p inputs ws) where
  abbrev ops : List OpForm
  ops = p.ops

  abbrev tables : List Name
  tables = table_names p.tables

  abbrev first : History
  first = given_to p inputs

  abbrev h : History
  h = hist_by p inputs ws

  empty : (q : Name) → count q (decl_names p.inputs) ≡ 0 → given_to p inputs q ≡ []
  empty q z = nothing_given (decl_names p.inputs) (list_at inputs) q z

  -- those before operator o have fired all that they received, it itself what is in u, and those behind it nothing
  record Half (o : ℕ) (u : Word) (s : Machine) (W : ℕ → Word) : Type 0 where
    traced : Traced (table_names p.tables) p.ops (given_to p inputs) s W
    before : (i : ℕ) → i < o → W i ≡ ws i
    at : W o ≡ u
    after : (i : ℕ) → o < i → W i ≡ []

  whole : (o : ℕ) (op : OpForm) (q : Name) (s : Machine) (W : ℕ → Word) → slice_get ops o ≡ Some op → 0 < count q op.reads → Traced tables ops first s W
      → ((i : ℕ) → i < o → W i ≡ ws i) → s.hist q ≡ h q
  whole o op q s W g lt t b = ⊎_elim
      (λ k. let z : total (writes_it q) ops ≡ 0 = (let w = v.written_once q in omega (arith, k, w)) in t.unwritten q z ∙ sym (unwritten_by p inputs ws q z))
      (λ w. lists_one w.1.writes (ran w.1 (ws w.0)).outs s.hist h
      (subst (λ y. Lists w.1.writes (ran w.1 y).outs s.hist) (b w.0 w.2) (t.written_by w.0 w.1 w.3))
      (by_words p inputs ws v w.0 w.1 w.3) q w.4)
      (writer_before ops (λ n. count n (decl_names p.inputs)) o op q g lt v.in_order)

  -- the next item that the operator received is the front of what is not taken
  next_is : (o : ℕ) (op : OpForm) (u es : Word) (e : ℕ × item.Item) (q : Name) (s : Machine) (W : ℕ → Word) → slice_get ops o ≡ Some op
      → slice_get op.reads e.0 ≡ Some q → Half o u s W → ws o ≡ u ++ e ∷ es
      → slice_get (s.hist q) (s.taken q) ≡ Some e.1
  next_is o op u es e q s W g r k is =
      let front = a.fronts o op g e.0 q r in
      let old = k.traced.taken o op g e.0 q r in
      let all = whole o op q s W g (got_count op.reads e.0 q r) k.traced k.before in
      let xs = at_port e.0 u in
      let tail = at_port e.0 es in
      let split : s.hist q ≡ xs ++ e.1 ∷ (tail ++ front.0) =
      all ∙ sym front.1 ∙ ap (λ w. at_port e.0 w ++ front.0) is
      ∙ ap (λ l. l ++ front.0) (at_port-append e.0 u (e ∷ es) ∙ ap (λ l. xs ++ l) (at_port_here e.0 e es refl))
      ∙ append_assoc xs (e.1 ∷ tail) front.0 in
      let long : length xs ≡ s.taken q =
      (let b = ap length (ap (at_port e.0) (sym k.at) ∙ old.0) in let c = length-take (s.taken q) (s.hist q) in let d = old.1 in omega (arith, b, c, d)) in
      ap (λ l. slice_get l (s.taken q)) split ∙ got_mid xs (tail ++ front.0) e.1 (s.taken q) long

  work : (o : ℕ) (op : OpForm) (es u : Word) (s : Machine) (W : ℕ → Word) → slice_get ops o ≡ Some op → Half o u s W → ws o ≡ u ++ es
      → (s' : Machine) × (W' : ℕ → Word) × Run p s (events o es) s' × Half o (ws o) s' W'
  work o op [] u s W g k is = (s, W, refl, record { traced = k.traced; before = k.before; at = k.at ∙ sym (append-nil u) ∙ sym is; after = k.after })
  work o op (e ∷ es) u s W g k is =
      let lt = mid_below (length op.reads) u es e (subst (PortsBelow (length op.reads)) is (a.below o op g)) in
      let r = there_is op.reads e.0 lt in
      let got = next_is o op u es e r.0 s W g r.1 k is in
      let s1 = fired tables o op e.0 r.0 e.1 s in
      let W1 = at_key o (W o ++ (e.0, e.1) ∷ []) W in
      let t1 = traced_fired p first v empty s W o e.0 op r.0 e.1 k.traced g r.1 got in
      let k1 : Half o (u ++ e ∷ []) s1 W1 = record {
        traced = t1;
        before = λ i l. at_key_other o (W o ++ (e.0, e.1) ∷ []) W i (let ne : o ≢ i = omega (arith, l) in ne) ∙ k.before i l;
        at = at_key_same o (W o ++ (e.0, e.1) ∷ []) W ∙ ap (λ y. y ++ e ∷ []) k.at;
        after = λ i l. at_key_other o (W o ++ (e.0, e.1) ∷ []) W i (let ne : o ≢ i = omega (arith, l) in ne) ∙ k.after i l;
      } in
      let more = work o op es (u ++ e ∷ []) s1 W1 g k1 (is ∙ sym (append_assoc u (e ∷ []) es)) in
      let st : Step p s o e.0 s1 = record { op = op; queue = r.0; item = e.1; op_is = g; queue_is = r.1; item_is = got; after = refl } in (
        more.0,
        more.1,
        (s1, st, more.2),
        more.3,
      )

  all : (rest : List OpForm) (o : ℕ) (s : Machine) (W : ℕ → Word) → ((i : ℕ) → slice_get rest i ≡ slice_get ops (o + i)) → Half o [] s W
      → (s' : Machine) × (W' : ℕ → Word) × Run p s (named_from o rest ws) s' × Traced tables ops first s' W' × ((i : ℕ) → i < o + length rest → W' i ≡ ws i)
  all [] o s W g k = (s, W, refl, k.traced, λ i lt. k.before i (omega (arith, lt)))
  all (op ∷ rest) o s W g k =
      let z : o + 0 ≡ o = omega arith in
      let g0 : slice_get ops o ≡ Some op = subst (λ n. slice_get ops n ≡ Some op) z (sym (g 0)) in
      let one = work o op (ws o) [] s W g0 k refl in
      let k1 : Half (suc o) [] one.0 one.1 = record {
        traced = one.3.traced;
        before = λ i lt. ⊎_elim (λ l. one.3.before i l) (λ ge. let e : o ≡ i = omega (arith, lt, ge) in subst (λ n. one.1 n ≡ ws n) e one.3.at) (cases_lt i o);
        at = one.3.after (suc o) (omega arith);
        after = λ i lt. one.3.after i (omega (arith, lt));
      } in
      let more = all rest (suc o) one.0 one.1 (λ i. let y : o + suc i ≡ suc o + i = omega arith in
      subst (λ n. slice_get rest i ≡ slice_get ops n) y (g (suc i))) k1 in (
        more.0,
        more.1,
        run_append p (events o (ws o)) (named_from (suc o) rest ws) s one.0 more.0 one.2 more.2,
        more.3,
        λ i lt. more.4 i (omega (arith, lt)),
      )

  -- the machine after the named run, as what is known of it
  pub reached : (s : Machine) × Run p (start p inputs) (named_run p ws) s × Traced tables ops first s ws
  reached =
      let k : Half 0 [] (start p inputs) (λ o. []) = record {
        traced = traced_start p first v empty;
        before = λ i lt. absurd (omega (arith, lt));
        at = refl;
        after = λ i lt. refl;
      } in
      let l = all ops 0 (start p inputs) (λ o. []) (λ i. let z : i ≡ 0 + i = omega arith in ap (slice_get ops) z) k in
      let t = l.3 in
      let same : (o : ℕ) (op : OpForm) → slice_get ops o ≡ Some op → l.1 o ≡ ws o = (λ o op g. l.4 o (let b = slice_get_within ops o op g in omega (arith, b))) in (
        l.0,
        l.2,
        record {
          kept = λ o op g. t.kept o op g ∙ ap (λ w. (ran op w).states) (same o op g);
          written_by = λ o op g. subst (λ w. Lists op.writes (ran op w).outs l.0.hist) (same o op g) (t.written_by o op g);
          unwritten = t.unwritten;
          below = a.below;
          taken = λ o op g port q r. let old = t.taken o op g port q r in (ap (at_port port) (sym (same o op g)) ∙ old.0, old.1);
          rows = λ u test. t.rows u test ∙ numbered_same (λ i op. count_by test (joined (tables_of tables op) (ran op (l.1 i)).adds u))
              (λ i op. count_by test (joined (tables_of tables op) (ran op (ws i)).adds u)) ops 0
              (λ i op g. let y : i ≡ 0 + i = omega arith in
              subst (λ n. count_by test (joined (tables_of tables op) (ran op (l.1 n)).adds u) ≡ count_by test (joined (tables_of tables op)
              (ran op (ws n)).adds u)) y
              (ap (λ w. count_by test (joined (tables_of tables op) (ran op w).adds u)) (same i op g)));
        },
      )

-- the run that fires operator by operator is a run, and reaches what the operators have
pub named_law : NamedRuns
named_law p inputs ws v a =
    let r = reached p inputs v ws a in
    let s = r.0 in
    let t = r.2 in (
      s,
      record {
        run = r.1;
        hist = only_words p inputs ws s.hist v t.written_by t.unwritten;
        taken = λ o op g port q is. let old = t.taken o op g port q is in let b = ap length old.0 in let c = length-take (s.taken q) (s.hist q) in
            let d = old.1 in omega (arith, b, c, d);
        kept = t.kept;
        rows = λ u test. t.rows u test ∙ sym (added_numbered (table_names p.tables) p.ops 0 ws u test);
        times_of = λ o op g. let z : 0 + o ≡ o = omega arith in
            subst (λ n. times n (named_run p ws) ≡ length (ws n)) z (times_named p.ops 0 o ws (slice_get_within p.ops o op g));
      },
    )
