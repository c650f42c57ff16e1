-- What a net keeps stays through each move.
use Rattle.std.proofs.Common.{◌≡◌, ◌≢◌, inl, inr, false, ℕ, suc, ◌<◌, ◌≤◌, Some, List, [], ◌∷◌, ◌++◌, length, drop, refl, sym, ap, ◌∙◌, subst, arith}
use Rattle.std.proofs.Common.{⊎_elim, append_assoc, length-append}
use Rattle.std.specs.Prelude.{slice_get, count_by}
use Rattle.std.proofs.lemmas.Bool.{cases_eq}
use Rattle.std.proofs.lemmas.List.{append-nil, take-append-drop, length-take}
use Rattle.std.proofs.lemmas.Option.{same_Some}
use Rattle.river_base.proofs.PlaceLemmas.{if_true, if_false}
use Rattle.river_base.proofs.Lists.{count_by-append}
use Rattle.river_base.specs.declared.item.Item as item
use Rattle.river_base.specs.Name.{name_eq}
use Rattle.river_base.specs.Places.{list_at}
use Rattle.river_plan.specs.Forms.{Name, OpForm, PlanForm, decl_names, table_names}
use Rattle.river_plan.specs.Names.{count}
use Rattle.river_plan.specs.Uses.{total, reads_it, writes_it}
use Rattle.river_plan.specs.Valid.{IsPlan}
use Rattle.river_plan.proofs.NameLemmas.{cases_name, more_or_zero}
use Rattle.brooklet_model.specs.Fire.{fire}
use Rattle.brooklet_model.specs.Firings.{Fired}
use Rattle.brooklet_model.specs.Histories.{History, joined, tables_of, Lists}
use Rattle.brooklet_model.specs.Laws.{given_to}
use Rattle.brooklet_model.specs.Machine.{Machine, Run, start, fired, at_key, at_name}
use Rattle.brooklet_model.specs.Words.{Word, at_port}
use Rattle.brooklet_model.proofs.Complete.{traced_start, traced_fired, nothing_given}
use Rattle.brooklet_model.specs.Traced.{ran, Traced}
use Rattle.brooklet_model.proofs.Lists.{funext}
use Rattle.brooklet_model.proofs.Swaps.{at_port_here, at_port_past}
use Rattle.brooklet_model.proofs.Free.{at_port-append}
use Rattle.brooklet_model.proofs.Traces.{at_most, joined_out, one_place, got_count, place_once, at_same, at_key_same, at_key_other}
use Rattle.brooklet_model.specs.Bounded.{Bounded, Capacities, history, sent, at_first, IsWithinCapacities, IsBusy, after_taking, Send, Take}
use Rattle.brooklet_model.specs.NetLaws.{NetsAreKept}
use Rattle.brooklet_model.specs.Nets.{IsNet, Leads, and_took, sent_count_in}
use Rattle.brooklet_model.specs.Received.{hist_by, AreWords, AreDone, IsFront, named_run, lengths_at}
use Rattle.brooklet_model.proofs.BoundedMoves.{empty_or, some_in, passed_history, took_sent, sends_keep, takes_keep}
use Rattle.brooklet_model.proofs.Received.{got_mid, only_words, by_words, writer_of}
use Rattle.brooklet_model.proofs.NamedRun.{reached, named_law, added_numbered}

-- what is known of a machine after its firings, as words
pub traced_words : (p : PlanForm) (inputs : List (List item.Item)) (s : Machine) (ws : ℕ → Word) → IsPlan p
    → Traced (table_names p.tables) p.ops (given_to p inputs) s ws
    → AreWords p inputs ws × ((q : Name) → s.hist q ≡ hist_by p inputs ws q)
traced_words p inputs s ws v t =
    let same = only_words p inputs ws s.hist v t.written_by t.unwritten in (
      record {
        below = t.below;
        fronts = λ o op g port q is.
            let old = (t.taken o op g port q is).0 in
            subst (IsFront (at_port port (ws o))) (same q)
            (drop (s.taken q) (s.hist q), ap (λ l. l ++ drop (s.taken q) (s.hist q)) old ∙ take-append-drop (s.taken q) (s.hist q));
      },
      same,
    )

module _ (p : PlanForm) (inputs : List (List item.Item)) (caps : Capacities) (v : IsPlan p) where
  abbrev tables : List Name
  tables = table_names p.tables

  empty : (q : Name) → count q (decl_names p.inputs) ≡ 0 → given_to p inputs q ≡ []
  empty q z = nothing_given (decl_names p.inputs) (list_at inputs) q z

  abbrev nothing : ℕ → Word
  nothing o = []

  net_first : IsNet p inputs caps nothing (at_first p inputs)
  net_first =
      let t = traced_start p (given_to p inputs) v empty in
      let w = traced_words p inputs (start p inputs) nothing v t in
      record {
        words = w.0;
        histories = λ q. append-nil (given_to p inputs q) ∙ w.1 q;
        taken = λ o op g port q is. refl;
        unread = λ q z. refl;
        unwritten = λ q z. refl;
        kept = t.kept;
        rows = λ u test. t.rows u test ∙ sym (added_numbered tables p.ops 0 nothing u test);
        within = λ q lw lr. let e = ap length (empty q (let w = v.written_once q in omega (arith, w, lw))) in omega (arith, e);
      }

  -- a queue that an operator writes is none that nobody writes
  not_written : (o : ℕ) (op : OpForm) (port : ℕ) (q q' : Name) → slice_get p.ops o ≡ Some op → slice_get op.writes port ≡ Some q
      → total (writes_it q') p.ops ≡ 0 → name_eq q q' ≡ false
  not_written o op port q q' g is z = ⊎_elim
      (λ c. absurd (let l = got_count op.writes port q is in let a = at_most (writes_it q) p.ops o op g in
      let y = ap (λ x. total (writes_it x) p.ops) c.0 in omega (arith, l, a, y, z)))
      (λ c. c.1)
      (cases_name q q')

  net_sends : (ws : ℕ → Word) (b b' : Bounded) (o port : ℕ) → Send p caps b o port b' → IsNet p inputs caps ws b → IsNet p inputs caps ws b'
  net_sends ws b b' o port m n =
      subst (IsNet p inputs caps ws) (sym m.after) (record {
        words = n.words;
        histories = λ q. passed_history m.queue m.item m.rest b m.item_is q ∙ n.histories q;
        taken = n.taken;
        unread = n.unread;
        unwritten = λ q z.
            if_false (name_eq m.queue q) m.rest (b.pending q) (not_written o m.op port m.queue q m.op_is m.queue_is z) ∙ n.unwritten q z;
        kept = n.kept;
        rows = n.rows;
        within = subst (IsWithinCapacities p caps) m.after (sends_keep p caps b b' o port m n.within);
      })

  -- an item is taken
  module _ (ws : ℕ → Word) (b b' : Bounded) (o port : ℕ) (m : Take p b o port b') (n : IsNet p inputs caps ws b) where
    -- the queue that is taken from
    abbrev q : Name
    q = m.queue

    -- the words afterwards
    abbrev ws' : ℕ → Word
    ws' = and_took o port m.item ws

    -- this firing
    abbrev r : Fired
    r = fire m.op.kernel port m.item (b.kept o)

    -- a machine that has made the firings so far
    abbrev all : (s : Machine) × Run p (start p inputs) (named_run p ws) s × Traced (table_names p.tables) p.ops (given_to p inputs) s ws
    all = reached p inputs v ws n.words

    abbrev s : Machine
    s = all.0

    t : Traced (table_names p.tables) p.ops (given_to p inputs) s ws
    t = all.2

    same : (x : Name) → s.hist x ≡ hist_by p inputs ws x
    same = only_words p inputs ws s.hist v t.written_by t.unwritten

    -- it keeps what the net keeps
    kept_is : s.kept o ≡ b.kept o
    kept_is = t.kept o m.op m.op_is ∙ sym (n.kept o m.op m.op_is)

    -- the item is the front of what is not taken
    got : slice_get (s.hist q) (s.taken q) ≡ Some m.item
    got =
        let old = t.taken o m.op m.op_is port q m.queue_is in
        let long : length (b.taken q) ≡ s.taken q =
        (let x = ap length (n.taken o m.op m.op_is port q m.queue_is) in let y = ap length old.0 in let c = length-take (s.taken q) (s.hist q) in
        let d = old.1 in omega (arith, x, y, c, d)) in
        ap (λ l. slice_get l (s.taken q)) (same q ∙ sym (n.histories q) ∙ ap (λ l. (b.taken q ++ l) ++ b.pending q) m.item_is
        ∙ append_assoc (b.taken q) (m.item ∷ m.rest) (b.pending q))
        ∙ got_mid (b.taken q) (m.rest ++ b.pending q) m.item (s.taken q) long

    -- the machine after this firing
    abbrev s1 : Machine
    s1 = fired (table_names p.tables) o m.op port q m.item s

    t1 : Traced (table_names p.tables) p.ops (given_to p inputs) s1 ws'
    t1 = traced_fired p (given_to p inputs) v empty s ws o port m.op q m.item t m.op_is m.queue_is got

    -- what is known of it, as words
    w : AreWords p inputs ws' × ((x : Name) → s1.hist x ≡ hist_by p inputs ws' x)
    w = traced_words p inputs s1 ws' v t1

    -- the histories are those of the words
    hist_is : (x : Name) → history (after_taking (table_names p.tables) o m.op port q m.item m.rest b) x ≡ hist_by p inputs ws' x
    hist_is x =
        ap (λ l. l ++ (b.pending x ++ joined m.op.writes r.outs x)) (took_sent q m.item m.rest b m.item_is x)
        ∙ sym (append_assoc (b.taken x ++ b.left x) (b.pending x) (joined m.op.writes r.outs x))
        ∙ ap (λ l. l ++ joined m.op.writes r.outs x) (n.histories x ∙ sym (same x))
        ∙ ap (λ us. s.hist x ++ joined m.op.writes (fire m.op.kernel port m.item us).outs x) (sym kept_is)
        ∙ w.1 x

    -- of the queue one more item is taken
    here : b.taken q ++ m.item ∷ [] ≡ at_port port (ws' o)
    here =
        ap (λ l. l ++ m.item ∷ []) (n.taken o m.op m.op_is port q m.queue_is)
        ∙ sym (ap (at_port port) (at_key_same o (ws o ++ (port, m.item) ∷ []) ws) ∙ at_port-append port (ws o) ((port, m.item) ∷ [])
        ∙ ap (λ l. at_port port (ws o) ++ l) (at_port_here port (port, m.item) [] refl))

    -- at the port of another queue no more is taken
    word_there : (o' : ℕ) (op' : OpForm) → slice_get p.ops o' ≡ Some op' → (port' : ℕ) (x : Name) → slice_get op'.reads port' ≡ Some x → (q ≡ x → ⊥)
        → at_port port' (ws' o') ≡ at_port port' (ws o')
    word_there o' op' g' port' x is apart = ⊎_elim
        (λ e.
        at_same p.ops (λ i j. slice_get j.reads port' ≡ Some x → at_port port' (ws' i) ≡ at_port port' (ws i)) o o' m.op op' m.op_is g' e
        (λ h.
        let np : port ≢ port' = λ ep. apart (same_Some q x (sym m.queue_is ∙ ap (slice_get m.op.reads) ep ∙ h)) in
        ap (at_port port') (at_key_same o (ws o ++ (port, m.item) ∷ []) ws) ∙ at_port-append port' (ws o) ((port, m.item) ∷ [])
        ∙ ap (λ l. at_port port' (ws o) ++ l) (at_port_past port' (port, m.item) [] np) ∙ append-nil (at_port port' (ws o))) is)
        (λ ne. ap (at_port port') (at_key_other o (ws o ++ (port, m.item) ∷ []) ws o' ne))
        (cases_eq o o')

    -- so at each port as much is taken as its word has
    taken_is : (o' : ℕ) (op' : OpForm) → slice_get p.ops o' ≡ Some op' → (port' : ℕ) (x : Name) → slice_get op'.reads port' ≡ Some x
        → at_name q (b.taken q ++ m.item ∷ []) b.taken x ≡ at_port port' (ws' o')
    taken_is o' op' g' port' x is = ⊎_elim
        (λ c.
        let lt : 0 < count q m.op.reads = got_count m.op.reads port q m.queue_is in
        let is2 : slice_get op'.reads port' ≡ Some q = is ∙ ap Some (sym c.0) in
        let lt' : 0 < count q op'.reads = got_count op'.reads port' q is2 in
        let eo = one_place (reads_it q) p.ops o o' m.op op' (let u = v.read_once q in omega (arith, u)) m.op_is g' lt lt' in
        if_true (name_eq q x) (b.taken q ++ m.item ∷ []) (b.taken x) c.1
        ∙ at_same p.ops (λ i j. slice_get j.reads port' ≡ Some q → b.taken q ++ m.item ∷ [] ≡ at_port port' (ws' i)) o o' m.op op' m.op_is g' eo
        (λ h. subst (λ k. b.taken q ++ m.item ∷ [] ≡ at_port k (ws' o))
        (place_once m.op.reads port port' q (let a = at_most (reads_it q) p.ops o m.op m.op_is in let u = v.read_once q in
        omega (arith, a, u)) m.queue_is h) here) is2)
        (λ c.
        if_false (name_eq q x) (b.taken q ++ m.item ∷ []) (b.taken x) c.1 ∙ n.taken o' op' g' port' x is ∙ sym (word_there o' op' g' port' x is c.0))
        (cases_name q x)

    -- a queue that nobody reads is not the one
    unread_after : (x : Name) → total (reads_it x) p.ops ≡ 0 → at_name q (b.taken q ++ m.item ∷ []) b.taken x ≡ []
    unread_after x z = ⊎_elim
        (λ c. absurd (let l = got_count m.op.reads port q m.queue_is in let a = at_most (reads_it q) p.ops o m.op m.op_is in
        let y = ap (λ x. total (reads_it x) p.ops) c.0 in omega (arith, l, a, y, z)))
        (λ c. if_false (name_eq q x) (b.taken q ++ m.item ∷ []) (b.taken x) c.1 ∙ n.unread x z)
        (cases_name q x)

    -- each operator keeps what its word leaves
    kept_after : (o' : ℕ) (op' : OpForm) → slice_get p.ops o' ≡ Some op' → at_key o r.states b.kept o' ≡ (ran op' (ws' o')).states
    kept_after o' op' g' = ⊎_elim
        (λ e. at_same p.ops (λ i j. at_key o r.states b.kept i ≡ (ran j (ws' i)).states) o o' m.op op' m.op_is g' e
        (at_key_same o r.states b.kept ∙ sym (at_key_same o (fire m.op.kernel port m.item (s.kept o)).states s.kept
        ∙ ap (λ us. (fire m.op.kernel port m.item us).states) kept_is) ∙ t1.kept o m.op m.op_is))
        (λ ne. at_key_other o r.states b.kept o' ne ∙ n.kept o' op' g'
        ∙ sym (ap (λ u. (ran op' u).states) (at_key_other o (ws o ++ (port, m.item) ∷ []) ws o' ne)))
        (cases_eq o o')

    -- the net takes
    net_takes : IsNet p inputs caps ws' b'
    net_takes =
        subst (IsNet p inputs caps ws') (sym m.after) (record {
          words = w.0;
          histories = hist_is;
          taken = taken_is;
          unread = unread_after;
          unwritten = λ x z.
              ap (λ l. l ++ joined m.op.writes r.outs x) (n.unwritten x z)
              ∙ joined_out m.op.writes r.outs x (let a = at_most (writes_it x) p.ops o m.op m.op_is in omega (arith, a, z));
          kept = kept_after;
          rows = λ u test.
              let a = t1.rows u test in
              let c = added_numbered tables p.ops 0 ws' u test in
              let d = count_by-append test (s.rows u) (joined (tables_of tables m.op) (fire m.op.kernel port m.item (s.kept o)).adds u) in
              let e = count_by-append test (b.rows u) (joined (tables_of tables m.op) r.adds u) in
              let f = ap (λ us. count_by test (joined (tables_of tables m.op) (fire m.op.kernel port m.item us).adds u)) kept_is in
              let x = t.rows u test in
              let y = added_numbered tables p.ops 0 ws u test in
              let z = n.rows u test in
              omega (arith, a, c, d, e, f, x, y, z);
          within = subst (IsWithinCapacities p caps) m.after (takes_keep p caps b b' o port m n.within);
        })

  net_leads : (ws : ℕ → Word) (b : Bounded) → IsNet p inputs caps ws b → (s : Machine) × Leads p inputs ws b s
  net_leads ws b n =
      let k = named_law p inputs ws v n.words in (
        k.0,
        record {
          reaches = k.1;
          hist = λ q. k.1.hist q ∙ sym (n.histories q);
          kept = λ o op g. k.1.kept o op g ∙ sym (n.kept o op g);
          taken = λ o op g port q is. k.1.taken o op g port q is ∙ ap length (sym (n.taken o op g port q is));
          rows = λ u test. k.1.rows u test ∙ sym (n.rows u test);
        },
      )

  sent_most : (qs : List Name) (f : ℕ → List item.Item) (b : Bounded) → Lists qs f (history b) → sent_count_in b qs ≤ lengths_at qs f
  sent_most [] f b l = omega arith
  sent_most (q ∷ qs) f b l =
      let e = ap length l.0 in
      let a = length-append (sent b q) (b.pending q) in
      let i = sent_most qs (λ j. f (suc j)) b l.1 in
      omega (arith, e, a, i)

  net_sent : (ws : ℕ → Word) (b : Bounded) (o : ℕ) (op : OpForm) → IsNet p inputs caps ws b → slice_get p.ops o ≡ Some op
      → sent_count_in b op.writes ≤ lengths_at op.writes (ran op (ws o)).outs
  net_sent ws b o op n g = sent_most op.writes (ran op (ws o)).outs b (subst (λ (h : History). Lists op.writes (ran op (ws o)).outs h)
      (funext (hist_by p inputs ws) (history b) (λ q. sym (n.histories q))) (by_words p inputs ws v o op g))

  -- where nobody is busy, what was taken of a queue that is read is its whole history
  net_ends : (ws : ℕ → Word) (b : Bounded) → IsNet p inputs caps ws b
      → ((o : ℕ) (op : OpForm) → slice_get p.ops o ≡ Some op → IsBusy b op → ⊥) → AreDone p inputs ws
  net_ends ws b n quiet o op g port q is =
      sym (n.taken o op g port q is) ∙ sym (append-nil (b.taken q)) ∙ ap (λ l. b.taken q ++ l) (sym nothing_left) ∙ sym (append-nil (sent b q))
      ∙ ap (λ l. sent b q ++ l) (sym nothing_pending) ∙ n.histories q
    where
      nothing_left : b.left q ≡ []
      nothing_left = ⊎_elim (λ lt. absurd (quiet o op g (inr (port, q, is, lt)))) (λ e. e) (empty_or (b.left q))

      written : (w : (o' : ℕ) × (op' : OpForm) × (slice_get p.ops o' ≡ Some op') × (0 < count q op'.writes)) → b.pending q ≡ []
      written w = ⊎_elim (λ i. absurd (quiet w.0 w.1 w.2 (inl i))) (λ e. e q w.3) (some_in b.pending w.1.writes)

      nothing_pending : b.pending q ≡ []
      nothing_pending = ⊎_elim (λ lt. written (writer_of p.ops q lt)) (λ z. n.unwritten q z) (more_or_zero (total (writes_it q) p.ops))

-- what a net keeps holds at the beginning and stays through each move
pub nets_law : NetsAreKept
nets_law p inputs caps v = record {
  first = net_first p inputs caps v;
  sends = net_sends p inputs caps v;
  takes = net_takes p inputs caps v;
  leads = net_leads p inputs caps v;
  sent = net_sent p inputs caps v;
  ends = net_ends p inputs caps v;
}
