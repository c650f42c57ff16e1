-- Tasks that are put together are a net.
use Rattle.std.proofs.Common.{ℤ, ◌≡◌, ◌≢◌, ℕ, zero, suc, ◌+◌, ◌<◌, ◌≤◌, Option, Some, None, List, [], ◌∷◌, ◌++◌, length, map, take, drop, refl, sym, ap, ◌∙◌, subst}
use Rattle.std.proofs.Common.{arith, ⊎_elim, append_assoc, length-append}
use Rattle.std.specs.Prelude.{All, slice_get}
use Rattle.std.proofs.lemmas.Bool.{cases_lt}
use Rattle.std.proofs.lemmas.List.{append-nil, length-map, take-append-drop, length-take, take_at, take-take, drop_all}
use Rattle.std.proofs.Math.Seq.{take-nil}
use Rattle.std.proofs.lemmas.List.Elements.{All-nil}
use Rattle.std.proofs.lemmas.Option.{slice_get_within, same_Some}
use Rattle.river_base.proofs.PlaceLemmas.{if_eq}
use Rattle.river_base.proofs.Lists.{got_map, there_is}
use Rattle.river_base.specs.declared.item.Item as item
use Rattle.river_base.specs.declared.kind.QueueType.{QueueType}
use Rattle.river_base.specs.Held.{held, HasType, IsHeld}
use Rattle.river_base.specs.Places.{list_at}
use Rattle.river_base.proofs.HeldLemmas.{length-held}
use Rattle.river_plan.specs.Forms.{Name, OpForm, PlanForm, all_decls, decl_names}
use Rattle.river_plan.specs.Kinds.{kind_of, var_kind}
use Rattle.river_plan.specs.Names.{one_if, count}
use Rattle.river_plan.specs.Uses.{total, writes_it, reads_it}
use Rattle.river_plan.specs.Valid.{IsPlan}
use Rattle.river_plan.proofs.NameLemmas.{more_or_zero, cases_name}
use Rattle.brooklet_model.specs.Bounded.{Bounded, Capacities, history, sent}
use Rattle.brooklet_model.specs.Fire.{first_kept}
use Rattle.brooklet_model.specs.Histories.{History, written, Lists, lists_of}
use Rattle.brooklet_model.specs.Machine.{at_key}
use Rattle.brooklet_model.specs.Traced.{ran}
use Rattle.brooklet_model.specs.Received.{hist_by, AreWords, IsFront}
use Rattle.brooklet_model.specs.Typed.{IsOf, IsTyped, AreInputs, IsWordOf}
use Rattle.brooklet_model.specs.Words.{Word, at_port}
use Rattle.brooklet_model.proofs.BoundedMoves.{reader_of}
use Rattle.brooklet_model.proofs.Ports.{shaped}
use Rattle.brooklet_model.proofs.Received.{writer_of, writer_before, by_words, unwritten_by}
use Rattle.brooklet_model.proofs.Solutions.{written_out, lists_written, lists_one}
use Rattle.brooklet_model.proofs.Traces.{got_read, got_count, at_key_same, at_key_other, at_same}
use Rattle.brooklet_model.proofs.TypedPlan.{op_fits, inputs_typed}
use Rattle.brooklet_step.specs.Given.{held_at, held_by, IsHeldBy, IsHeldOf}
use Rattle.brooklet_step.proofs.GivenLemmas.{at-nil, at-length, ran_typed, first_is_start}
use Rattle.fire_tasks.specs.Fired.{SeenTask, bad_at, IsBad, IsHeldAs, kinds_in, kinds_out, HasFired}
use Rattle.brooklet_step.proofs.Edges.{inputs_held, inputs_may}
use Rattle.fire_tasks.specs.Joins.{TasksJoin, Joins, AreBeside, lists_by_name, kept_by, taken_by, bounded}
use Rattle.fire_tasks.proofs.PortLemmas.{all_mid}
use Rattle.fire_tasks.proofs.HeldWords.{held_front, held_fewer, all_left, relabel, relabel_ports, relabel_at, typed_ports, below_same, nothing_beyond, no_list, found}

-- what these operators have at a queue of theirs
pub spread_out : (names : OpForm → List Name) (f : ℕ → ℕ → List item.Item) (ops : List OpForm) (o : ℕ) (h : History) (q : Name)
    → total (λ op. count q (names op)) ops ≡ 0 → lists_by_name names f o ops h q ≡ h q
spread_out names f [] o h q z = refl
spread_out names f (op ∷ ops) o h q z = spread_out names f ops (suc o) (written (names op) (f o) h) q (omega (arith, z))
    ∙ written_out (names op) (f o) h q (omega (arith, z))

-- each operator's lists are found under the names of its queues
pub spread_lists : (names : OpForm → List Name) (f : ℕ → ℕ → List item.Item) (ops : List OpForm) (o : ℕ) (h : History)
    → ((q : Name) → total (λ op. count q (names op)) ops ≤ 1) → (i : ℕ) (op : OpForm) → slice_get ops i ≡ Some op
    → Lists (names op) (f (o + i)) (lists_by_name names f o ops h)
spread_lists names f [] o h once i op g = absurd (cc g)
spread_lists names f (a ∷ ops) o h once zero op g =
    let z : o ≡ o + 0 = omega arith in
    subst (λ (b : OpForm). Lists (names b) (f (o + 0)) (lists_by_name names f o (a ∷ ops) h)) (same_Some a op g)
    (subst (λ n. Lists (names a) (f n) (lists_by_name names f o (a ∷ ops) h)) z
    (lists_written (names a) (f o) h (lists_by_name names f o (a ∷ ops) h)
    (λ q. let w = once q in omega (arith, w))
    (λ q lt. spread_out names f ops (suc o) (written (names a) (f o) h) q (let w = once q in omega (arith, w, lt)))))
spread_lists names f (a ∷ ops) o h once (suc i) op g =
    let z : suc o + i ≡ o + suc i = omega arith in
    subst (λ n. Lists (names op) (f n) (lists_by_name names f o (a ∷ ops) h)) z
    (spread_lists names f ops (suc o) (written (names a) (f o) h) (λ q. let w = once q in omega (arith, w)) i op g)

-- a list at its place
pub lists_at : (ws : List Name) (f : ℕ → List item.Item) (h : History) → Lists ws f h → (j : ℕ) (q : Name) → slice_get ws j ≡ Some q → h q ≡ f j
lists_at [] f h l j q g = absurd (cc g)
lists_at (w ∷ ws) f h l zero q g = subst (λ n. h n ≡ f 0) (same_Some w q g) l.0
lists_at (w ∷ ws) f h l (suc j) q g = lists_at ws (λ i. f (suc i)) h l.1 j q g

-- a name that stands in a list has a place there
pub place_of : (ws : List Name) (q : Name) → 0 < count q ws → (j : ℕ) × (slice_get ws j ≡ Some q)
place_of [] q lt = absurd (omega (arith, lt))
place_of (w ∷ ws) q lt = ⊎_elim
    (λ c. (0, ap Some c.0))
    (λ c. let r = place_of ws q (let e = ap one_if c.1 in omega (arith, e, lt)) in (suc r.0, r.1))
    (cases_name w q)

none_or : (b : Option (ℕ × item.Item)) (is : List QueueType) → IsBad is b
    → ((e : ℕ × item.Item) → b ≡ Some e → e.0 < length is → (IsHeldOf is e.0 e.1 → ⊥) → ⊥) → b ≡ None
none_or None is h k = refl
none_or (Some e) is h k = absurd (k e refl h.0 h.1)

module _ (p : PlanForm) (inputs : List (List item.Item)) (caps : Capacities) (adds : ℕ → ℕ → List (List ℤ)) (ts : ℕ → SeenTask) (left : History)
    (is : ℕ → Word) (v : IsPlan p) (typed : AreInputs p.inputs inputs)
    (fired : (o : ℕ) (op : OpForm) → slice_get p.ops o ≡ Some op → HasFired p op (adds o) (ts o) (is o)) (beside : AreBeside p inputs caps ts left) where
  abbrev kind : Name → QueueType
  kind = kind_of (all_decls p)

  -- NO ITEM FAILED ITS TEST

  -- all that was sent may be held by its queue, whatever the others did
  sent_held : (o : ℕ) (op : OpForm) → slice_get p.ops o ≡ Some op → (j : ℕ) (q : Name) → slice_get op.writes j ≡ Some q
      → All (IsHeld (kind q)) (list_at (ts o).sent j)
  sent_held o op g j q at =
      let t = (fired o op g).held j in
      all_left (IsHeld (kind q)) (list_at (ts o).sent j) (list_at (ts o).pending j)
      (subst (λ (k : Option QueueType). All (IsHeldBy k) (list_at (ts o).sent j ++ list_at (ts o).pending j)) (got_map kind op.writes j q at) t)

  -- so may all that lies where an operator reads
  source_held : (o : ℕ) (op : OpForm) → slice_get p.ops o ≡ Some op → (port : ℕ) (q : Name) → slice_get op.reads port ≡ Some q
      → All (IsHeld (kind q)) (list_at (ts o).received port ++ left q)
  source_held o op g port q at = ⊎_elim
      (λ lt.
      let w = writer_of p.ops q lt in
      let j = place_of w.1.writes q w.3 in
      subst (All (IsHeld (kind q))) (sym (beside.inner o w.0 op w.1 port j.0 q g at w.2 j.1)) (sent_held w.0 w.1 w.2 j.0 q j.1))
      (λ z. subst (All (IsHeld (kind q))) (sym (beside.input o op port q g at z)) (inputs_may p v inputs typed q))
      (more_or_zero (total (writes_it q) p.ops))

  none_bad : (o : ℕ) (op : OpForm) → slice_get p.ops o ≡ Some op → (ts o).bad ≡ None
  none_bad o op g =
      let f = fired o op g in
      none_or (ts o).bad (map kind op.reads) f.bad (λ e at lt no.
      let l = length-map op.reads kind in
      let q = there_is op.reads e.0 (omega (arith, l, lt)) in
      let src = source_held o op g e.0 q.0 q.1 in
      let here : list_at (ts o).received e.0 ++ left q.0 ≡ at_port e.0 (is o) ++ e.1 ∷ left q.0 =
      ap (λ x. x ++ left q.0)
      (f.received e.0 ∙ ap (λ x. at_port e.0 (is o) ++ bad_at e.0 x) at ∙ ap (λ x. at_port e.0 (is o) ++ x) (if_eq e.0 e.0 (e.1 ∷ []) [] refl))
      ∙ append_assoc (at_port e.0 (is o)) (e.1 ∷ []) (left q.0) in
      let ok = all_mid (IsHeld (kind q.0)) (at_port e.0 (is o)) (left q.0) e.1 (subst (All (IsHeld (kind q.0))) here src) in
      no (subst (λ (k : Option QueueType). IsHeldBy k e.1) (sym (got_map kind op.reads e.0 q.0 q.1)) ok))

  -- so what a task received is what it fired on
  received_is : (o : ℕ) (op : OpForm) → slice_get p.ops o ≡ Some op → (port : ℕ) → list_at (ts o).received port ≡ at_port port (is o)
  received_is o op g port = (fired o op g).received port ∙ ap (λ x. at_port port (is o) ++ bad_at port x) (none_bad o op g) ∙ append-nil (at_port port (is o))

  -- WORDS THAT THE ITEMS STAND FOR, OPERATOR BY OPERATOR

  record Good (ws : ℕ → Word) (o : ℕ) (op : OpForm) : Type 0 where
    types : IsWordOf (kinds_in p op) (ws o)
    stands : IsHeldAs (kinds_in p op) (ws o) (is o)
    fronts : (port : ℕ) (q : Name) → slice_get op.reads port ≡ Some q → IsFront (at_port port (ws o)) (hist_by p inputs ws q)

  -- what a task gave that has its word
  gave_is : (ws : ℕ → Word) (o : ℕ) (op : OpForm) → slice_get p.ops o ≡ Some op → Good ws o op → (j : ℕ) (q : Name) → slice_get op.writes j ≡ Some q
      → list_at (ts o).sent j ++ list_at (ts o).pending j ≡ held (kind q) [] (hist_by p inputs ws q)
  gave_is ws o op g k j q at =
      ((fired o op g).given (ws o) k.types k.stands).outs j (slice_get_within op.writes j q at)
      ∙ ap (λ (t : Option QueueType). held_by t [] ((ran op (ws o)).outs j)) (got_map kind op.writes j q at)
      ∙ ap (held (kind q) []) (sym (lists_at op.writes (ran op (ws o)).outs (hist_by p inputs ws) (by_words p inputs ws v o op g) j q at))

  -- words that agree before operator n have the same histories where it reads
  hist_before : (ws ws' : ℕ → Word) (n : ℕ) (op : OpForm) → slice_get p.ops n ≡ Some op → ((i : ℕ) → i < n → ws i ≡ ws' i) → (q : Name) → 0 < count q op.reads
      → hist_by p inputs ws q ≡ hist_by p inputs ws' q
  hist_before ws ws' n op g same q lt = ⊎_elim
      (λ k. let z : total (writes_it q) p.ops ≡ 0 = (let w = v.written_once q in omega (arith, k, w)) in unwritten_by p inputs ws q z
      ∙ sym (unwritten_by p inputs ws' q z))
      (λ w. lists_one w.1.writes (ran w.1 (ws w.0)).outs (hist_by p inputs ws) (hist_by p inputs ws')
      (by_words p inputs ws v w.0 w.1 w.3)
      (subst (λ y. Lists w.1.writes (ran w.1 y).outs (hist_by p inputs ws')) (sym (same w.0 w.2)) (by_words p inputs ws' v w.0 w.1 w.3)) q w.4)
      (writer_before p.ops (λ n. count n (decl_names p.inputs)) n op q g lt v.in_order)

  -- what is known of a queue that operator n reads, where those before it have their words
  record Source (ws : ℕ → Word) (n port : ℕ) (q : Name) : Type 0 where
    front : IsFront (at_port port (is n)) (held (kind q) [] (hist_by p inputs ws q))
    kinds : All (HasType (kind q)) (hist_by p inputs ws q)

  source : (ws : ℕ → Word) (n : ℕ) (op : OpForm) → slice_get p.ops n ≡ Some op → ((o : ℕ) (a : OpForm) → o < n → slice_get p.ops o ≡ Some a → Good ws o a)
      → (port : ℕ) (q : Name) → slice_get op.reads port ≡ Some q → Source ws n port q
  source ws n op g all port q at = ⊎_elim
      (λ k.
      let z : total (writes_it q) p.ops ≡ 0 = (let w = v.written_once q in omega (arith, k, w)) in
      record {
        front = (
          left q,
          ap (λ x. x ++ left q) (sym (received_is n op g port)) ∙ beside.input n op port q g at z ∙ sym (inputs_held p v inputs q)
              ∙ ap (held (kind q) []) (sym (unwritten_by p inputs ws q z)),
        );
        kinds = subst (All (HasType (kind q))) (sym (unwritten_by p inputs ws q z)) (inputs_typed p v inputs typed q);
      })
      (λ w.
      let j = place_of w.1.writes q w.4 in
      let good = all w.0 w.1 w.2 w.3 in
      let pend = list_at (ts w.0).pending j.0 in
      let t = ran_typed w.1.kernel (kinds_in p w.1) (kinds_out p w.1) (map (var_kind p.tables p.vars) w.1.vars) (first_kept w.1.kernel) (ws w.0)
      (op_fits p v w.0 w.1 w.3)
      (first_is_start w.1.kernel (kinds_in p w.1)
      (shaped w.1.kernel (kinds_in p w.1) (kinds_out p w.1) (map (var_kind p.tables p.vars) w.1.vars) (op_fits p v w.0 w.1 w.3))) good.types j.0 in
      record {
        front = (
          left q ++ pend,
          sym (append_assoc (at_port port (is n)) (left q) pend)
              ∙ ap (λ x. (x ++ left q) ++ pend) (sym (received_is n op g port))
              ∙ ap (λ x. x ++ pend) (beside.inner n w.0 op w.1 port j.0 q g at w.3 j.1)
              ∙ gave_is ws w.0 w.1 w.3 good j.0 q j.1,
        );
        kinds = subst (All (HasType (kind q)))
            (sym (lists_at w.1.writes (ran w.1 (ws w.0)).outs (hist_by p inputs ws) (by_words p inputs ws v w.0 w.1 w.3) j.0 q j.1))
            (subst (λ (k : Option QueueType). All (IsTyped k) ((ran w.1 (ws w.0)).outs j.0)) (got_map kind w.1.writes j.0 q j.1) t);
      })
      (writer_before p.ops (λ n. count n (decl_names p.inputs)) n op q g (got_count op.reads port q at) v.in_order)

  module _ (n : ℕ) (op : OpForm) (g : slice_get p.ops n ≡ Some op) (ws : ℕ → Word)
      (all : (o : ℕ) (a : OpForm) → o < n → slice_get p.ops o ≡ Some a → Good ws o a) where
    -- of each history that it reads as many items as came
    abbrev chosen : ℕ → List item.Item
    chosen port = take (length (at_port port (is n))) (lists_of (hist_by p inputs ws) op.reads port)

    abbrev word : Word
    word = relabel (is n) chosen

    abbrev with_it : ℕ → Word
    with_it = at_key n word ws

    beyond : (port : ℕ) → length op.reads ≤ port → at_port port (is n) ≡ []
    beyond port le = nothing_beyond (length op.reads) (is n) port (fired n op g).below le

    chosen_is : (port : ℕ) (q : Name) → slice_get op.reads port ≡ Some q → chosen port ≡ take (length (at_port port (is n))) (hist_by p inputs ws q)
    chosen_is port q at = ap (take (length (at_port port (is n)))) (got_read (hist_by p inputs ws) op.reads port q at)

    no_choice : (port : ℕ) → length op.reads ≤ port → chosen port ≡ []
    no_choice port le = ap (take (length (at_port port (is n)))) (no_list (hist_by p inputs ws) op.reads port le) ∙ take-nil (length (at_port port (is n)))

    chosen_long : (port : ℕ) → length (chosen port) ≡ length (at_port port (is n))
    chosen_long port = ⊎_elim
        (λ lt.
        let q = there_is op.reads port lt in
        let f = held_fewer (kind q.0) (at_port port (is n)) (hist_by p inputs ws q.0) (source ws n op g all port q.0 q.1).front in
        let e = ap length (chosen_is port q.0 q.1) in
        let l = length-take (length (at_port port (is n))) (hist_by p inputs ws q.0) in
        omega (arith, f, e, l))
        (λ ge. ap length (no_choice port ge) ∙ sym (ap length (beyond port ge)))
        (cases_lt port (length op.reads))

    word_at : (port : ℕ) → at_port port word ≡ chosen port
    word_at port = relabel_at (is n) chosen chosen_long port

    good_here : Good with_it n op
    good_here = record {
      types = subst (IsWordOf (kinds_in p op)) (sym (at_key_same n word ws))
          (typed_ports (kinds_in p op) word (λ port. subst (All (IsOf (kinds_in p op) port)) (sym (word_at port)) (⊎_elim
          (λ lt.
          let q = there_is op.reads port lt in
          let k = length (at_port port (is n)) in
          let h = hist_by p inputs ws q.0 in
          subst (λ (t : Option QueueType). All (IsTyped t) (chosen port)) (sym (got_map kind op.reads port q.0 q.1))
          (subst (All (HasType (kind q.0))) (sym (chosen_is port q.0 q.1))
          (all_left (HasType (kind q.0)) (take k h) (drop k h)
          (subst (All (HasType (kind q.0))) (sym (take-append-drop k h)) (source ws n op g all port q.0 q.1).kinds))))
          (λ ge. subst (All (IsOf (kinds_in p op) port)) (sym (no_choice port ge)) (All-nil (IsOf (kinds_in p op) port)))
          (cases_lt port (length op.reads)))));
      stands = subst (λ w. IsHeldAs (kinds_in p op) w (is n)) (sym (at_key_same n word ws)) (record {
        ports = relabel_ports (is n) chosen;
        items = λ port. ⊎_elim
            (λ lt.
            let q = there_is op.reads port lt in
            held_front (kind q.0) (at_port port (is n)) (hist_by p inputs ws q.0) (source ws n op g all port q.0 q.1).front
            ∙ ap (held (kind q.0) []) (sym (word_at port ∙ chosen_is port q.0 q.1))
            ∙ sym (ap (λ (t : Option QueueType). held_by t [] (at_port port word)) (got_map kind op.reads port q.0 q.1)))
            (λ ge. beyond port ge ∙ sym (ap (held_at (kinds_in p op) port []) (word_at port ∙ no_choice port ge) ∙ at-nil (kinds_in p op) port []))
            (cases_lt port (length op.reads));
      });
      fronts = λ port q at.
          let k = length (at_port port (is n)) in
          let h = hist_by p inputs ws q in (
            drop k h,
            ap (λ w. at_port port w ++ drop k h) (at_key_same n word ws) ∙ ap (λ l. l ++ drop k h) (word_at port ∙ chosen_is port q at) ∙ take-append-drop k h
                ∙ hist_before ws with_it n op g (λ i lt. let ne : n ≢ i = omega (arith, lt) in sym (at_key_other n word ws i ne)) q
                (got_count op.reads port q at),
          );
    }

    good_still : (o : ℕ) (a : OpForm) → o < n → slice_get p.ops o ≡ Some a → Good with_it o a
    good_still o a lt h =
        let old = all o a lt h in
        let ne : n ≢ o = omega (arith, lt) in
        let e : ws o ≡ with_it o = sym (at_key_other n word ws o ne) in
        record {
          types = subst (IsWordOf (kinds_in p a)) e old.types;
          stands = subst (λ w. IsHeldAs (kinds_in p a) w (is o)) e old.stands;
          fronts = λ port q at.
              let f = old.fronts port q at in (
                f.0,
                ap (λ w. at_port port w ++ f.0) (sym e) ∙ f.1
                    ∙ hist_before ws with_it o a h (λ i li. let no : n ≢ i = omega (arith, li, lt) in sym (at_key_other n word ws i no)) q
                    (got_count a.reads port q at),
              );
        }

  record Words (n : ℕ) : Type 0 where
    ws : ℕ → Word
    good : (o : ℕ) (a : OpForm) → o < n → slice_get p.ops o ≡ Some a → Good ws o a

  build : (n : ℕ) → Words n
  build zero = record { ws = λ o. []; good = λ o a lt h. absurd (omega (arith, lt)) }
  build (suc n) =
      let b = build n in
      ⊎_elim
      (λ f. record {
        ws = with_it n f.0 f.1 b.ws b.good;
        good = λ o a lt h. ⊎_elim
            (λ l. good_still n f.0 f.1 b.ws b.good o a l h)
            (λ ge.
            let e : n ≡ o = omega (arith, lt, ge) in
            at_same p.ops (Good (with_it n f.0 f.1 b.ws b.good)) n o f.0 a f.1 h e (good_here n f.0 f.1 b.ws b.good))
            (cases_lt o n);
      })
      (λ le. record {
        ws = b.ws;
        good = λ o a lt h. b.good o a (let w = slice_get_within p.ops o a h in omega (arith, w, le)) h;
      })
      (found p.ops n)

  abbrev ws : ℕ → Word
  ws = (build (length p.ops)).ws

  good_at : (o : ℕ) (op : OpForm) → slice_get p.ops o ≡ Some op → Good ws o op
  good_at o op g = (build (length p.ops)).good o op (slice_get_within p.ops o op g) g

  -- THE NET

  words_are : AreWords p inputs ws
  words_are = record {
    below = λ o op g. below_same (length op.reads) (ws o) (is o) (good_at o op g).stands.ports (fired o op g).below;
    fronts = λ o op g port q at. (good_at o op g).fronts port q at;
  }

  abbrev state : Bounded
  state = bounded p inputs left ws

  taken_is : (o : ℕ) (op : OpForm) → slice_get p.ops o ≡ Some op → (port : ℕ) (q : Name) → slice_get op.reads port ≡ Some q
      → state.taken q ≡ at_port port (ws o)
  taken_is o op g port q at =
      let z : 0 + o ≡ o = omega arith in
      lists_at op.reads (λ i. at_port i (ws o)) (taken_by p ws)
      (subst (λ n. Lists op.reads (λ i. at_port i (ws n)) (taken_by p ws)) z
      (spread_lists (λ a. a.reads) (λ i port'. at_port port' (ws i)) p.ops 0 (λ n. []) (λ n. let w = v.read_once n in omega (arith, w)) o op g)) port q at

  unread : (q : Name) → total (reads_it q) p.ops ≡ 0 → state.taken q ≡ []
  unread q z = spread_out (λ a. a.reads) (λ i port. at_port port (ws i)) p.ops 0 (λ n. []) q z

  -- as many items were taken as were received
  took_many : (o : ℕ) (op : OpForm) → slice_get p.ops o ≡ Some op → (port : ℕ) (q : Name) → slice_get op.reads port ≡ Some q
      → length (list_at (ts o).received port) ≡ length (state.taken q)
  took_many o op g port q at =
      let a = ap length (received_is o op g port ∙ (good_at o op g).stands.items port) in
      let b = at-length (kinds_in p op) port [] (at_port port (ws o)) in
      let c = ap length (taken_is o op g port q at) in
      omega (arith, a, b, c)

  -- how many were sent to a queue
  sent_many : (o : ℕ) (op : OpForm) → slice_get p.ops o ≡ Some op → (j : ℕ) (q : Name) → slice_get op.writes j ≡ Some q
      → length (state.taken q) + length (left q) ≡ length (list_at (ts o).sent j)
  sent_many o op g j q at = ⊎_elim
      (λ lt.
      let r = reader_of p.ops q lt in
      let i = place_of r.1.reads q r.3 in
      let a = took_many r.0 r.1 r.2 i.0 q i.1 in
      let b = ap length (beside.inner r.0 o r.1 op i.0 j q r.2 i.1 g at) in
      let c = length-append (list_at (ts r.0).received i.0) (left q) in
      omega (arith, a, b, c))
      (λ z. let a = ap length (unread q z) in let b = ap length (beside.output o op j q g at z) in omega (arith, a, b))
      (more_or_zero (total (reads_it q) p.ops))

  given_many : (q : Name) → total (writes_it q) p.ops ≡ 0 → length (state.taken q) + length (left q) ≡ length (hist_by p inputs ws q)
  given_many q zw = ⊎_elim
      (λ lt.
      let r = reader_of p.ops q lt in
      let i = place_of r.1.reads q r.3 in
      let a = took_many r.0 r.1 r.2 i.0 q i.1 in
      let b = ap length (beside.input r.0 r.1 i.0 q r.2 i.1 zw) in
      let c = length-append (list_at (ts r.0).received i.0) (left q) in
      let d = ap length (unwritten_by p inputs ws q zw) in
      omega (arith, a, b, c, d))
      (λ z. let a = ap length (unread q z) in let b = ap length (beside.unused q z zw) in let d =
      ap length (unwritten_by p inputs ws q zw) in omega (arith, a, b, d))
      (more_or_zero (total (reads_it q) p.ops))

  -- and how many were given to it
  gave_many : (o : ℕ) (op : OpForm) → slice_get p.ops o ≡ Some op → (j : ℕ) (q : Name) → slice_get op.writes j ≡ Some q
      → length (list_at (ts o).sent j) + length (list_at (ts o).pending j) ≡ length (hist_by p inputs ws q)
  gave_many o op g j q at =
      let a = ap length (gave_is ws o op g (good_at o op g) j q at) in
      let b = length-append (list_at (ts o).sent j) (list_at (ts o).pending j) in
      let c = length-held (kind q) [] (hist_by p inputs ws q) in
      omega (arith, a, b, c)

  enough : (q : Name) → length (state.taken q) + length (left q) ≤ length (hist_by p inputs ws q)
  enough q = ⊎_elim
      (λ lt.
      let w = writer_of p.ops q lt in
      let j = place_of w.1.writes q w.3 in
      let a = sent_many w.0 w.1 w.2 j.0 q j.1 in
      let b = gave_many w.0 w.1 w.2 j.0 q j.1 in
      omega (arith, a, b))
      (λ z. let a = given_many q z in omega (arith, a))
      (more_or_zero (total (writes_it q) p.ops))

  taken_front : (q : Name) → IsFront (state.taken q) (hist_by p inputs ws q)
  taken_front q = ⊎_elim
      (λ lt.
      let r = reader_of p.ops q lt in
      let i = place_of r.1.reads q r.3 in
      let f = (good_at r.0 r.1 r.2).fronts i.0 q i.1 in
      (f.0, ap (λ l. l ++ f.0) (taken_is r.0 r.1 r.2 i.0 q i.1) ∙ f.1))
      (λ z. (hist_by p inputs ws q, ap (λ l. l ++ hist_by p inputs ws q) (unread q z)))
      (more_or_zero (total (reads_it q) p.ops))

  sent_is : (q : Name) → sent state q ≡ take (length (state.taken q) + length (left q)) (hist_by p inputs ws q)
  sent_is q =
      let h = hist_by p inputs ws q in
      let n = length (taken_by p ws q) in
      let m = n + length (left q) in
      cut (taken_by p ws q) h m (taken_front q) (omega arith)
    where
      cut : (xs h : List item.Item) (m : ℕ) → IsFront xs h → length xs ≤ m → xs ++ drop (length xs) (take m h) ≡ take m h
      cut xs h m f le =
          let n = length xs in
          let a : take n (take m h) ≡ xs = take-take n m h le ∙ ap (take n) (sym f.1) ∙ take_at xs f.0 n refl in
          ap (λ l. l ++ drop n (take m h)) (sym a) ∙ take-append-drop n (take m h)

  histories : (q : Name) → history state q ≡ hist_by p inputs ws q
  histories q = ap (λ l. l ++ state.pending q) (sent_is q) ∙ take-append-drop (length (taken_by p ws q) + length (left q)) (hist_by p inputs ws q)

  sent_length : (q : Name) → length (sent state q) ≡ length (state.taken q) + length (left q)
  sent_length q =
      let a = ap length (sent_is q) in
      let b = length-take (length (taken_by p ws q) + length (left q)) (hist_by p inputs ws q) in
      let c = enough q in
      omega (arith, a, b, c)

  lies : (q : Name) → length (left q) ≡ length (state.left q)
  lies q = let a = sent_length q in let b = length-append (state.taken q) (state.left q) in omega (arith, a, b)

  unwritten : (q : Name) → total (writes_it q) p.ops ≡ 0 → state.pending q ≡ []
  unwritten q z = drop_all (length (taken_by p ws q) + length (left q)) (hist_by p inputs ws q) (let a = given_many q z in omega (arith, a))

  pends : (o : ℕ) (op : OpForm) → slice_get p.ops o ≡ Some op → (j : ℕ) (q : Name) → slice_get op.writes j ≡ Some q
      → length (list_at (ts o).pending j) ≡ length (state.pending q)
  pends o op g j q at =
      let a = ap length (histories q) in
      let b = length-append (sent state q) (state.pending q) in
      let c = sent_length q in
      let d = gave_many o op g j q at in
      let e = sent_many o op g j q at in
      omega (arith, a, b, c, d, e)

  pub joined_net : Joins p inputs caps ts left is
  joined_net = record {
    words = ws;
    none_bad = none_bad;
    typed = λ o op g. (good_at o op g).types;
    held = λ o op g. (good_at o op g).stands;
    net = record {
      words = words_are;
      histories = histories;
      taken = taken_is;
      unread = unread;
      unwritten = unwritten;
      kept = λ o op g. ap (λ x. kept_by x (ws o)) g;
      rows = λ t test. refl;
      within = λ q lw lr. let a = beside.within q lw lr in let b = lies q in omega (arith, a, b);
    };
    taken = took_many;
    sends = λ o op g j q at. sym (sent_many o op g j q at) ∙ sym (sent_length q);
    pends = pends;
    lies = lies;
  }

-- tasks join: the law
pub join_law : TasksJoin
join_law p inputs caps adds ts left is v typed fired beside = joined_net p inputs caps adds ts left is v typed fired beside
