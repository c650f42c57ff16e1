-- One move of tasks is one move of the bounded states that they are.
use Rattle.std.proofs.Common.{ℤ, ◌≡◌, ℕ, zero, suc, ◌+◌, ◌<◌, Some, List, [], ◌∷◌, ◌++◌, length, take, refl, sym, ap, ◌∙◌, subst, arith, ⊎_elim}
use Rattle.std.proofs.Common.{inl, inr, append_assoc, length-append}
use Rattle.std.specs.Prelude.{◌⊎◌, count_by, slice_get}
use Rattle.std.proofs.lemmas.Bool.{cases_eq, cases_lt}
use Rattle.std.proofs.lemmas.List.{take_at}
use Rattle.std.proofs.lemmas.Option.{get_or_from_slice_get, slice_get_within, same_Some}
use Rattle.river_base.specs.Places.{list_at}
use Rattle.river_base.specs.declared.item.Item as item
use Rattle.river_base.proofs.Lists.{head_same, tail_same, there_is}
use Rattle.river_base.proofs.PlaceLemmas.{if_false, if_true}
use Rattle.river_plan.specs.Forms.{Name, OpForm, PlanForm, decl_names, table_names}
use Rattle.river_base.specs.Name.{name_eq}
use Rattle.river_plan.specs.Names.{count}
use Rattle.river_plan.specs.Uses.{total, writes_it, reads_it}
use Rattle.river_plan.specs.Valid.{IsPlan}
use Rattle.river_plan.proofs.NameLemmas.{cases_name, more_or_zero}
use Rattle.brooklet_model.specs.Bounded.{Bounded, Capacities, IsBusy, QueueHasRoom, Send, Take, after_sending, after_taking, sent}
use Rattle.brooklet_model.specs.Histories.{History, Lists, joined, tables_of}
use Rattle.brooklet_model.specs.Machine.{at_name}
use Rattle.brooklet_model.specs.Nets.{IsNet, and_took}
use Rattle.brooklet_model.specs.Received.{AreWords, IsFront, hist_by, rows_added}
use Rattle.brooklet_model.specs.Traced.{ran}
use Rattle.brooklet_model.specs.Words.{Word, at_port}
use Rattle.brooklet_model.proofs.BoundedMoves.{reader_of}
use Rattle.brooklet_model.proofs.NetsKept.{nets_law}
use Rattle.brooklet_model.proofs.Received.{by_words, unwritten_by, writer_before, writer_of}
use Rattle.brooklet_model.proofs.Solutions.{lists_one}
use Rattle.brooklet_model.proofs.Swaps.{at_port_here, at_port_past}
use Rattle.brooklet_model.proofs.Traces.{at_key_other, at_key_same, at_most, got_count}
use Rattle.brooklet_model.specs.Typed.{AreInputs}
use Rattle.fire_tasks.specs.declared.task.Task.{Task}
use Rattle.fire_tasks.specs.Fired.{HasFired, SeenTask, ports_of}
use Rattle.fire_tasks.specs.Ports.{known_of}
use Rattle.fire_tasks.specs.Tasks.{HasWord, IsDone, seen_task}
use Rattle.fire_tasks.specs.Joins.{Joins, bounded}
use Rattle.fire_tasks.specs.Layout.{AreLaid, AreSettled, AreTasks, left_in, seen_at}
use Rattle.fire_tasks.specs.Steps.{IsMove, IsQuiet, MovesJoin, SameState, SeenSend, SeenTake}
use Rattle.fire_tasks.proofs.HeldWords.{nothing_beyond}
use Rattle.fire_tasks.proofs.Joining.{join_law, place_of}
use Rattle.fire_tasks.proofs.NetLemmas.{beside, inlet_of, left_read, seen_here, task_of}

-- LISTS

-- two fronts of one list that are as long are the same
fronts_same : {A : Type 0} (xs ys zs : List A) → IsFront xs zs → IsFront ys zs → length xs ≡ length ys → xs ≡ ys
fronts_same xs ys zs a b l =
    sym (take_at xs a.0 (length xs) refl) ∙ ap (take (length xs)) (a.1 ∙ sym b.1) ∙ take_at ys b.0 (length xs) (sym l)

-- a list that is not empty has a first element
some_first : {A : Type 0} (xs : List A) → 0 < length xs → (x : A) × (rest : List A) × (xs ≡ x ∷ rest)
some_first [] lt = absurd (omega (arith, lt))
some_first (x ∷ xs) lt = (x, xs, refl)

no_length : {A : Type 0} (xs : List A) → length xs ≡ 0 → xs ≡ []
no_length [] e = refl
no_length (x ∷ xs) e = absurd (omega (arith, e))

-- WORDS BY THEIR PORTS

-- the ports of two words are those of the one that they make
pub ports-append : (u v : Word) → ports_of (u ++ v) ≡ ports_of u ++ ports_of v
ports-append [] v = refl
ports-append (e ∷ u) v = ap (λ ps. e.0 ∷ ps) (ports-append u v)

-- words with the same ports have as many items at each
as_many_at : (port : ℕ) (w u : Word) → ports_of w ≡ ports_of u → length (at_port port w) ≡ length (at_port port u)
as_many_at port [] [] e = refl
as_many_at port [] (y ∷ u) e = absurd (cc e)
as_many_at port (x ∷ w) [] e = absurd (cc e)
as_many_at port (x ∷ w) (y ∷ u) e =
    let h : x.0 ≡ y.0 = head_same x.0 y.0 (ports_of w) (ports_of u) e in
    let r = as_many_at port w u (tail_same x.0 y.0 (ports_of w) (ports_of u) e) in
    ⊎_elim
    (λ q. ap length (at_port_here port x w q) ∙ ap suc r ∙ sym (ap length (at_port_here port y u (sym h ∙ q))))
    (λ n. ap length (at_port_past port x w n) ∙ r ∙ sym (ap length (at_port_past port y u (λ q. n (h ∙ q)))))
    (cases_eq x.0 port)

-- words with the same ports and the same items at each are the same
same_word : (w u : Word) → ports_of w ≡ ports_of u → ((port : ℕ) → at_port port w ≡ at_port port u) → w ≡ u
same_word [] [] e a = refl
same_word [] (y ∷ u) e a = absurd (cc e)
same_word (x ∷ w) [] e a = absurd (cc e)
same_word (x ∷ w) (y ∷ u) e a =
    let h : x.0 ≡ y.0 = head_same x.0 y.0 (ports_of w) (ports_of u) e in
    let here : x.1 ∷ at_port x.0 w ≡ y.1 ∷ at_port x.0 u = sym (at_port_here x.0 x w refl) ∙ a x.0 ∙ at_port_here x.0 y u (sym h) in
    let first = head_same x.1 y.1 (at_port x.0 w) (at_port x.0 u) here in
    let rest = same_word w u (tail_same x.0 y.0 (ports_of w) (ports_of u) e) (λ port. ⊎_elim
    (λ q. subst (λ n. at_port n w ≡ at_port n u) q (tail_same x.1 y.1 (at_port x.0 w) (at_port x.0 u) here))
    (λ n. sym (at_port_past port x w n) ∙ a port ∙ at_port_past port y u (λ q. n (h ∙ q)))
    (cases_eq x.0 port)) in
    ap (λ n. (n, x.1) ∷ w) h ∙ ap (λ i. (y.0, i) ∷ w) first ∙ ap (λ l. y ∷ l) rest

-- WHAT OPERATORS RECEIVED IS TOLD BY THEIR PORTS

module _ (p : PlanForm) (inputs : List (List item.Item)) (v : IsPlan p) (ws us : ℕ → Word) (a : AreWords p inputs ws) (b : AreWords p inputs us)
    (ports : (o : ℕ) (op : OpForm) → slice_get p.ops o ≡ Some op → ports_of (ws o) ≡ ports_of (us o)) where
  -- the histories where an operator reads, where those before it have the same words
  hist_same : (n : ℕ) (op : OpForm) → slice_get p.ops n ≡ Some op → ((i : ℕ) (o : OpForm) → i < n → slice_get p.ops i ≡ Some o → ws i ≡ us i) → (q : Name)
      → 0 < count q op.reads → hist_by p inputs ws q ≡ hist_by p inputs us q
  hist_same n op g same q lt = ⊎_elim
      (λ k.
      let z : total (writes_it q) p.ops ≡ 0 = (let w = v.written_once q in omega (arith, k, w)) in
      unwritten_by p inputs ws q z ∙ sym (unwritten_by p inputs us q z))
      (λ w. lists_one w.1.writes (ran w.1 (ws w.0)).outs (hist_by p inputs ws) (hist_by p inputs us) (by_words p inputs ws v w.0 w.1 w.3)
      (subst (λ y. Lists w.1.writes (ran w.1 y).outs (hist_by p inputs us)) (sym (same w.0 w.1 w.2 w.3)) (by_words p inputs us v w.0 w.1 w.3)) q w.4)
      (writer_before p.ops (λ n. count n (decl_names p.inputs)) n op q g lt v.in_order)

  same_here : (n : ℕ) (op : OpForm) → slice_get p.ops n ≡ Some op → ((i : ℕ) (o : OpForm) → i < n → slice_get p.ops i ≡ Some o → ws i ≡ us i) → ws n ≡ us n
  same_here n op g same = same_word (ws n) (us n) (ports n op g) (λ port. ⊎_elim
      (λ lt.
      let q = there_is op.reads port lt in
      let h = hist_same n op g same q.0 (got_count op.reads port q.0 q.1) in
      fronts_same (at_port port (ws n)) (at_port port (us n)) (hist_by p inputs us q.0)
      (subst (IsFront (at_port port (ws n))) h (a.fronts n op g port q.0 q.1)) (b.fronts n op g port q.0 q.1)
      (as_many_at port (ws n) (us n) (ports n op g)))
      (λ ge. nothing_beyond (length op.reads) (ws n) port (a.below n op g) ge ∙ sym (nothing_beyond (length op.reads) (us n) port (b.below n op g) ge))
      (cases_lt port (length op.reads)))

  same_below : (n o : ℕ) (op : OpForm) → o < n → slice_get p.ops o ≡ Some op → ws o ≡ us o
  same_below zero o op lt g = absurd (omega (arith, lt))
  same_below (suc n) o op lt g = same_here o op g (λ i c l h. same_below n i c (omega (arith, lt, l)) h)

  -- words with the same ports are the same
  pub same_words : (o : ℕ) (op : OpForm) → slice_get p.ops o ≡ Some op → ws o ≡ us o
  same_words o op g = same_below (suc o) o op (omega arith) g

-- so are the histories of all queues
hist_all : (p : PlanForm) (inputs : List (List item.Item)) (ws us : ℕ → Word) → IsPlan p → ((o : ℕ) (op : OpForm) → slice_get p.ops o ≡ Some op → ws o ≡ us o)
    → (q : Name) → hist_by p inputs ws q ≡ hist_by p inputs us q
hist_all p inputs ws us v e q = ⊎_elim
    (λ lt. let w = writer_of p.ops q lt in
    lists_one w.1.writes (ran w.1 (ws w.0)).outs (hist_by p inputs ws) (hist_by p inputs us) (by_words p inputs ws v w.0 w.1 w.2)
    (subst (λ y. Lists w.1.writes (ran w.1 y).outs (hist_by p inputs us)) (sym (e w.0 w.1 w.2)) (by_words p inputs us v w.0 w.1 w.2)) q w.3)
    (λ z. unwritten_by p inputs ws q z ∙ sym (unwritten_by p inputs us q z))
    (more_or_zero (total (writes_it q) p.ops))

-- and the rows that came to the tables
rows_all : (tables : List Name) (ops : List OpForm) (n : ℕ) (ws us : ℕ → Word) (t : Name)
    → ((o : ℕ) (op : OpForm) → slice_get ops o ≡ Some op → ws (n + o) ≡ us (n + o)) → rows_added tables n ops ws t ≡ rows_added tables n ops us t
rows_all tables [] n ws us t e = refl
rows_all tables (op ∷ ops) n ws us t e =
    let z : n + 0 ≡ n = omega arith in
    ap (λ w. joined (tables_of tables op) (ran op w).adds t ++ rows_added tables (suc n) ops ws t) (subst (λ k. ws k ≡ us k) z (e 0 op refl))
    ∙ ap (λ l. joined (tables_of tables op) (ran op (us n)).adds t ++ l) (rows_all tables ops (suc n) ws us t
    (λ o a g. let y : n + suc o ≡ suc n + o = omega arith in subst (λ k. ws k ≡ us k) y (e (suc o) a g)))

-- BOUNDED STATES OF ONE HISTORY

-- a list that was cut in three places, of which the first parts are as long, is cut alike
cut_same : {A : Type 0} (t l r t' l' r' : List A) → (t ++ l) ++ r ≡ (t' ++ l') ++ r' → t ≡ t' → length l ≡ length l' → (l ≡ l') × (r ≡ r')
cut_same t l r t' l' r' e et el =
    let h : t ++ (l ++ r) ≡ t ++ (l' ++ r') = sym (append_assoc t l r) ∙ e ∙ append_assoc t' l' r' ∙ ap (λ x. x ++ (l' ++ r')) (sym et) in
    let k = without_front t (l ++ r) (l' ++ r') h in
    let m = fronts_same l l' (l' ++ r') (r, k) (r', refl) el in
    (m, without_front l' r r' (ap (λ x. x ++ r) (sym m) ∙ k))
  where
    without_front : {A : Type 0} (x a b : List A) → x ++ a ≡ x ++ b → a ≡ b
    without_front [] a b e = e
    without_front (y ∷ x) a b e = without_front x a b (tail_same y y (x ++ a) (x ++ b) e)

-- nets of the same words, with as many items in each queue, are the same state
same_state : (p : PlanForm) (inputs : List (List item.Item)) (caps : Capacities) (ws us : ℕ → Word) (b c : Bounded) → IsPlan p → IsNet p inputs caps ws b
    → IsNet p inputs caps us c → ((o : ℕ) (op : OpForm) → slice_get p.ops o ≡ Some op → ws o ≡ us o) → ((q : Name) → length (b.left q) ≡ length (c.left q))
    → SameState p b c
same_state p inputs caps ws us b c v m n e l = record {
  taken = took;
  left = λ q. (parts q).0;
  pending = λ q. (parts q).1;
  kept = λ o op g. m.kept o op g ∙ ap (λ w. (ran op w).states) (e o op g) ∙ sym (n.kept o op g);
  rows = λ t test. m.rows t test
      ∙ ap (count_by test) (rows_all (table_names p.tables) p.ops 0 ws us t (λ o op g. let z : o ≡ 0 + o = omega arith in subst (λ k. ws k ≡ us k) z (e o op g)))
      ∙ sym (n.rows t test);
}
  where
    took : (q : Name) → b.taken q ≡ c.taken q
    took q = ⊎_elim
        (λ lt. let r = reader_of p.ops q lt in
        let i = place_of r.1.reads q r.3 in
        m.taken r.0 r.1 r.2 i.0 q i.1 ∙ ap (at_port i.0) (e r.0 r.1 r.2) ∙ sym (n.taken r.0 r.1 r.2 i.0 q i.1))
        (λ z. m.unread q z ∙ sym (n.unread q z))
        (more_or_zero (total (reads_it q) p.ops))

    parts : (q : Name) → (b.left q ≡ c.left q) × (b.pending q ≡ c.pending q)
    parts q = cut_same (b.taken q) (b.left q) (b.pending q) (c.taken q) (c.left q) (c.pending q)
        (m.histories q ∙ hist_all p inputs ws us v e q ∙ sym (n.histories q)) (took q) (l q)

at_name_is : {A : Type 0} (q n : Name) (x : A) (f : Name → A)
    → ((q ≡ n) × (at_name q x f n ≡ x)) ⊎ ((q ≡ n → ⊥) × (at_name q x f n ≡ f n))
at_name_is q n x f = ⊎_elim
    (λ c. inl (c.0, if_true (name_eq q n) x (f n) c.1))
    (λ c. inr (c.0, if_false (name_eq q n) x (f n) c.1))
    (cases_name q n)

at_name_here : {A : Type 0} (q : Name) (x : A) (f : Name → A) → at_name q x f q ≡ x
at_name_here q x f = ⊎_elim (λ c. c.1) (λ c. absurd (c.0 refl)) (at_name_is q q x f)

module _ (p : PlanForm) (inputs : List (List item.Item)) (caps : Capacities) (ts ts' : ℕ → SeenTask) (left left' : History) (is is' : ℕ → Word) (v : IsPlan p)
    (j : Joins p inputs caps ts left is) (k : Joins p inputs caps ts' left' is') where
  abbrev b : Bounded
  b = bounded p inputs left j.words

  abbrev c : Bounded
  c = bounded p inputs left' k.words

  -- HOW MANY ITEMS THERE ARE

  took_more : (q : Name) (d : ℕ) → ((o i : ℕ) (op : OpForm) → slice_get p.ops o ≡ Some op → slice_get op.reads i ≡ Some q
      → length (list_at (ts' o).received i) ≡ length (list_at (ts o).received i) + d) → (total (reads_it q) p.ops ≡ 0 → d ≡ 0)
      → length (c.taken q) ≡ length (b.taken q) + d
  took_more q d e none = ⊎_elim
      (λ lt.
      let r = reader_of p.ops q lt in
      let i = place_of r.1.reads q r.3 in
      let x = j.taken r.0 r.1 r.2 i.0 q i.1 in
      let y = k.taken r.0 r.1 r.2 i.0 q i.1 in
      let z = e r.0 i.0 r.1 r.2 i.1 in
      omega (arith, x, y, z))
      (λ z. let x = ap length (j.net.unread q z) in let y = ap length (k.net.unread q z) in let n = none z in omega (arith, x, y, n))
      (more_or_zero (total (reads_it q) p.ops))

  sent_more : (q : Name) (d : ℕ) → ((o i : ℕ) (op : OpForm) → slice_get p.ops o ≡ Some op → slice_get op.writes i ≡ Some q
      → length (list_at (ts' o).sent i) ≡ length (list_at (ts o).sent i) + d) → (total (writes_it q) p.ops ≡ 0 → d ≡ 0)
      → length (sent c q) ≡ length (sent b q) + d
  sent_more q d e none = ⊎_elim
      (λ lt.
      let w = writer_of p.ops q lt in
      let i = place_of w.1.writes q w.3 in
      let x = j.sends w.0 w.1 w.2 i.0 q i.1 in
      let y = k.sends w.0 w.1 w.2 i.0 q i.1 in
      let z = e w.0 i.0 w.1 w.2 i.1 in
      omega (arith, x, y, z))
      (λ z.
      let x = length-append (sent b q) (b.pending q) in
      let y = length-append (sent c q) (c.pending q) in
      let x0 = ap length (j.net.unwritten q z) in
      let y0 = ap length (k.net.unwritten q z) in
      let x1 = ap length (j.net.histories q ∙ unwritten_by p inputs j.words q z) in
      let y1 = ap length (k.net.histories q ∙ unwritten_by p inputs k.words q z) in
      let n = none z in
      omega (arith, x, y, x0, y0, x1, y1, n))
      (more_or_zero (total (writes_it q) p.ops))

  lefts : (q : Name) (d e : ℕ) → length (c.taken q) ≡ length (b.taken q) + d → length (sent c q) ≡ length (sent b q) + e
      → length (c.left q) + d ≡ length (b.left q) + e
  lefts q d e t s =
      let x = length-append (b.taken q) (b.left q) in
      let y = length-append (c.taken q) (c.left q) in
      omega (arith, x, y, t, s)

  module _ (at port : ℕ) (op : OpForm) (g : slice_get p.ops at ≡ Some op)
      (quiet : (o : ℕ) (other : OpForm) → slice_get p.ops o ≡ Some other → at < o → IsQuiet ts left o other) where
    -- no operator behind is busy
    behind : (o : ℕ) (other : OpForm) → slice_get p.ops o ≡ Some other → at < o → IsBusy b other → ⊥
    behind o other h lt busy = ⊎_elim
        (λ i.
        let x = j.pends o other h i.0 i.1 i.2 in
        let y = ap length ((quiet o other h lt).pending i.0) in
        let z = i.3 in
        omega (arith, x, y, z))
        (λ i.
        let x = j.lies i.1 in
        let y = ap length ((quiet o other h lt).lies i.0 i.1 i.2) in
        let z = i.3 in
        omega (arith, x, y, z))
        busy

    -- one port of one operator alone has this queue
    other_port : (names : OpForm → List Name) (q n : Name) (o i : ℕ) (a : OpForm) → slice_get (names op) port ≡ Some q → slice_get p.ops o ≡ Some a
        → slice_get (names a) i ≡ Some n → (q ≡ n → ⊥) → o ≡ at → i ≡ port → ⊥
    other_port names q n o i a hq ha hn ne eo ei =
        let e : a ≡ op = same_Some a op (sym ha ∙ ap (slice_get p.ops) eo ∙ g) in
        ne (sym (same_Some n q (sym hn ∙ ap (λ (x : OpForm). slice_get (names x) i) e ∙ ap (slice_get (names op)) ei ∙ hq)))

    -- A SEND

    module _ (s : SeenSend op at port ts ts' is is') where
      abbrev q : Name
      q = s.queue

      written : 0 < total (writes_it q) p.ops
      written = let m = at_most (writes_it q) p.ops at op g in let c0 = got_count op.writes port q s.queue_is in omega (arith, m, c0)

      left_here : length (c.left q) ≡ length (b.left q) + 1
      left_here =
          let x = j.sends at op g port q s.queue_is in
          let y = k.sends at op g port q s.queue_is in
          let h = s.here in
          let z : length (sent c q) ≡ length (sent b q) + 1 = omega (arith, x, y, h) in
          let t = took_more q 0 (λ o i a ga gi. let r = s.received o i in omega (arith, r)) (λ z0. refl) in
          let l = lefts q 0 1 t z in
          omega (arith, l)

      left_else : (n : Name) → (q ≡ n → ⊥) → length (c.left n) ≡ length (b.left n)
      left_else n ne =
          let z = sent_more n 0 (λ o i a ga gi. let r = s.else o i (other_port (λ (x : OpForm). x.writes) q n o i a s.queue_is ga gi ne) in omega (arith, r)) (λ z0. refl) in
          let t = took_more n 0 (λ o i a ga gi. let r = s.received o i in omega (arith, r)) (λ z0. refl) in
          let l = lefts n 0 0 t z in
          omega (arith, l)

      many : 0 < length (b.pending q)
      many = let x = j.pends at op g port q s.queue_is in let y = s.some in omega (arith, x, y)

      first : (x : item.Item) × (rest : List item.Item) × (b.pending q ≡ x ∷ rest)
      first = some_first (b.pending q) many

      room : QueueHasRoom p caps b q
      room = ⊎_elim
          (λ lr. let w = k.net.within q written lr in let l = left_here in inr (omega (arith, w, l)))
          (λ z. inl z)
          (more_or_zero (total (reads_it q) p.ops))

      abbrev next : Bounded
      next = after_sending q first.0 first.1 b

      sends : Send p caps b at port next
      sends = record {
        op = op;
        queue = q;
        rest = first.1;
        item = first.0;
        op_is = g;
        queue_is = s.queue_is;
        item_is = first.2;
        room = room;
        after = refl;
      }

      net_next : IsNet p inputs caps j.words next
      net_next = (nets_law p inputs caps v).sends j.words b next at port sends j.net

      sent_move : IsMove p caps b c
      sent_move = record {
        moves = record {
          at = at;
          op = op;
          op_is = g;
          busy = inl (port, q, s.queue_is, many);
          last = behind;
          port = port;
          after = next;
          move = inl sends;
        };
        same = same_state p inputs caps j.words k.words next c v net_next k.net
            (same_words p inputs v j.words k.words net_next.words k.net.words
            (λ o a ga. (j.held o a ga).ports ∙ sym (s.words o) ∙ sym (k.held o a ga).ports))
            (λ n. ⊎_elim
            (λ h.
            let y = length-append (b.left q) (first.0 ∷ []) in
            let z = left_here in
            subst (λ m. length (next.left m) ≡ length (c.left m)) h.0 (let w = ap length (at_name_here q (b.left q ++ first.0 ∷ []) b.left) in omega (arith, w, y, z)))
            (λ h. ap length h.1 ∙ sym (left_else n h.0))
            (at_name_is q n (b.left q ++ first.0 ∷ []) b.left));
      }

    -- A TAKE

    module _ (t : SeenTake op at port ts ts' is is') where
      abbrev from : Name
      from = t.queue

      sent_as : (n : Name) → length (sent c n) ≡ length (sent b n) + 0
      sent_as n = sent_more n 0 (λ o i a ga gi. let r = t.sent o i in omega (arith, r)) (λ z0. refl)

      fewer_here : length (c.left from) + 1 ≡ length (b.left from)
      fewer_here =
          let x = j.taken at op g port from t.queue_is in
          let y = k.taken at op g port from t.queue_is in
          let h = t.here in
          let z : length (c.taken from) ≡ length (b.taken from) + 1 = omega (arith, x, y, h) in
          let l = lefts from 1 0 z (sent_as from) in
          omega (arith, l)

      fewer_else : (n : Name) → (from ≡ n → ⊥) → length (c.left n) ≡ length (b.left n)
      fewer_else n ne =
          let z = took_more n 0 (λ o i a ga gi. let r = t.else o i (other_port (λ (x : OpForm). x.reads) from n o i a t.queue_is ga gi ne) in omega (arith, r)) (λ z0. refl) in
          let l = lefts n 0 0 z (sent_as n) in
          omega (arith, l)

      lies_some : 0 < length (b.left from)
      lies_some = let l = fewer_here in omega (arith, l)

      front : (x : item.Item) × (rest : List item.Item) × (b.left from ≡ x ∷ rest)
      front = some_first (b.left from) lies_some

      abbrev taken_next : Bounded
      taken_next = after_taking (table_names p.tables) at op port from front.0 front.1 b

      takes : Take p b at port taken_next
      takes = record {
        op = op;
        queue = from;
        rest = front.1;
        item = front.0;
        op_is = g;
        queue_is = t.queue_is;
        idle = λ n lt. let i = place_of op.writes n lt in no_length (b.pending n) (sym (j.pends at op g i.0 n i.1) ∙ ap length (t.idle i.0));
        item_is = front.2;
        after = refl;
      }

      abbrev words_taken : ℕ → Word
      words_taken = and_took at port front.0 j.words

      net_taken : IsNet p inputs caps words_taken taken_next
      unfolding takes
      net_taken = (nets_law p inputs caps v).takes j.words b taken_next at port takes j.net

      -- the words behind it have these ports
      ports_taken : (o : ℕ) (a : OpForm) → slice_get p.ops o ≡ Some a → ports_of (words_taken o) ≡ ports_of (k.words o)
      ports_taken o a ga = ⊎_elim
          (λ h. subst (λ n. ports_of (words_taken n) ≡ ports_of (k.words n)) h
          (ap ports_of (at_key_same at (j.words at ++ (port, front.0) ∷ []) j.words) ∙ ports-append (j.words at) ((port, front.0) ∷ [])
          ∙ ap (λ l. l ++ port ∷ []) (j.held at op g).ports ∙ sym t.word ∙ sym (k.held at op g).ports))
          (λ ne. ap ports_of (at_key_other at (j.words at ++ (port, front.0) ∷ []) j.words o ne) ∙ (j.held o a ga).ports ∙ sym (t.others o (λ h. ne (sym h)))
          ∙ sym (k.held o a ga).ports)
          (cases_eq at o)

      took_move : IsMove p caps b c
      took_move = record {
        moves = record {
          at = at;
          op = op;
          op_is = g;
          busy = inr (port, from, t.queue_is, lies_some);
          last = behind;
          port = port;
          after = taken_next;
          move = inr takes;
        };
        same = same_state p inputs caps words_taken k.words taken_next c v net_taken k.net
            (same_words p inputs v words_taken k.words net_taken.words k.net.words ports_taken)
            (λ n. ⊎_elim
            (λ h.
            let y = ap length front.2 in
            let z = fewer_here in
            subst (λ m. length (taken_next.left m) ≡ length (c.left m)) h.0 (let w = ap length (at_name_here from front.1 b.left) in omega (arith, w, y, z)))
            (λ h. ap length h.1 ∙ sym (fewer_else n h.0))
            (at_name_is from n front.1 b.left));
      }

-- moves join: the law
pub moves_law : MovesJoin
moves_law p inputs caps ts ts' left left' is is' v j k m = ⊎_elim
    (λ s. sent_move p inputs caps ts ts' left left' is is' v j k m.at m.port m.op m.op_is m.last s)
    (λ t. took_move p inputs caps ts ts' left left' is is' v j k m.at m.port m.op m.op_is m.last t)
    m.did

-- NETS WHOSE WORDS ARE TOLD

-- settled tasks that fired on these words join by them
pub joins_with : (p : PlanForm) (inputs : List (List item.Item)) (caps : Capacities) (adds adds' : ℕ → ℕ → List (List ℤ)) (ts : List Task) (is : ℕ → Word)
    → IsPlan p → AreLaid p inputs caps ts → AreTasks p adds ts → AreSettled p ts → AreInputs p.inputs inputs
    → ((o : ℕ) (t : Task) → slice_get ts o ≡ Some t → HasWord p (adds' o) t (is o)) → Joins p inputs caps (seen_at ts) (left_in p inputs ts) is
joins_with p inputs caps adds adds' ts is v laid tasks settled typed known =
    join_law p inputs caps adds' (seen_at ts) (left_in p inputs ts) is v typed
    (λ o op g.
    let t = task_of p inputs caps adds ts v laid tasks settled o op g in
    let h = known o t.0 t.1 in
    let e : h.task.op ≡ op = same_Some h.task.op op (sym h.task.op_is ∙ ap (slice_get p.ops) (laid.numbers o t.0 t.1) ∙ g) in
    subst (λ s. HasFired p op (adds' o) s (is o)) (sym (seen_here ts o t.0 t.1))
    (subst (λ w. HasFired p op (adds' o) (seen_task t.0) w) h.word
    (subst (λ (a : OpForm). HasFired p a (adds' o) (seen_task t.0) h.task.word) e h.task.fired)))
    (beside p inputs caps adds ts v laid tasks settled)

-- nothing lies at the ports of a task that received all that is known to be there, and nothing is pending
pub quiet_done : (p : PlanForm) (inputs : List (List item.Item)) (caps : Capacities) (adds : ℕ → ℕ → List (List ℤ)) (ts : List Task) → IsPlan p
    → AreLaid p inputs caps ts → AreTasks p adds ts → AreSettled p ts → (o : ℕ) (op : OpForm) (t : Task) → slice_get p.ops o ≡ Some op → slice_get ts o ≡ Some t
    → IsDone t → IsQuiet (seen_at ts) (left_in p inputs ts) o op
quiet_done p inputs caps adds ts v laid tasks settled o op t g gt d = record {
  pending = λ j. ap (λ (s : SeenTask). list_at s.pending j) (seen_here ts o t gt) ∙ d.idle j;
  lies = λ port q r.
      let i = inlet_of p inputs caps adds ts v laid tasks settled o port op q t g r gt in
      left_read p inputs caps adds ts v laid tasks settled o port op q t i.0 g r gt i.1
      ∙ ap known_of (sym (get_or_from_slice_get t.ins port i.0 i.0 i.1))
      ∙ d.received port i.0 (slice_get_within t.ins port i.0 i.1);
}
