-- Bounded states: some move is there, and moves are those of the machine.
use Rattle.std.proofs.Common.{◌≡◌, ℕ, zero, suc, ◌+◌, ◌<◌, Some, List, [], ◌∷◌, ◌++◌, length, refl, sym, ap, ◌∙◌, subst, arith, ⊎_elim, ◌⊎◌, inl, inr}
use Rattle.std.proofs.Common.{append_assoc, length-append}
use Rattle.std.specs.Prelude.{slice_get}
use Rattle.river_base.proofs.PlaceLemmas.{if_true, if_false}
use Rattle.river_base.specs.declared.item.Item as item
use Rattle.river_base.specs.Name.{name_eq}
use Rattle.river_plan.specs.Forms.{Name, OpForm, PlanForm, decl_names, table_names}
use Rattle.river_plan.specs.Names.{one_if, count}
use Rattle.river_plan.specs.Uses.{total, writes_it, reads_it}
use Rattle.river_plan.specs.Valid.{IsPlan}
use Rattle.river_plan.proofs.NameLemmas.{cases_name, more_or_zero}
use Rattle.brooklet_model.specs.Fire.{fire}
use Rattle.brooklet_model.specs.Histories.{History, joined}
use Rattle.brooklet_model.specs.Machine.{Machine, Step, fired, at_name}
use Rattle.brooklet_model.proofs.Lists.{funext}
use Rattle.brooklet_model.proofs.Traces.{at_most, one_place, got_count}
use Rattle.brooklet_model.specs.Bounded.{Bounded, Capacities, history, machine_of, QueueHasRoom, IsWithinCapacities, after_sending, after_taking}
use Rattle.brooklet_model.specs.Bounded.{Send, Take, Moves, HasIn, IsBusy, LastMoves}
use Rattle.brooklet_model.specs.NetLaws.{SomeMove, MovesAreSteps}
use Rattle.brooklet_model.proofs.Received.{got_mid, writer_before}

-- SOME MOVE

-- each of these queues is empty
abbrev pub AllNone : History → List Name → Type 0
AllNone f qs = (q : Name) → 0 < count q qs → f q ≡ []

-- a list has something in it, or is empty
pub empty_or : {A : Type 0} (xs : List A) → (0 < length xs) ⊎ (xs ≡ [])
empty_or [] = inr refl
empty_or (x ∷ xs) = inl (omega arith)

head_of : {A : Type 0} (xs : List A) → 0 < length xs → (x : A) × (rest : List A) × (xs ≡ x ∷ rest)
head_of [] lt = absurd (omega (arith, lt))
head_of (x ∷ xs) lt = (x, xs, refl)

-- one of these queues has something in it, or each is empty
pub some_in : (f : History) (qs : List Name) → HasIn f qs ⊎ AllNone f qs
some_in f [] = inr (λ q lt. absurd (omega (arith, lt)))
some_in f (w ∷ ws) = ⊎_elim
    (λ k. inl (0, w, refl, k))
    (λ e. ⊎_elim
    (λ r. inl (suc r.0, r.1, r.2, r.3))
    (λ n. inr (λ q lt. ⊎_elim (λ c. subst (λ m. f m ≡ []) c.0 e) (λ c. n q (let o = ap one_if c.1 in omega (arith, o, lt))) (cases_name w q)))
    (some_in f ws))
    (empty_or (f w))

-- an operator has no pending and no untaken item
record Quiet (b : Bounded) (op : OpForm) : Type 0 where
  pending : AllNone b.pending op.writes
  left : AllNone b.left op.reads

busy_or : (b : Bounded) (op : OpForm) → IsBusy b op ⊎ Quiet b op
busy_or b op = ⊎_elim
    (λ k. inl (inl k))
    (λ n. ⊎_elim (λ k. inl (inr k)) (λ m. inr (record { pending = n; left = m })) (some_in b.left op.reads))
    (some_in b.pending op.writes)

busy_quiet : (b : Bounded) (op : OpForm) → IsBusy b op → Quiet b op → ⊥
busy_quiet b op k n = ⊎_elim
    (λ i. let e = ap length (n.pending i.1 (got_count op.writes i.0 i.1 i.2)) in let l = i.3 in omega (arith, e, l))
    (λ i. let e = ap length (n.left i.1 (got_count op.reads i.0 i.1 i.2)) in let l = i.3 in omega (arith, e, l))
    k

-- the last operator that is busy
record LastBusy (b : Bounded) (ops : List OpForm) : Type 0 where
  at : ℕ
  op : OpForm
  op_is : slice_get ops at ≡ Some op
  busy : IsBusy b op
  later : (i : ℕ) (op' : OpForm) → slice_get ops i ≡ Some op' → at < i → Quiet b op'

last_busy : (b : Bounded) (ops : List OpForm) → LastBusy b ops ⊎ ((i : ℕ) (op : OpForm) → slice_get ops i ≡ Some op → Quiet b op)
last_busy b [] = inr (λ i op g. absurd (cc g))
last_busy b (a ∷ ops) = ⊎_elim
    (λ l. inl (record { at = suc l.at; op = l.op; op_is = l.op_is; busy = l.busy; later = λ i op' g lt. behind l i op' g lt }))
    (λ q. ⊎_elim
    (λ k. inl (record { at = 0; op = a; op_is = refl; busy = k; later = λ i op' g lt. first_behind q i op' g lt }))
    (λ n. inr (λ i op g. each q n i op g))
    (busy_or b a))
    (last_busy b ops)
  where
    behind : (l : LastBusy b ops) (i : ℕ) (op' : OpForm) → slice_get (a ∷ ops) i ≡ Some op' → suc l.at < i → Quiet b op'
    behind l zero op' g lt = absurd (omega (arith, lt))
    behind l (suc i) op' g lt = l.later i op' g (omega (arith, lt))

    first_behind : ((i : ℕ) (op : OpForm) → slice_get ops i ≡ Some op → Quiet b op) → (i : ℕ) (op' : OpForm) → slice_get (a ∷ ops) i ≡ Some op' → 0 < i
        → Quiet b op'
    first_behind q zero op' g lt = absurd (omega (arith, lt))
    first_behind q (suc i) op' g lt = q i op' g

    each : ((i : ℕ) (op : OpForm) → slice_get ops i ≡ Some op → Quiet b op) → Quiet b a → (i : ℕ) (op : OpForm) → slice_get (a ∷ ops) i ≡ Some op → Quiet b op
    each q n zero op g = let e : a ≡ op = cc g in subst (Quiet b) e n
    each q n (suc i) op g = q i op g

-- a queue that is read is read by an operator
pub reader_of : (ops : List OpForm) (q : Name) → 0 < total (reads_it q) ops → (o : ℕ) × (op : OpForm) × (slice_get ops o ≡ Some op) × (0 < count q op.reads)
reader_of [] q lt = absurd (omega (arith, lt))
reader_of (a ∷ ops) q lt = ⊎_elim
    (λ k. (0, a, refl, k))
    (λ z. let w = reader_of ops q (omega (arith, lt, z)) in (suc w.0, w.1, w.2, w.3))
    (more_or_zero (count q a.reads))

-- the reader of a queue stands behind its writer
pub reader_behind : (p : PlanForm) (v : IsPlan p) (o o' : ℕ) (op op' : OpForm) (q : Name) → slice_get p.ops o ≡ Some op → 0 < count q op.writes
    → slice_get p.ops o' ≡ Some op' → 0 < count q op'.reads → o < o'
reader_behind p v o o' op op' q g lt g' lt' =
    let w = v.written_once q in
    let m = at_most (writes_it q) p.ops o op g in
    ⊎_elim
    (λ k. absurd (omega (arith, w, m, lt, k)))
    (λ b. let e = one_place (writes_it q) p.ops b.0 o b.1 op (omega (arith, w)) b.3 g b.4 lt in let l = b.2 in omega (arith, e, l))
    (writer_before p.ops (λ n. count n (decl_names p.inputs)) o' op' q g' lt' v.in_order)

-- while an operator has a pending or an untaken item, the last such operator can move
pub some_move_law : SomeMove
some_move_law p caps b o op v lc g k = ⊎_elim
    (λ l. ⊎_elim (λ i. moves l (send l i)) (λ i. moves l (take l i)) l.busy)
    (λ q. absurd (busy_quiet b op k (q o op g)))
    (last_busy b p.ops)
  where
    room : (l : LastBusy b p.ops) (port : ℕ) (q : Name) → slice_get l.op.writes port ≡ Some q → QueueHasRoom p caps b q
    room l port q is = ⊎_elim
        (λ lt. let r = reader_of p.ops q lt in
        let lt1 = reader_behind p v l.at r.0 l.op r.1 q l.op_is (got_count l.op.writes port q is) r.2 r.3 in
        let e = ap length ((l.later r.0 r.1 r.2 lt1).left q r.3) in
        let c = lc q in
        inr (omega (arith, e, c)))
        (λ z. inl z)
        (more_or_zero (total (reads_it q) p.ops))

    send : (l : LastBusy b p.ops) → HasIn b.pending l.op.writes → (port : ℕ) × (b' : Bounded) × Moves p caps b l.at port b'
    send l i =
        let h = head_of (b.pending i.1) i.3 in (
          i.0,
          after_sending i.1 h.0 h.1 b,
          inl (record {
            op = l.op;
            queue = i.1;
            item = h.0;
            rest = h.1;
            op_is = l.op_is;
            queue_is = i.2;
            item_is = h.2;
            room = room l i.0 i.1 i.2;
            after = refl;
          }),
        )

    take : (l : LastBusy b p.ops) → HasIn b.left l.op.reads → (port : ℕ) × (b' : Bounded) × Moves p caps b l.at port b'
    take l i = ⊎_elim
        (λ j. send l j)
        (λ n.
        let h = head_of (b.left i.1) i.3 in (
          i.0,
          after_taking (table_names p.tables) l.at l.op i.0 i.1 h.0 h.1 b,
          inr (record {
            op = l.op;
            queue = i.1;
            item = h.0;
            rest = h.1;
            op_is = l.op_is;
            queue_is = i.2;
            idle = n;
            item_is = h.2;
            after = refl;
          }),
        ))
        (some_in b.pending l.op.writes)

    moves : (l : LastBusy b p.ops) → (port : ℕ) × (b' : Bounded) × Moves p caps b l.at port b' → LastMoves p caps b
    moves l m = record {
      at = l.at;
      op = l.op;
      op_is = l.op_is;
      busy = l.busy;
      last = λ i other is lt busy. busy_quiet b other busy (l.later i other is lt);
      port = m.0;
      after = m.1;
      move = m.2;
    }

-- MOVES ARE STEPS

-- a send changes no history
pub passed_history : (q : Name) (x : item.Item) (rest : List item.Item) (b : Bounded) → b.pending q ≡ x ∷ rest → (n : Name)
    → history (after_sending q x rest b) n ≡ history b n
passed_history q x rest b e n = ⊎_elim
    (λ c.
    ap (λ l. (b.taken n ++ l) ++ at_name q rest b.pending n) (if_true (name_eq q n) (b.left q ++ x ∷ []) (b.left n) c.1)
    ∙ ap (λ l. (b.taken n ++ (b.left q ++ x ∷ [])) ++ l) (if_true (name_eq q n) rest (b.pending n) c.1)
    ∙ ap (λ m. (b.taken n ++ (b.left m ++ x ∷ [])) ++ rest) c.0
    ∙ append_assoc (b.taken n) (b.left n ++ x ∷ []) rest ∙ ap (λ l. b.taken n ++ l) (append_assoc (b.left n) (x ∷ []) rest)
    ∙ sym (append_assoc (b.taken n) (b.left n) (x ∷ rest))
    ∙ ap (λ l. (b.taken n ++ b.left n) ++ l) (sym e ∙ ap b.pending c.0))
    (λ c.
    ap (λ l. (b.taken n ++ l) ++ at_name q rest b.pending n) (if_false (name_eq q n) (b.left q ++ x ∷ []) (b.left n) c.1)
    ∙ ap (λ l. (b.taken n ++ b.left n) ++ l) (if_false (name_eq q n) rest (b.pending n) c.1))
    (cases_name q n)

-- a take changes nothing of what was sent
pub took_sent : (q : Name) (x : item.Item) (rest : List item.Item) (b : Bounded) → b.left q ≡ x ∷ rest → (n : Name)
    → at_name q (b.taken q ++ x ∷ []) b.taken n ++ at_name q rest b.left n ≡ b.taken n ++ b.left n
took_sent q x rest b e n = ⊎_elim
    (λ c.
    ap (λ l. l ++ at_name q rest b.left n) (if_true (name_eq q n) (b.taken q ++ x ∷ []) (b.taken n) c.1)
    ∙ ap (λ l. (b.taken q ++ x ∷ []) ++ l) (if_true (name_eq q n) rest (b.left n) c.1)
    ∙ append_assoc (b.taken q) (x ∷ []) rest ∙ ap (λ l. b.taken q ++ l) (sym e) ∙ ap (λ m. b.taken m ++ b.left m) c.0)
    (λ c.
    ap (λ l. l ++ at_name q rest b.left n) (if_false (name_eq q n) (b.taken q ++ x ∷ []) (b.taken n) c.1)
    ∙ ap (λ l. b.taken n ++ l) (if_false (name_eq q n) rest (b.left n) c.1))
    (cases_name q n)

took_taken : (q : Name) (x : item.Item) (b : Bounded) (n : Name)
    → length (at_name q (b.taken q ++ x ∷ []) b.taken n) ≡ at_name q (length (b.taken q) + 1) (λ m. length (b.taken m)) n
took_taken q x b n = ⊎_elim
    (λ c. let a = ap length (if_true (name_eq q n) (b.taken q ++ x ∷ []) (b.taken n) c.1) in let d = length-append (b.taken q) (x ∷ []) in
    let f = if_true (name_eq q n) (length (b.taken q) + 1) (length (b.taken n)) c.1 in omega (arith, a, d, f))
    (λ c. ap length (if_false (name_eq q n) (b.taken q ++ x ∷ []) (b.taken n) c.1)
    ∙ sym (if_false (name_eq q n) (length (b.taken q) + 1) (length (b.taken n)) c.1))
    (cases_name q n)

-- a machine with equal histories and numbers taken is the same
with_parts : (s : Machine) (hist : History) (taken : Name → ℕ) → hist ≡ s.hist → taken ≡ s.taken
    → record { hist = hist; taken = taken; kept = s.kept; rows = s.rows } ≡ s
with_parts s hist taken a b = λ i. record { hist = a i; taken = b i; kept = s.kept; rows = s.rows }

module _ (p : PlanForm) (caps : Capacities) where
  pub sends_same : (b b' : Bounded) (o port : ℕ) → Send p caps b o port b' → machine_of b' ≡ machine_of b
  sends_same b b' o port m =
      let same = funext (history (after_sending m.queue m.item m.rest b)) (history b) (passed_history m.queue m.item m.rest b m.item_is) in
      ap machine_of m.after ∙ with_parts (machine_of b) (history (after_sending m.queue m.item m.rest b)) (λ n. length (b.taken n)) same refl

  pub takes_step : (b b' : Bounded) (o port : ℕ) → IsPlan p → Take p b o port b' → Step p (machine_of b) o port (machine_of b')
  takes_step b b' o port v m =
      let q = m.queue in
      let x = m.item in
      record {
        op = m.op;
        queue = q;
        item = x;
        op_is = m.op_is;
        queue_is = m.queue_is;
        item_is =
            ap (λ l. slice_get ((b.taken q ++ l) ++ b.pending q) (length (b.taken q))) m.item_is
            ∙ ap (λ l. slice_get l (length (b.taken q))) (append_assoc (b.taken q) (x ∷ m.rest) (b.pending q))
            ∙ got_mid (b.taken q) (m.rest ++ b.pending q) x (length (b.taken q)) refl;
        after = ap machine_of m.after ∙ with_parts (fired (table_names p.tables) o m.op port q x (machine_of b))
            (history (after_taking (table_names p.tables) o m.op port q x m.rest b))
            (λ n. length (at_name q (b.taken q ++ x ∷ []) b.taken n)) hist_is (funext (λ n. length (at_name q (b.taken q ++ x ∷ []) b.taken n))
            (at_name q (length (b.taken q) + 1) (λ n. length (b.taken n))) (took_taken q x b));
      }
    where
      hist_is : history (after_taking (table_names p.tables) o m.op port m.queue m.item m.rest b)
          ≡ (fired (table_names p.tables) o m.op port m.queue m.item (machine_of b)).hist
      hist_is = funext (history (after_taking (table_names p.tables) o m.op port m.queue m.item m.rest b))
          (fired (table_names p.tables) o m.op port m.queue m.item (machine_of b)).hist
          (λ n. let r = fire m.op.kernel port m.item (b.kept o) in
          ap (λ l. l ++ (b.pending n ++ joined m.op.writes r.outs n)) (took_sent m.queue m.item m.rest b m.item_is n)
          ∙ sym (append_assoc (b.taken n ++ b.left n) (b.pending n) (joined m.op.writes r.outs n)))

  -- sends keep the capacities
  pub sends_keep : (b b' : Bounded) (o port : ℕ) → Send p caps b o port b' → IsWithinCapacities p caps b → IsWithinCapacities p caps b'
  sends_keep b b' o port m w q lw lr =
      let e = ap (λ (c : Bounded). length (c.left q)) m.after in
      ⊎_elim
      (λ c.
      let a = ap length (if_true (name_eq m.queue q) (b.left m.queue ++ m.item ∷ []) (b.left q) c.1) in
      let l = length-append (b.left m.queue) (m.item ∷ []) in
      ⊎_elim
      (λ z. absurd (let y = ap (λ n. total (reads_it n) p.ops) c.0 in omega (arith, y, z, lr)))
      (λ lt. let y = ap caps c.0 in omega (arith, e, a, l, lt, y))
      m.room)
      (λ c. let a = ap length (if_false (name_eq m.queue q) (b.left m.queue ++ m.item ∷ []) (b.left q) c.1) in let old = w q lw lr in omega (arith, e, a, old))
      (cases_name m.queue q)

  -- and so do takes
  pub takes_keep : (b b' : Bounded) (o port : ℕ) → Take p b o port b' → IsWithinCapacities p caps b → IsWithinCapacities p caps b'
  takes_keep b b' o port m w q lw lr =
      let e = ap (λ (c : Bounded). length (c.left q)) m.after in
      let old = w q lw lr in
      ⊎_elim
      (λ c.
      let a = ap length (if_true (name_eq m.queue q) m.rest (b.left q) c.1) in
      let d = ap (λ n. length (b.left n)) c.0 in
      let i = ap length m.item_is in
      omega (arith, e, a, d, i, old))
      (λ c. let a = ap length (if_false (name_eq m.queue q) m.rest (b.left q) c.1) in omega (arith, e, a, old))
      (cases_name m.queue q)

-- bounded moves are moves of the machine
pub steps_law : MovesAreSteps
steps_law p caps = record { sends = sends_same p caps; takes = takes_step p caps; sends_within = sends_keep p caps; takes_within = takes_keep p caps }
