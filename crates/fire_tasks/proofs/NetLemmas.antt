-- Tasks whose rings are settled are a net.
use Rattle.std.proofs.Common.{ℤ, ◌≡◌, ℕ, zero, suc, ◌+◌, ◌<◌, ◌≤◌, Some, None, List, [], ◌∷◌, ◌++◌, length, refl, sym, ap, ◌∙◌, arith, subst, get_or}
use Rattle.std.specs.Prelude.{slice_get, min}
use Rattle.std.proofs.lemmas.List.{take-append-drop, append-nil}
use Rattle.std.proofs.lemmas.Option.{slice_get_within, same_Some}
use Rattle.river_base.proofs.Lists.{there_is}
use Rattle.river_base.specs.declared.item.Item as item
use Rattle.river_base.specs.Places.{list_at}
use Rattle.river_plan.specs.Forms.{Name, OpForm, PlanForm}
use Rattle.river_plan.specs.Uses.{total, reads_it}
use Rattle.river_plan.specs.Valid.{IsPlan}
use Rattle.brooklet_model.specs.Bounded.{Capacities}
use Rattle.brooklet_model.specs.Histories.{History, Lists, most_firings}
use Rattle.brooklet_model.specs.Laws.{given_to}
use Rattle.brooklet_model.specs.Typed.{AreInputs}
use Rattle.brooklet_model.specs.Words.{Word, at_port}
use Rattle.fire_tasks.specs.Fired.{SeenTask, HasFired, bad_at, ports_of}
use Rattle.fire_tasks.specs.Facts.{SettledIsNet}
use Rattle.fire_tasks.specs.Joins.{Joins, AreBeside, lists_by_name}
use Rattle.brooklet_model.proofs.BoundedMoves.{reader_of}
use Rattle.brooklet_model.proofs.Received.{writer_of}
use Rattle.fire_tasks.proofs.Joining.{join_law, lists_at, place_of, spread_out, spread_lists}
use Rattle.fire_tasks.specs.Inlet as inlet
use Rattle.fire_tasks.specs.Inlet.{TakesFrom, Given}
use Rattle.fire_tasks.specs.Outlet as outlet
use Rattle.fire_tasks.specs.Outlet.{SendsTo, Stored}
use Rattle.fire_tasks.specs.declared.task.Task.{Task}
use Rattle.fire_tasks.specs.Layout.{IsLink, IsSettled, IsInput, HasEnds, AreLaid, AreTasks, AreSettled, known_at, known_in, sent_at, left_in, seen_at, MakeNet}
use Rattle.fire_tasks.specs.Ports.{received_of, received_in, known_of, sent_of, sent_in}
use Rattle.fire_tasks.specs.Tasks.{IsTask, StatesStand, seen_task}

-- what was received at a port
pub received_here : (ins : List inlet.Inlet) (port : ℕ) (i : inlet.Inlet) → slice_get ins port ≡ Some i → list_at (received_in ins) port ≡ received_of i
received_here [] port i g = absurd (cc g)
received_here (x ∷ ins) zero i g = let e : x ≡ i = cc g in ap received_of e
received_here (x ∷ ins) (suc port) i g = received_here ins port i g

-- what was sent at a port
pub sent_here : (outs : List outlet.Outlet) (j : ℕ) (f : outlet.Outlet) → slice_get outs j ≡ Some f → list_at (sent_in outs) j ≡ sent_of f
sent_here [] j f g = absurd (cc g)
sent_here (x ∷ outs) zero f g = let e : x ≡ f = cc g in ap sent_of e
sent_here (x ∷ outs) (suc j) f g = sent_here outs j f g

pub known_here : (ins : List inlet.Inlet) (port : ℕ) (i : inlet.Inlet) → slice_get ins port ≡ Some i → known_at ins port ≡ known_of i
known_here [] port i g = absurd (cc g)
known_here (x ∷ ins) zero i g = let e : x ≡ i = cc g in ap known_of e
known_here (x ∷ ins) (suc port) i g = known_here ins port i g

-- what is seen of the task of an operator
pub seen_here : (ts : List Task) (o : ℕ) (t : Task) → slice_get ts o ≡ Some t → seen_at ts o ≡ seen_task t
seen_here [] o t g = absurd (cc g)
seen_here (x ∷ ts) zero t g = let e : x ≡ t = cc g in ap seen_task e
seen_here (x ∷ ts) (suc o) t g = seen_here ts o t g

pub known_there : (ts : List Task) (o port : ℕ) (t : Task) → slice_get ts o ≡ Some t → known_in ts o port ≡ known_at t.ins port
known_there [] o port t g = absurd (cc g)
known_there (x ∷ ts) zero port t g = let e : x ≡ t = cc g in ap (λ (y : Task). known_at y.ins port) e
known_there (x ∷ ts) (suc o) port t g = known_there ts o port t g

pub sent_there : (ts : List Task) (o j : ℕ) (t : Task) → slice_get ts o ≡ Some t → sent_at ts o j ≡ list_at (sent_in t.outs) j
sent_there [] o j t g = absurd (cc g)
sent_there (x ∷ ts) zero j t g = let e : x ≡ t = cc g in ap (λ (y : Task). list_at (sent_in y.outs) j) e
sent_there (x ∷ ts) (suc o) j t g = sent_there ts o j t g

-- the words of the tasks
pub word_at : (p : PlanForm) (adds : ℕ → ℕ → List (List ℤ)) (ts : List Task)
    → ((i : ℕ) (d : Task) → i < length ts → IsTask p (adds (get_or ts i d).op) (get_or ts i d)) → ℕ → Word
word_at p adds [] h i = []
word_at p adds (t ∷ ts) h zero = (h 0 t (omega arith)).word
word_at p adds (t ∷ ts) h (suc i) = word_at p adds ts (λ n d lt. h (suc n) d (omega (arith, lt))) i

record Works (p : PlanForm) (adds : ℕ → ℕ → List (List ℤ)) (t : Task) (w : Word) : Type 0 where
  op : OpForm
  op_is : slice_get p.ops t.op ≡ Some op
  ins : length t.ins ≡ length op.reads
  outs : length t.outs ≡ length op.writes
  fired : HasFired p op (adds t.op) (seen_task t) w
  stands : StatesStand p op t w
  count : t.count ≡ min most_firings (length w)

works_at : (p : PlanForm) (adds : ℕ → ℕ → List (List ℤ)) (ts : List Task)
    (h : (i : ℕ) (d : Task) → i < length ts → IsTask p (adds (get_or ts i d).op) (get_or ts i d)) (o : ℕ) (t : Task)
    → slice_get ts o ≡ Some t → Works p adds t (word_at p adds ts h o)
unfolding word_at
works_at p adds [] h o t g = absurd (cc g)
works_at p adds (x ∷ ts) h zero t g =
    let e : x ≡ t = cc g in
    let k = h 0 x (omega arith) in
    subst (λ y. Works p adds y k.word) e
    (record { op = k.op; op_is = k.op_is; ins = k.ins; outs = k.outs; fired = k.fired; stands = k.stands; count = k.count })
works_at p adds (x ∷ ts) h (suc o) t g = works_at p adds ts (λ n d lt. h (suc n) d (omega (arith, lt))) o t g

-- of a settled ring, what was received, then what is known, is what was sent
pub settled_ring : (f : outlet.Outlet) (i : inlet.Inlet) → IsSettled f i → received_of i ++ known_of i ≡ sent_of f
settled_ring (SendsTo f) (TakesFrom t) s = s.0
settled_ring (SendsTo f) (Given k) s = absurd s
settled_ring (Stored xs) i s = absurd s

ring_bound : (cap : ℕ) (f : outlet.Outlet) (i : inlet.Inlet) → IsLink cap f i → IsSettled f i → length (known_of i) ≤ cap
ring_bound cap (SendsTo f) (TakesFrom t) l s = let a = l.1 in let b = s.1 in omega (arith, a, b)
ring_bound cap (SendsTo f) (Given k) l s = absurd s
ring_bound cap (Stored xs) i l s = absurd s

-- what was received of an input, and what is left of it, is the input
pub kept_input : (xs : List item.Item) (i : inlet.Inlet) → IsInput xs i → received_of i ++ known_of i ≡ xs
kept_input xs (TakesFrom t) h = absurd h
kept_input xs (Given k) h = take-append-drop k.taken k.line ∙ h

pub ports_long : (w : Word) → length (ports_of w) ≡ length w
ports_long [] = refl
ports_long (e ∷ w) = ap suc (ports_long w)

-- words with the same ports are as long
pub as_long : (w is : Word) → ports_of w ≡ ports_of is → length w ≡ length is
as_long w is e = sym (ports_long w) ∙ ap length e ∙ ports_long is

module _ (p : PlanForm) (inputs : List (List item.Item)) (caps : Capacities) (adds : ℕ → ℕ → List (List ℤ)) (ts : List Task) (v : IsPlan p)
    (laid : AreLaid p inputs caps ts) (tasks : AreTasks p adds ts) (settled : AreSettled p ts) where
  abbrev pub words : ℕ → Word
  words = word_at p adds ts tasks.each

  abbrev pub left : History
  left = left_in p inputs ts

  -- the task of an operator
  pub task_of : (o : ℕ) (op : OpForm) → slice_get p.ops o ≡ Some op → (t : Task) × (slice_get ts o ≡ Some t)
  task_of o op g = there_is ts o (let b = slice_get_within p.ops o op g in let m = laid.many in omega (arith, b, m))

  pub record At (o : ℕ) (op : OpForm) (t : Task) : Type 0 where
    pub there : slice_get ts o ≡ Some t
    pub ins : length t.ins ≡ length op.reads
    pub outs : length t.outs ≡ length op.writes
    pub fired : HasFired p op (adds o) (seen_task t) (word_at p adds ts tasks.each o)
    pub stands : StatesStand p op t (word_at p adds ts tasks.each o)
    pub count : t.count ≡ min most_firings (length (word_at p adds ts tasks.each o))

  -- the facts of the task of an operator
  pub at_op : (o : ℕ) (op : OpForm) (t : Task) → slice_get p.ops o ≡ Some op → slice_get ts o ≡ Some t → At o op t
  at_op o op t g gt =
      let w = works_at p adds ts tasks.each o t gt in
      let n = laid.numbers o t gt in
      let e : w.op ≡ op = same_Some w.op op (sym w.op_is ∙ ap (slice_get p.ops) n ∙ g) in
      subst (λ (y : OpForm). At o y t) e
      (record {
        there = gt;
        ins = w.ins;
        outs = w.outs;
        fired =
            subst (λ i. HasFired p w.op (adds i) (seen_task t) (word_at p adds ts tasks.each o)) n w.fired;
        stands = w.stands;
        count = w.count;
      })

  fired : (o : ℕ) (op : OpForm) → slice_get p.ops o ≡ Some op → HasFired p op (adds o) (seen_at ts o) (words o)
  fired o op g =
      let t = task_of o op g in
      subst (λ s. HasFired p op (adds o) s (words o)) (sym (seen_here ts o t.0 t.1)) (at_op o op t.0 g t.1).fired

  -- the end at a port that is read
  pub inlet_of : (o port : ℕ) (op : OpForm) (q : Name) (t : Task) → slice_get p.ops o ≡ Some op → slice_get op.reads port ≡ Some q
      → slice_get ts o ≡ Some t → (i : inlet.Inlet) × (slice_get t.ins port ≡ Some i)
  inlet_of o port op q t g r gt = there_is t.ins port (let a = (at_op o op t g gt).ins in let b = slice_get_within op.reads port q r in omega (arith, a, b))

  pub outlet_of : (o j : ℕ) (op : OpForm) (q : Name) (t : Task) → slice_get p.ops o ≡ Some op → slice_get op.writes j ≡ Some q
      → slice_get ts o ≡ Some t → (f : outlet.Outlet) × (slice_get t.outs j ≡ Some f)
  outlet_of o j op q t g r gt = there_is t.outs j (let a = (at_op o op t g gt).outs in let b = slice_get_within op.writes j q r in omega (arith, a, b))

  -- what lies at a reader
  pub left_read : (o port : ℕ) (op : OpForm) (q : Name) (t : Task) (i : inlet.Inlet) → slice_get p.ops o ≡ Some op → slice_get op.reads port ≡ Some q
      → slice_get ts o ≡ Some t → slice_get t.ins port ≡ Some i → left q ≡ known_of i
  left_read o port op q t i g r gt gi =
      let z : 0 + o ≡ o = omega arith in
      let base = lists_by_name (λ a. a.writes) (sent_at ts) 0 p.ops (given_to p inputs) in
      lists_at op.reads (known_in ts o) left
      (subst (λ n. Lists op.reads (known_in ts n) left) z
      (spread_lists (λ a. a.reads) (known_in ts) p.ops 0 base (λ n. let w = v.read_once n in omega (arith, w)) o op g)) port q r
      ∙ known_there ts o port t gt ∙ known_here t.ins port i gi

  -- what lies where nobody reads
  left_unread : (q : Name) → total (reads_it q) p.ops ≡ 0 → left q ≡ lists_by_name (λ a. a.writes) (sent_at ts) 0 p.ops (given_to p inputs) q
  left_unread q z = spread_out (λ a. a.reads) (known_in ts) p.ops 0 (lists_by_name (λ a. a.writes) (sent_at ts) 0 p.ops (given_to p inputs)) q z

  pub ends : (o o' port j : ℕ) (op op' : OpForm) (q : Name) (t t' : Task) (f : outlet.Outlet) (i : inlet.Inlet) → slice_get p.ops o ≡ Some op
      → slice_get op.reads port ≡ Some q → slice_get p.ops o' ≡ Some op' → slice_get op'.writes j ≡ Some q
      → slice_get ts o ≡ Some t → slice_get ts o' ≡ Some t' → slice_get t.ins port ≡ Some i → slice_get t'.outs j ≡ Some f → HasEnds p ts o o' port j q f i
  ends o o' port j op op' q t t' f i g r g' r' gt gt' gi gf =
      record { op = op; op' = op'; op_is = g; reads = r; op_is' = g'; writes = r'; t = t; t' = t'; t_is = gt; t_is' = gt'; in_is = gi; out_is = gf }

  -- what the rings tell of these tasks
  pub beside : AreBeside p inputs caps (seen_at ts) left
  beside = record {
    inner = λ o o' op op' port j q g r g' r'.
        let t = task_of o op g in
        let t' = task_of o' op' g' in
        let i = inlet_of o port op q t.0 g r t.1 in
        let f = outlet_of o' j op' q t'.0 g' r' t'.1 in
        ap (λ (s : SeenTask). list_at s.received port ++ left q) (seen_here ts o t.0 t.1)
        ∙ ap (λ l. l ++ left q) (received_here t.0.ins port i.0 i.1)
        ∙ ap (λ l. received_of i.0 ++ l) (left_read o port op q t.0 i.0 g r t.1 i.1)
        ∙ settled_ring f.0 i.0 (settled.each o o' port j q f.0 i.0 (ends o o' port j op op' q t.0 t'.0 f.0 i.0 g r g' r' t.1 t'.1 i.1 f.1))
        ∙ sym (ap (λ (s : SeenTask). list_at s.sent j) (seen_here ts o' t'.0 t'.1) ∙ sent_here t'.0.outs j f.0 f.1);
    input = λ o op port q g r z.
        let t = task_of o op g in
        let i = inlet_of o port op q t.0 g r t.1 in
        ap (λ (s : SeenTask). list_at s.received port ++ left q) (seen_here ts o t.0 t.1)
        ∙ ap (λ l. l ++ left q) (received_here t.0.ins port i.0 i.1)
        ∙ ap (λ l. received_of i.0 ++ l) (left_read o port op q t.0 i.0 g r t.1 i.1)
        ∙ kept_input (given_to p inputs q) i.0 (laid.inputs_are o port op q t.0 i.0 g r z t.1 i.1);
    output = λ o' op' j q g' r' z.
        let t' = task_of o' op' g' in
        let y : 0 + o' ≡ o' = omega arith in
        let base = lists_by_name (λ a. a.writes) (sent_at ts) 0 p.ops (given_to p inputs) in
        left_unread q z
        ∙ lists_at op'.writes (sent_at ts o') base
        (subst (λ n. Lists op'.writes (sent_at ts n) base) y
        (spread_lists (λ a. a.writes) (sent_at ts) p.ops 0 (given_to p inputs) (λ n. let w = v.written_once n in omega (arith, w)) o' op' g')) j q r'
        ∙ sent_there ts o' j t'.0 t'.1 ∙ sym (ap (λ (s : SeenTask). list_at s.sent j) (seen_here ts o' t'.0 t'.1));
    unused = λ q z zw. left_unread q z ∙ spread_out (λ a. a.writes) (sent_at ts) p.ops 0 (given_to p inputs) q zw;
    within = λ q lw lr.
        let w = writer_of p.ops q lw in
        let r = reader_of p.ops q lr in
        let j = place_of w.1.writes q w.3 in
        let port = place_of r.1.reads q r.3 in
        let t = task_of r.0 r.1 r.2 in
        let t' = task_of w.0 w.1 w.2 in
        let i = inlet_of r.0 port.0 r.1 q t.0 r.2 port.1 t.1 in
        let f = outlet_of w.0 j.0 w.1 q t'.0 w.2 j.1 t'.1 in
        let e = ends r.0 w.0 port.0 j.0 r.1 w.1 q t.0 t'.0 f.0 i.0 r.2 port.1 w.2 j.1 t.1 t'.1 i.1 f.1 in
        let b = ring_bound (caps q) f.0 i.0 (laid.rings r.0 w.0 port.0 j.0 q f.0 i.0 e) (settled.each r.0 w.0 port.0 j.0 q f.0 i.0 e) in
        let k = ap length (left_read r.0 port.0 r.1 q t.0 i.0 r.2 port.1 t.1 i.1) in
        omega (arith, b, k);
  }

  -- the tasks join
  pub joins_by : AreInputs p.inputs inputs → Joins p inputs caps (seen_at ts) left words
  joins_by typed = join_law p inputs caps adds (seen_at ts) left words v typed fired beside

  -- the tasks are a net
  pub make_net : AreInputs p.inputs inputs → MakeNet p inputs caps adds ts
  make_net typed =
      let n = joins_by typed in
      record {
        items = words;
        joins = n;
        gave = λ o op t g gt. (at_op o op t g gt).fired.given (n.words o) (n.typed o op g) (n.held o op g);
        stands = λ o op t g gt. (at_op o op t g gt).stands.after (n.words o) (n.typed o op g) (n.held o op g);
        counts = λ o op t g gt. (at_op o op t g gt).count ∙ ap (min most_firings) (sym (as_long (n.words o) (words o) (n.held o op g).ports));
      }

  -- what a task received is what it fired on
  pub received_by : AreInputs p.inputs inputs → (o : ℕ) (op : OpForm) (t : Task) → slice_get p.ops o ≡ Some op → slice_get ts o ≡ Some t → (port : ℕ)
      → list_at (received_in t.ins) port ≡ at_port port (words o)
  received_by typed o op t g gt port =
      let a = at_op o op t g gt in
      let none_bad = (joins_by typed).none_bad o op g in
      let fine : t.bad ≡ None = ap (λ (s : SeenTask). s.bad) (sym (seen_here ts o t gt)) ∙ none_bad in
      a.fired.received port ∙ ap (λ x. at_port port (words o) ++ bad_at port x) fine ∙ append-nil (at_port port (words o))

-- settled tasks are a net: the law
pub settled_law : SettledIsNet
settled_law p inputs caps adds ts v laid tasks settled typed = make_net p inputs caps adds ts v laid tasks settled typed
