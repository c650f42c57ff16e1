-- What a net keeps while its tasks move and its rings look.
use Rattle.std.proofs.Common.{◌≡◌, ℕ, ℤ, ◌<◌, ⊎_elim, Some, None, List, [], ◌++◌, length, map, sym, ap, ◌∙◌, arith, subst, get_or, ◌^◌, length-append}
use Rattle.std.specs.Prelude.{slice_get}
use Rattle.std.proofs.lemmas.Bool.{cases_lt}
use Rattle.std.proofs.lemmas.Option.{get_or_from_slice_get, slice_get-get_or, slice_get_within}
use Rattle.std.proofs.lemmas.List.{nil_from_length}
use Rattle.river_base.proofs.PlaceLemmas.{list_past}
use Rattle.river_plan.proofs.NameLemmas.{more_or_zero}
use Rattle.river_base.proofs.Lists.{there_is}
use Rattle.river_base.specs.declared.item.Item as item
use Rattle.river_base.specs.Places.{list_at}
use Rattle.river_plan.specs.Forms.{PlanForm}
use Rattle.river_plan.specs.Uses.{total, reads_it, writes_it}
use Rattle.river_plan.specs.Valid.{IsPlan}
use Rattle.brooklet_model.proofs.Traces.{got_count}
use Rattle.brooklet_model.specs.Bounded.{Capacities}
use Rattle.brooklet_model.specs.Laws.{given_to}
use Rattle.brooklet_model.proofs.BoundedMoves.{reader_behind, reader_of}
use Rattle.fire_tasks.proofs.Joining.{place_of}
use Rattle.fire_tasks.specs.Fired.{SeenTask}
use Rattle.fire_tasks.specs.Inlet as inlet
use Rattle.fire_tasks.specs.Inlet.{TakesFrom, Given}
use Rattle.fire_tasks.specs.Outlet as outlet
use Rattle.fire_tasks.specs.Outlet.{SendsTo, Stored}
use Rattle.fire_tasks.specs.declared.task.Task.{Task}
use Rattle.fire_tasks.specs.Layout.{IsLink, IsSettled, IsInput, IsStored, AreLaid, AreTasks, HasEnds}
use Rattle.fire_tasks.specs.Ports.{in_end, received_of, known_of, sent_of, HasRoom}
use Rattle.fire_tasks.specs.Tasks.{IsTask, IsDone, all_ends}
use Rattle.fire_tasks.specs.Adds.{added, logs_of}
use Rattle.fire_tasks.proofs.NetLemmas.{make_net, seen_here, settled_ring, kept_input, received_here}
use Rattle.fire_open.specs.Links.{AreLinks, AreMet}
use Rattle.fire_open.specs.TaskCores.{TaskCore, task_core}
use Rattle.fire_open.proofs.Lists.{same_got, map_long}
use Rattle.fire_open.proofs.StillLemmas.{still_tasks, still_ends}
use Rattle.river_kernels.specs.declared.limit.Limit.TheVariants.{Ports}
use Rattle.brooklet_step.proofs.RunLemmas.{ports_few}
use Rattle.fire_open.specs.Homes.{AreClassCells}
use Rattle.fire_open.proofs.Laid.{task_at, laid_same, settled_by}
use Rattle.fire_run.specs.declared.net.Net.{Net}
use Rattle.fire_run.specs.Cells.{AreSingle, HaveMoved}
use Rattle.fire_run.specs.Moves.{CanSendFrom}
use Rattle.fire_run.specs.NetOf.{IsNetOf, AreIdle}
use Rattle.fire_run.proofs.CellLemmas.{cells_again}
use Rattle.fire_run.proofs.RingPairs.{ring_pair, same_sents}

-- A MOVE THAT CAN BE MADE

-- a task of a plan has fewer than 2^32 inlets
pub few_ports : (p : PlanForm) (adds : ℕ → List (List ℤ)) (t : Task) → IsPlan p → IsTask p adds t → length t.ins < 2 ^ 32
few_ports p adds t v k = let f = ports_few p.ops t.op k.op (v.within Ports) k.op_is in let i = k.ins in omega (arith, f, i)

-- a ring whose reader received all has room
ring_free : (cap : ℕ) (f : outlet.Outlet) (i : inlet.Inlet) → 0 < cap → IsLink cap f i → IsSettled f i → known_of i ≡ [] → HasRoom f
ring_free cap (SendsTo f) (TakesFrom t) lt l s z = let a = ap length z in let w = s.2 in let c = l.2 in omega (arith, a, w, c, lt)
ring_free cap (SendsTo f) (Given k) lt l s z = absurd l
ring_free cap (Stored xs) i lt l s z = absurd l

stored_free : (f : outlet.Outlet) → IsStored f → HasRoom f
stored_free (SendsTo f) s = absurd s
stored_free (Stored xs) s = tt

module _ (p : PlanForm) (inputs : List (List item.Item)) (caps : Capacities) (net : Net) (v : IsPlan p) (n : IsNetOf p inputs caps net) where
  abbrev adds : ℕ → ℕ → List (List ℤ)
  adds = added p (logs_of net.cells)

  is_task : (o : ℕ) (d : Task) → o < length net.tasks → IsTask p (adds (get_or net.tasks o d).op) (get_or net.tasks o d)
  is_task o d lt = n.tasks.each o d lt

  -- the operator of a task
  op_at : (o : ℕ) (d : Task) (lt : o < length net.tasks) → slice_get p.ops o ≡ Some (is_task o d lt).op
  unfolding is_task
  op_at o d lt =
      let k = n.tasks.each o d lt in
      sym (ap (slice_get p.ops) (n.laid.numbers o (get_or net.tasks o d) (slice_get-get_or net.tasks o d lt))) ∙ k.op_is

  pub none_bad : (o : ℕ) (d : Task) → o < length net.tasks → (get_or net.tasks o d).bad ≡ None
  none_bad o d lt =
      let m = make_net p inputs caps adds net.tasks v n.laid n.tasks n.settled n.typed in
      ap (λ (s : SeenTask). s.bad) (sym (seen_here net.tasks o (get_or net.tasks o d) (slice_get-get_or net.tasks o d lt)))
      ∙ m.joins.none_bad o (is_task o d lt).op (op_at o d lt)

  room_at : (o : ℕ) (d : Task) → o < length net.tasks → ((m : ℕ) (e : Task) → o < m → m < length net.tasks → IsDone (get_or net.tasks m e))
      → (j : ℕ) (x : outlet.Outlet) → (list_at (get_or net.tasks o d).pending j ≡ [] → ⊥)
      → HasRoom (get_or (get_or net.tasks o d).outs j x)
  unfolding is_task
  room_at o d lt behind j x some =
      let t = get_or net.tasks o d in
      let k = is_task o d lt in
      let there : j < length k.op.writes =
      ⊎_elim (λ l. l) (λ ge. absurd (some (list_past t.pending j (let e = k.pending in omega (arith, e, ge))))) (cases_lt j (length k.op.writes)) in
      let q = there_is k.op.writes j there in
      let f = there_is t.outs j (let e = k.outs in omega (arith, e, there)) in
      let gt = slice_get-get_or net.tasks o d lt in
      subst HasRoom (sym (get_or_from_slice_get t.outs j f.0 x f.1)) (⊎_elim
      (λ read.
      let r = reader_of p.ops q.0 read in
      let port = place_of r.1.reads q.0 r.3 in
      let a = task_at p inputs caps adds net.tasks n.laid n.tasks r.0 r.1 r.2 in
      let i = there_is a.t.ins port.0 (let e = a.ins in let b = slice_get_within r.1.reads port.0 q.0 port.1 in omega (arith, e, b)) in
      let ends : HasEnds p net.tasks r.0 o port.0 j q.0 f.0 i.0 =
      record {
        op = r.1;
        op' = k.op;
        op_is = r.2;
        reads = port.1;
        op_is' = op_at o d lt;
        writes = q.1;
        t = a.t;
        t' = t;
        t_is = a.t_is;
        t_is' = gt;
        in_is =
            i.1;
        out_is = f.1;
      } in
      let after = reader_behind p v o r.0 k.op r.1 q.0 (op_at o d lt) (got_count k.op.writes j q.0 q.1) r.2 r.3 in
      let done = behind r.0 a.t after (slice_get_within net.tasks r.0 a.t a.t_is) in
      let done1 : IsDone a.t = subst IsDone (get_or_from_slice_get net.tasks r.0 a.t a.t a.t_is) done in
      let z : known_of i.0 ≡ [] = ap known_of (sym (get_or_from_slice_get a.t.ins port.0 i.0 i.0 i.1))
      ∙ done1.received port.0 i.0 (slice_get_within a.t.ins port.0 i.0 i.1) in
      ring_free (caps q.0) f.0 i.0 (n.room q.0) (n.laid.rings r.0 o port.0 j q.0 f.0 i.0 ends) (n.settled.each r.0 o port.0 j q.0 f.0 i.0 ends) z)
      (λ none. stored_free f.0 (n.laid.outputs_are o j k.op q.0 t f.0 (op_at o d lt) q.1 none gt f.1))
      (more_or_zero (total (reads_it q.0) p.ops)))

  -- in a net no item failed its test, and where all behind a task have nothing to do its rings have room
  pub can_send : CanSendFrom net.tasks
  can_send = record {
    fine = none_bad;
    few = λ o d lt. few_ports p (adds (get_or net.tasks o d).op) (get_or net.tasks o d) v (n.tasks.each o d lt);
    room = λ o d lt behind. record { each = room_at o d lt behind };
  }

-- the operators of two tasks of a net are two
pub single_tasks : (p : PlanForm) (inputs : List (List item.Item)) (caps : Capacities) (ts : List Task) → AreLaid p inputs caps ts → AreSingle ts
single_tasks p inputs caps ts laid i k d li lk e =
    sym (laid.numbers i (get_or ts i d) (slice_get-get_or ts i d li)) ∙ e ∙ laid.numbers k (get_or ts k d) (slice_get-get_or ts k d lk)

-- a net whose tasks moved, and whose ends looked since
pub net_again : (p : PlanForm) (inputs : List (List item.Item)) (caps : Capacities) (net net' : Net) (ts : List Task) → IsPlan p → IsNetOf p inputs caps net
    → AreTasks p (added p (logs_of net'.cells)) ts → all_ends ts ≡ all_ends net.tasks → map task_core net'.tasks ≡ map task_core ts → net'.links ≡ net.links
    → AreMet net'.tasks net.links (length net.links) → HaveMoved p net.cells net'.cells → IsNetOf p inputs caps net'
net_again p inputs caps net net' ts v n k e s l m h = record {
  typed = n.typed;
  room = n.room;
  laid = laid_same p inputs caps net.tasks net'.tasks (still_ends ts net'.tasks s ∙ e) n.laid;
  tasks = still_tasks p (added p (logs_of net'.cells)) ts net'.tasks s k;
  settled = settled_by p net'.tasks net.links n.links m;
  links = subst (AreLinks p) (sym l) n.links;
  cells = subst (AreClassCells p) (sym h.is) (cells_again p h.more net.cells n.cells);
  entries = h.entries n.entries;
}

-- NOTHING LEFT

none_more : (xs xs' ys ys' : List item.Item) → xs ++ ys ≡ xs' ++ ys' → xs ≡ xs' → ys ≡ [] → ys' ≡ []
none_more xs xs' ys ys' e x y =
    let a = ap length e in
    let b = length-append xs ys in
    let c = length-append xs' ys' in
    let d = ap length x in
    let f = ap length y in
    nil_from_length ys' (omega (arith, a, b, c, d, f))

ring_left : (f f' : outlet.Outlet) (i i' : inlet.Inlet) → IsSettled f i → IsSettled f' i' → sent_of f' ≡ sent_of f → received_of i' ≡ received_of i
    → known_of i ≡ [] → known_of i' ≡ []
ring_left f f' i i' s s' es er z =
    none_more (received_of i) (received_of i') (known_of i) (known_of i') (settled_ring f i s ∙ sym es ∙ sym (settled_ring f' i' s')) (sym er) z

input_left : (xs : List item.Item) (i i' : inlet.Inlet) → IsInput xs i → IsInput xs i' → received_of i' ≡ received_of i → known_of i ≡ [] → known_of i' ≡ []
input_left xs i i' h h' er z = none_more (received_of i) (received_of i') (known_of i) (known_of i') (kept_input xs i h ∙ sym (kept_input xs i' h')) (sym er) z

module _ (p : PlanForm) (inputs : List (List item.Item)) (caps : Capacities) (net net' : Net) (v : IsPlan p) (n : IsNetOf p inputs caps net)
    (n' : IsNetOf p inputs caps net') (same : map task_core net'.tasks ≡ map task_core net.tasks) where
  done_again : (o : ℕ) (t t' : Task) → slice_get net.tasks o ≡ Some t → slice_get net'.tasks o ≡ Some t' → task_core t' ≡ task_core t → IsDone t → IsDone t'
  done_again o t t' g g' s d = record {
    idle = λ j. ap (λ (x : TaskCore). list_at x.pending j) s ∙ d.idle j;
    received = λ port x lt.
        let i' = there_is t'.ins port lt in
        let lt0 : port < length t.ins = (let e = map_long in_end t'.ins t.ins (ap (λ (x : TaskCore). x.ends.ins) s) in omega (arith, lt, e)) in
        let i = there_is t.ins port lt0 in
        let er : received_of i'.0 ≡ received_of i.0 = sym (received_here t'.ins port i'.0 i'.1) ∙ ap (λ (x : TaskCore). list_at x.seen.received port) s
        ∙ received_here t.ins port i.0 i.1 in
        let z : known_of i.0 ≡ [] = ap known_of (sym (get_or_from_slice_get t.ins port i.0 x i.1)) ∙ d.received port x lt0 in
        let k = n.tasks.each o t (slice_get_within net.tasks o t g) in
        let k1 : IsTask p (added p (logs_of net.cells) t.op) t =
        subst (λ (y : Task). IsTask p (added p (logs_of net.cells) y.op) y) (get_or_from_slice_get net.tasks o t t g) k in
        let op_is : slice_get p.ops o ≡ Some k1.op = ap (slice_get p.ops) (sym (n.laid.numbers o t g)) ∙ k1.op_is in
        let q = there_is k1.op.reads port (let e = k1.ins in omega (arith, e, lt0)) in
        ap known_of (get_or_from_slice_get t'.ins port i'.0 x i'.1)
        ∙ ⊎_elim
        (λ w. let r =
        ring_pair p inputs caps net net' n n' (same_sents net'.tasks net.tasks same) o port k1.op q.0 t t' i.0 i'.0 op_is q.1 g g' i.1 i'.1 w in
        ring_left r.out r.out' i.0 i'.0 r.settled r.settled' r.sent er z)
        (λ none. input_left (given_to p inputs q.0) i.0 i'.0 (n.laid.inputs_are o port k1.op q.0 t i.0 op_is q.1 none g i.1)
        (n'.laid.inputs_are o port k1.op q.0 t' i'.0 op_is q.1 none g' i'.1) er z)
        (more_or_zero (total (writes_it q.0) p.ops));
  }

  -- a net that looked at its rings is still idle
  pub idle_again : AreIdle net.tasks → AreIdle net'.tasks
  idle_again h = record {
    each = λ o d lt.
        let g' = slice_get-get_or net'.tasks o d lt in
        let x = same_got task_core net'.tasks net.tasks same o (get_or net'.tasks o d) g' in
        let l = slice_get_within net.tasks o x.0 x.1 in
        done_again o x.0 (get_or net'.tasks o d) x.1 g' x.2 (subst IsDone (get_or_from_slice_get net.tasks o x.0 d x.1) (h.each o d l));
  }
