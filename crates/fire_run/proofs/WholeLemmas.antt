-- A net in which no operator has a pending or an untaken item gave all that is defined.
use Rattle.std.proofs.Common.{◌≡◌, ℕ, ℤ, ◌<◌, ⊎_elim, Some, List, [], ◌++◌, length, sym, ap, ◌∙◌, arith, subst, length-append}
use Rattle.std.specs.Prelude.{slice_get, min}
use Rattle.std.proofs.lemmas.List.{append-nil, nil_from_length}
use Rattle.std.proofs.lemmas.Option.{get_or_from_slice_get, slice_get_within}
use Rattle.river_base.proofs.Lists.{got_map}
use Rattle.river_plan.proofs.NameLemmas.{more_or_zero}
use Rattle.river_base.specs.declared.item.Item as item
use Rattle.river_base.specs.Bags.{SameBag}
use Rattle.river_base.specs.Held.{held}
use Rattle.river_base.specs.Places.{list_at}
use Rattle.river_plan.specs.Forms.{Name, OpForm, PlanForm, all_decls}
use Rattle.river_plan.specs.Kinds.{kind_of}
use Rattle.river_plan.specs.Uses.{total, writes_it}
use Rattle.river_plan.specs.Valid.{IsPlan}
use Rattle.brooklet_model.specs.Bounded.{Capacities}
use Rattle.brooklet_model.specs.NetLaws.{IsWholeRun}
use Rattle.brooklet_model.specs.Received.{AreDone, hist_by, IsFront}
use Rattle.brooklet_model.specs.Histories.{hist, given_on, most_firings}
use Rattle.brooklet_model.specs.Traced.{ran}
use Rattle.brooklet_model.specs.Words.{Word, at_port}
use Rattle.brooklet_step.specs.Given.{held_by}
use Rattle.fire_tasks.specs.Fired.{SeenTask}
use Rattle.fire_tasks.specs.Joins.{bounded}
use Rattle.brooklet_model.proofs.Received.{writer_of, by_words, unwritten_by}
use Rattle.brooklet_model.proofs.RunsEnd.{done_law}
use Rattle.fire_tasks.proofs.Joining.{lists_at, place_of}
use Rattle.fire_tasks.specs.declared.task.Task.{Task}
use Rattle.fire_tasks.specs.Layout.{MakeNet, seen_at, left_in}
use Rattle.fire_tasks.proofs.Numbers.{numbers_law}
use Rattle.fire_tasks.specs.Ports.{known_of, sent_in}
use Rattle.fire_tasks.specs.Tasks.{IsDone}
use Rattle.fire_tasks.specs.Adds.{added, logs_of}
use Rattle.fire_tasks.proofs.NetLemmas.{make_net, seen_here, left_read, inlet_of, task_of, beside}
use Rattle.fire_run.specs.declared.net.Net.{Net}
use Rattle.fire_run.specs.NetOf.{IsNetOf, AreIdle}
use Rattle.fire_run.specs.Whole.{IsWholeNet, IdleNetIsWhole, NetsMoveFew}

-- a front as long is the whole
whole_front : (xs ys : List item.Item) → IsFront xs ys → length xs ≡ length ys → xs ≡ ys
whole_front xs ys f e =
    let a = ap length f.1 in
    let b = length-append xs f.0 in
    sym (append-nil xs) ∙ ap (λ r. xs ++ r) (sym (nil_from_length f.0 (omega (arith, a, b, e)))) ∙ f.1

module _ (p : PlanForm) (inputs : List (List item.Item)) (caps : Capacities) (net : Net) (v : IsPlan p) (n : IsNetOf p inputs caps net)
    (idle : AreIdle net.tasks) where
  abbrev adds : ℕ → ℕ → List (List ℤ)
  adds = added p (logs_of net.cells)

  make : MakeNet p inputs caps adds net.tasks
  make = make_net p inputs caps adds net.tasks v n.laid n.tasks n.settled n.typed

  ws : ℕ → Word
  unfolding make
  ws = make.joins.words

  task_here : (o : ℕ) (op : OpForm) → slice_get p.ops o ≡ Some op → (t : Task) × (slice_get net.tasks o ≡ Some t)
  task_here o op g = task_of p inputs caps adds net.tasks v n.laid n.tasks n.settled o op g

  done_at : (o : ℕ) (t : Task) → slice_get net.tasks o ≡ Some t → IsDone t
  done_at o t g = subst IsDone (get_or_from_slice_get net.tasks o t t g) (idle.each o t (slice_get_within net.tasks o t g))

  -- nothing lies in a queue that is read
  none_left : (o port : ℕ) (op : OpForm) (q : Name) → slice_get p.ops o ≡ Some op → slice_get op.reads port ≡ Some q → left_in p inputs net.tasks q ≡ []
  none_left o port op q g r =
      let t = task_here o op g in
      let i = inlet_of p inputs caps adds net.tasks v n.laid n.tasks n.settled o port op q t.0 g r t.1 in
      left_read p inputs caps adds net.tasks v n.laid n.tasks n.settled o port op q t.0 i.0 g r t.1 i.1
      ∙ ap known_of (sym (get_or_from_slice_get t.0.ins port i.0 i.0 i.1)) ∙ (done_at o t.0 t.1).received port i.0 (slice_get_within t.0.ins port i.0 i.1)

  -- nor is anything pending
  none_pends : (o j : ℕ) (op : OpForm) → slice_get p.ops o ≡ Some op → list_at (seen_at net.tasks o).pending j ≡ []
  none_pends o j op g =
      let t = task_here o op g in
      ap (λ (s : SeenTask). list_at s.pending j) (seen_here net.tasks o t.0 t.1) ∙ (done_at o t.0 t.1).idle j

  received_all : (o port : ℕ) (op : OpForm) (q : Name) → slice_get p.ops o ≡ Some op → slice_get op.reads port ≡ Some q
      → length (at_port port (ws o)) ≡ length (hist_by p inputs ws q)
  unfolding ws make
  received_all o port op q g r =
      let j = make.joins in
      let b = bounded p inputs (left_in p inputs net.tasks) ws in
      let nt = j.net in
      let gone = ap length (nt.taken o op g port q r) in
      let left = j.lies q in
      let left0 = ap length (none_left o port op q g r) in
      let h = ap length (nt.histories q) in
      let h1 = length-append (b.taken q ++ b.left q) (b.pending q) in
      let h2 = length-append (b.taken q) (b.left q) in
      ⊎_elim
      (λ w.
      let wr = writer_of p.ops q w in
      let k = place_of wr.1.writes q wr.3 in
      let pe = j.pends wr.0 wr.1 wr.2 k.0 q k.1 in
      let pe0 = ap length (none_pends wr.0 k.0 wr.1 wr.2) in
      omega (arith, gone, left, left0, h, h1, h2, pe, pe0))
      (λ none.
      let tk = j.taken o op g port q r in
      let be = beside p inputs caps adds net.tasks v n.laid n.tasks n.settled in
      let i = ap length (be.input o op port q g r none) in
      let i1 = length-append (list_at (seen_at net.tasks o).received port) (left_in p inputs net.tasks q) in
      let u = ap length (unwritten_by p inputs ws q none) in
      omega (arith, gone, left0, tk, i, i1, u))
      (more_or_zero (total (writes_it q) p.ops))

  are_done : AreDone p inputs ws
  unfolding ws make
  are_done o op g port q r =
      whole_front (at_port port (ws o)) (hist_by p inputs ws q) (make.joins.net.words.fronts o op g port q r) (received_all o port op q g r)

  whole : IsWholeRun p inputs ws
  unfolding ws make
  whole = done_law p inputs ws v make.joins.net.words are_done

  -- what the tasks sent and what the logs tell is what is defined for the whole net
  pub whole_net : IsWholeNet p inputs net.cells net.tasks
  unfolding ws make
  whole_net = record {
    sent = λ o j op q t g w gt.
        let below : j < length op.writes = slice_get_within op.writes j q w in
        let outs = (make.gave o op t g gt).outs j below in
        let none = (done_at o t gt).idle j in
        let is = lists_at op.writes (ran op (ws o)).outs (hist_by p inputs ws) (by_words p inputs ws v o op g) j q w in
        sym (append-nil (list_at (sent_in t.outs) j)) ∙ ap (λ y. list_at (sent_in t.outs) j ++ y) (sym none) ∙ outs
        ∙ ap (λ k. held_by k [] ((ran op (ws o)).outs j)) (got_map (kind_of (all_decls p)) op.writes j q w)
        ∙ ap (held (kind_of (all_decls p) q) []) (sym is ∙ whole.queues q);
    bags = λ o k op g lt.
        let t = task_here o op g in
        subst (λ l. SameBag l ((given_on op (hist p inputs)).adds k)) (sym ((make.gave o op t.0 g t.1).adds_are k lt)) (whole.bags o op g k);
    rows = λ o k op g lt one. let t = task_here o op g in (make.gave o op t.0 g t.1).adds_are k lt ∙ whole.rows o op g one k;
    counts = λ o op t g gt. make.counts o op t g gt ∙ ap (min most_firings) (whole.firings o op g);
    entries = n.entries;
  }

-- an idle net is whole: the law
pub whole_law : IdleNetIsWhole
whole_law p inputs caps net v n idle = whole_net p inputs caps net v n idle

-- nets move few items: the law
pub few_law : NetsMoveFew
few_law p inputs caps net v n = numbers_law p inputs caps (added p (logs_of net.cells)) net.tasks v n.laid n.tasks n.settled n.typed
