-- The lines of the outputs, port by port, and the counts.
use Rattle.std.proofs.Common.{◌≡◌, ℕ, ℤ, zero, suc, ◌+◌, ◌<◌, ◌≤◌, inl, inr, ⊎_elim, pos, Some, List, [], ◌∷◌, ◌++◌, length, map, refl, sym, ap, ◌∙◌, arith}
use Rattle.std.proofs.Common.{get_or, set, get_or-set_other, ◌^◌}
use Rattle.std.specs.Prelude.{All, replicate, slice_get}
use Rattle.std.proofs.Math.Nat.{min-le_left}
use Rattle.std.proofs.lemmas.Bool.{cases_eq, cases_lt}
use Rattle.std.proofs.lemmas.List.{length-map, length-replicate, length-set, get_or-set_same}
use Rattle.std.proofs.lemmas.Option.{get_or_from_slice_get, slice_get-get_or, slice_get_within, same_Some}
use Rattle.river_base.proofs.Lists.{there_is, got_map, got_first}
use Rattle.river_base.specs.declared.item.Item as item
use Rattle.river_base.specs.Places.{list_at}
use Rattle.river_plan.specs.declared.plan.Decl.{Decl}
use Rattle.river_plan.specs.Forms.{Name, OpForm, PlanForm, queue_names, decl_names}
use Rattle.river_plan.specs.Names.{count}
use Rattle.river_plan.specs.Places.{place, write_places}
use Rattle.river_plan.specs.Uses.{total, reads_it, writes_it}
use Rattle.river_plan.specs.Valid.{IsPlan}
use Rattle.river_plan.proofs.NameLemmas.{count-append, more_or_zero}
use Rattle.river_plan.proofs.PlaceLemmas.{place_at, place_apart}
use Rattle.brooklet_model.specs.Bounded.{Capacities}
use Rattle.brooklet_model.specs.Histories.{History, hist, firings, firings_of, most_firings, inputs_of}
use Rattle.brooklet_model.specs.Meaning.{meaning}
use Rattle.brooklet_model.proofs.Complete.{nothing_given}
use Rattle.brooklet_model.proofs.Received.{writer_of}
use Rattle.brooklet_model.proofs.Solutions.{stays}
use Rattle.brooklet_model.proofs.Traces.{got_count, at_most}
use Rattle.brooklet_step.proofs.Edges.{output_held}
use Rattle.brooklet_step.proofs.QueuePlaces.{place_is}
use Rattle.brooklet_step.proofs.ReadLemmas.{places_at}
use Rattle.fire_tasks.specs.Outlet as outlet
use Rattle.fire_tasks.specs.declared.task.Task.{Task}
use Rattle.fire_tasks.specs.Ports.{sent_of}
use Rattle.fire_tasks.specs.Layout.{IsStored}
use Rattle.fire_tasks.proofs.Joining.{place_of}
use Rattle.fire_open.specs.Sources.{ComesBefore}
use Rattle.fire_open.proofs.Lists.{set_got_other}
use Rattle.fire_open.proofs.SourceLemmas.{PortAt, before_next}
use Rattle.fire_run.specs.declared.net.Net.{Net}
use Rattle.fire_run.specs.Closed.{AreOuts, HasOuts, HaveOuts}
use Rattle.fire_run.specs.NetOf.{IsNetOf, AreIdle}
use Rattle.fire_run.specs.Whole.{sent_hist}
use Rattle.fire_run.proofs.WholeLemmas.{whole_net}

-- LINES

blank_at : (n q : ℕ) → list_at {A = item.Item} (replicate n []) q ≡ []
blank_at zero q = refl
blank_at (suc n) zero = refl
blank_at (suc n) (suc q) = blank_at n q

-- before the first port all lines are empty
pub outs_first : (p : PlanForm) (h : History) (n : ℕ) (lines : List (List item.Item)) → n ≡ length p.outputs → lines ≡ replicate n [] → AreOuts p h 0 0 lines
outs_first p h n lines en e = record {
  many = ap length e ∙ length-replicate n [] ∙ en;
  each = λ o' j' op q b g w lt. absurd (⊎_elim (λ l. omega (arith, l)) (λ x. let l = x.1 in omega (arith, l)) b);
  rest = λ m none. ap (λ l. list_at l m) e ∙ blank_at n m;
}

before_more : (o j o' j' : ℕ) → ComesBefore o j o' j' → ComesBefore o (j + 1) o' j'
before_more o j o' j' b = ⊎_elim (λ l. inl l) (λ e. inr (e.0, (let l = e.1 in omega (arith, l)))) b

declared : (p : PlanForm) → IsPlan p → (o j : ℕ) (op : OpForm) (q : Name) → slice_get p.ops o ≡ Some op → slice_get op.writes j ≡ Some q
    → 0 < count q (queue_names p)
declared p v o j op q g w = v.writes_declared q (let a = at_most (writes_it q) p.ops o op g in let c = got_count op.writes j q w in omega (arith, a, c))

module _ (p : PlanForm) (v : IsPlan p) (h : History) (o j n : ℕ) (a : PortAt p (λ op. op.writes) o j n)
    (lines : List (List item.Item)) (k : AreOuts p h o j lines) where
  here_is : (o' j' : ℕ) (op : OpForm) (q : Name) → slice_get p.ops o' ≡ Some op → slice_get op.writes j' ≡ Some q → (o ≡ o') × (j ≡ j') → a.queue ≡ q
  here_is o' j' op q g w e =
      let eo : a.op ≡ op = same_Some a.op op (sym a.op_is ∙ ap (slice_get p.ops) e.0 ∙ g) in
      same_Some a.queue q (sym a.queue_is ∙ ap (λ (y : OpForm). slice_get y.writes j) eo ∙ ap (slice_get op.writes) e.1 ∙ w)

  -- one line more, of an output
  pub outs_next : (xs : List item.Item) → n < length lines → xs ≡ h a.queue → AreOuts p h o (j + 1) (set lines n xs)
  outs_next xs lt ex = record {
    many = length-set lines n xs ∙ k.many;
    each = λ o' j' op q b g w below. ⊎_elim
        (λ e.
        let same : a.queue ≡ q =
        place_apart (queue_names p) a.queue q (declared p v o j a.op a.queue a.op_is a.queue_is) (declared p v o' j' op q g w) (sym a.place_is ∙ e) in
        ap (list_at (set lines n xs)) (sym e) ∙ get_or-set_same lines n xs [] lt ∙ ex ∙ ap h same)
        (λ ne. ⊎_elim
        (λ old. get_or-set_other lines n (place (queue_names p) q) xs [] (λ d. ne (sym d))
        ∙ k.each o' j' op q old g w (let l = length-set lines n xs in omega (arith, l, below)))
        (λ here. absurd (ne (a.place_is ∙ ap (place (queue_names p)) (here_is o' j' op q g w here))))
        (before_next o j o' j' b))
        (cases_eq n (place (queue_names p) q));
    rest = λ m none. ⊎_elim
        (λ e. absurd (none o j a.op a.queue (inr (refl, omega arith)) a.op_is a.queue_is (sym a.place_is ∙ e)))
        (λ ne. get_or-set_other lines n m xs [] (λ d. ne (sym d)) ∙ k.rest m (λ o' j' op q b g w. none o' j' op q (before_more o j o' j' b) g w))
        (cases_eq n m);
  }

  -- what is no output has no line
  pub outs_skip : length lines ≤ n → AreOuts p h o (j + 1) lines
  outs_skip le = record {
    many = k.many;
    each = λ o' j' op q b g w below. ⊎_elim
        (λ old. k.each o' j' op q old g w below)
        (λ here. absurd (let e = a.place_is ∙ ap (place (queue_names p)) (here_is o' j' op q g w here) in omega (arith, e, le, below)))
        (before_next o j o' j' b);
    rest = λ m none. k.rest m (λ o' j' op q b g w. none o' j' op q (before_more o j o' j' b) g w);
  }

-- all ports of an operator
pub outs_op : (p : PlanForm) (h : History) (o n : ℕ) (lines : List (List item.Item)) (ps : List ℕ) → o < length p.ops
    → ps ≡ list_at (write_places p) o → length ps ≤ n → AreOuts p h o n lines → AreOuts p h (o + 1) 0 lines
outs_op p h o n lines ps lt e le k =
    let x = there_is p.ops o lt in
    let long : length ps ≡ length x.0.writes = ap length (e ∙ places_at (λ d. d.writes) (queue_names p) p.ops o x.0 x.1)
    ∙ length-map x.0.writes (place (queue_names p)) in
    record {
      many = k.many;
      each = λ o' j' op q b g w. k.each o' j' op q (⊎_elim
          (λ l. ⊎_elim
          (λ l2. inl l2)
          (λ ge.
          let eo : o' ≡ o = omega (arith, l, ge) in
          let ex : op ≡ x.0 = same_Some op x.0 (sym g ∙ ap (slice_get p.ops) eo ∙ x.1) in
          let b2 = slice_get_within op.writes j' q w in
          let el = ap (λ (y : OpForm). length y.writes) ex in
          inr (eo, omega (arith, b2, el, long, le)))
          (cases_lt o' o))
          (λ z. absurd (let l = z.1 in omega (arith, l)))
          b) g w;
      rest = λ m none. k.rest m (λ o' j' op q b g w. none o' j' op q (inl (⊎_elim (λ l. omega (arith, l)) (λ z. let l = z.0 in omega (arith, l)) b)) g w);
    }

first_got : {A : Type 0} (xs ys : List A) (n : ℕ) (x : A) → n < length xs → slice_get (xs ++ ys) n ≡ Some x → slice_get xs n ≡ Some x
first_got [] ys n x lt g = absurd (omega (arith, lt))
first_got (y ∷ xs) ys zero x lt g = g
first_got (y ∷ xs) ys (suc n) x lt g = first_got xs ys n x (omega (arith, lt)) g

-- lists with the same elements at each place
pub same_lists : {A : Type 0} (xs ys : List A) → length xs ≡ length ys → ((n : ℕ) (x : A) → slice_get xs n ≡ Some x → slice_get ys n ≡ Some x) → xs ≡ ys
same_lists [] [] e h = refl
same_lists [] (y ∷ ys) e h = absurd (omega (arith, e))
same_lists (x ∷ xs) [] e h = absurd (omega (arith, e))
same_lists (x ∷ xs) (y ∷ ys) e h =
    let a : y ≡ x = same_Some y x (h 0 x refl) in
    let r = same_lists xs ys (omega (arith, e)) (λ n z g. h (suc n) z g) in
    ap (λ z. z ∷ xs) (sym a) ∙ ap (λ zs. y ∷ zs) r

-- once all operators were seen the lines are those of the outputs
pub outs_end : (p : PlanForm) (inputs : List (List item.Item)) (lines : List (List item.Item)) → IsPlan p
    → AreOuts p (sent_hist p inputs) (length p.ops) 0 lines
    → lines ≡ (meaning p inputs).outs
outs_end p inputs lines v k =
    let ws = decl_names p.outputs in
    let long : length ws ≡ length p.outputs = length-map p.outputs (λ (d : Decl). d.name) in
    let many = k.many in
    same_lists lines (map (hist p inputs) ws) (many ∙ sym long ∙ sym (length-map ws (hist p inputs)))
    (λ n x g.
    let lt = slice_get_within lines n x g in
    let w = there_is ws n (omega (arith, lt, many, long)) in
    let names = queue_names p in
    let gn : slice_get names n ≡ Some w.0 = got_first ws (decl_names p.inputs ++ decl_names p.queues) n w.0 w.1 in
    let cn = got_count names n w.0 gn in
    let at : place names w.0 ≡ n = place_is names n w.0 (v.queues_once w.0) cn gn in
    let is : list_at lines n ≡ hist p inputs w.0 = ⊎_elim
    (λ more.
    let wr = writer_of p.ops w.0 more in
    let j = place_of wr.1.writes w.0 wr.3 in
    ap (list_at lines) (sym at) ∙ k.each wr.0 j.0 wr.1 w.0 (inl (slice_get_within p.ops wr.0 wr.1 wr.2)) wr.2 j.1 (omega (arith, at, lt))
    ∙ output_held p v w.0 (got_count ws n w.0 w.1) [] (hist p inputs w.0))
    (λ none.
    k.rest n (λ o' j' op q b g2 wq e.
    let same : q ≡ w.0 = place_apart names q w.0 (declared p v o' j' op q g2 wq) cn (e ∙ sym at) in
    let m = at_most (writes_it w.0) p.ops o' op g2 in
    let c = got_count op.writes j' w.0 (wq ∙ ap Some same) in
    omega (arith, m, c, none))
    ∙ sym (stays p.ops (inputs_of (decl_names p.inputs) (list_at inputs)) w.0 none
    ∙ nothing_given (decl_names p.inputs) (list_at inputs) w.0
    (let c1 = got_count ws n w.0 w.1 in
    let o = v.queues_once w.0 in
    let a1 = count-append w.0 ws (decl_names p.inputs ++ decl_names p.queues) in
    let a2 = count-append w.0 (decl_names p.inputs) (decl_names p.queues) in
    omega (arith, c1, o, a1, a2))))
    (more_or_zero (total (writes_it w.0) p.ops)) in
    got_map (hist p inputs) ws n w.0 w.1 ∙ ap Some (sym is ∙ get_or_from_slice_get lines n x [] g))

-- ENDS OF A TASK

-- there is an end for each place that the operator writes
pub ends_there : (p : PlanForm) (h : History) (o j : ℕ) (ps : List ℕ) (outs : List outlet.Outlet) → o < length p.ops
    → ps ≡ list_at (write_places p) o → HasOuts p h o j outs → length outs ≡ length ps
ends_there p h o j ps outs lt e k =
    let x = there_is p.ops o lt in
    k.many x.0 x.1 ∙ sym (ap length (e ∙ places_at (λ d. d.writes) (queue_names p) p.ops o x.0 x.1) ∙ length-map x.0.writes (place (queue_names p)))

-- the end at a port sent the history of the queue there, and kept it if it is an output
pub end_here : (p : PlanForm) (h : History) (o j n : ℕ) (a : PortAt p (λ op. op.writes) o j n) (outs : List outlet.Outlet) (f : outlet.Outlet)
    → HasOuts p h o j outs → j < length outs → f ≡ get_or outs j f → (sent_of f ≡ h a.queue) × (n < length p.outputs → IsStored f)
end_here p h o j n a outs f k lt e =
    let x = k.each j a.op a.queue f (omega arith) a.op_is a.queue_is (slice_get-get_or outs j f lt ∙ ap Some (sym e)) in
    (x.0, λ below. x.1 (let q = a.place_is in omega (arith, q, below)))

-- the ends behind a port
pub ends_next : (p : PlanForm) (h : History) (o j : ℕ) (outs : List outlet.Outlet) → HasOuts p h o j outs → HasOuts p h o (j + 1) outs
ends_next p h o j outs k = record { many = k.many; each = λ i op q f le g w gf. k.each i op q f (omega (arith, le)) g w gf }

-- the ends behind a port, where the end at the port is another
pub ends_set : (p : PlanForm) (h : History) (o j : ℕ) (outs : List outlet.Outlet) (f : outlet.Outlet) → HasOuts p h o j outs
    → HasOuts p h o (j + 1) (set outs j f)
ends_set p h o j outs f k = record {
  many = λ op g. length-set outs j f ∙ k.many op g;
  each = λ i op q x le g w gx. k.each i op q x (omega (arith, le)) g w (sym (set_got_other outs j i f (λ e. omega (arith, e, le))) ∙ gx);
}

-- the tasks behind one
pub tasks_next : (p : PlanForm) (h : History) (o : ℕ) (ts : List Task) (t : Task) → HaveOuts p h o ts → HaveOuts p h (o + 1) (set ts o t)
tasks_next p h o ts t k = record {
  many = length-set ts o t ∙ k.many;
  each = λ i x le g. k.each i x (omega (arith, le)) (sym (set_got_other ts o i t (λ e. omega (arith, e, le))) ∙ g);
}

-- TASKS

module _ (p : PlanForm) (inputs : List (List item.Item)) (caps : Capacities) (net : Net) (v : IsPlan p) (n : IsNetOf p inputs caps net) where
  -- no count is greater than what a value may be
  pub few_counts : All (λ (t : Task). t.count < 2 ^ 63) net.tasks
  few_counts i d lt =
      let k = n.tasks.each i d lt in
      let c = k.count in
      let m = min-le_left most_firings (length k.word) in
      omega (arith, c, m)

  -- the tasks of an idle net sent what queues hold for the histories, and kept that of outputs
  pub have_outs : AreIdle net.tasks → HaveOuts p (sent_hist p inputs) 0 net.tasks
  have_outs idle =
      let whole = whole_net p inputs caps net v n idle in
      record {
        many = n.laid.many;
        each = λ o t le gt.
            let is : get_or net.tasks o t ≡ t = get_or_from_slice_get net.tasks o t t gt in
            let k = n.tasks.each o t (slice_get_within net.tasks o t gt) in
            record {
              many = λ op g.
                  let eo : k.op ≡ op = same_Some k.op op (sym k.op_is ∙ ap (slice_get p.ops) (ap (λ (y : Task). y.op) is ∙ n.laid.numbers o t gt) ∙ g) in
                  sym (ap (λ (y : Task). length y.outs) is) ∙ k.outs ∙ ap (λ (y : OpForm). length y.writes) eo;
              each = λ j op q f lj g w gf. (
                sym (get_or_from_slice_get (map sent_of t.outs) j (sent_of f) [] (got_map sent_of t.outs j f gf)) ∙ whole.sent o j op q t g w gt,
                λ below. n.laid.outputs_are o j op q t f g w (unread q (declared p v o j op q g w) below) gt gf,
              );
            };
      }
    where
      unread : (q : Name) → 0 < count q (queue_names p) → place (queue_names p) q < length p.outputs → total (reads_it q) p.ops ≡ 0
      unread q there below =
          let ws = decl_names p.outputs in
          let long : length ws ≡ length p.outputs = length-map p.outputs (λ (d : Decl). d.name) in
          let g = first_got ws (decl_names p.inputs ++ decl_names p.queues) (place (queue_names p) q) q (omega (arith, below, long))
          (place_at (queue_names p) q there) in
          let c = got_count ws (place (queue_names p) q) q g in
          let o = v.read_once q in
          omega (arith, c, o)

  -- the counts of an idle net are those of the firings
  pub counts_end : AreIdle net.tasks → (counts : List ℤ) → counts ≡ map (λ (t : Task). pos t.count) net.tasks → counts ≡ map pos (firings p inputs)
  counts_end idle counts e =
      let whole = whole_net p inputs caps net v n idle in
      e ∙ both net.tasks p.ops n.laid.many (λ o t op gt g. whole.counts o op t g gt)
    where
      both : (ts : List Task) (ops : List OpForm) → length ts ≡ length ops
          → ((o : ℕ) (t : Task) (op : OpForm) → slice_get ts o ≡ Some t → slice_get ops o ≡ Some op → t.count ≡ firings_of (hist p inputs) op)
          → map (λ (t : Task). pos t.count) ts ≡ map pos (map (firings_of (hist p inputs)) ops)
      both [] [] l h = refl
      both [] (op ∷ ops) l h = absurd (omega (arith, l))
      both (t ∷ ts) [] l h = absurd (omega (arith, l))
      both (t ∷ ts) (op ∷ ops) l h =
          let a = h 0 t op refl refl in
          let r = both ts ops (omega (arith, l)) (λ o y z gy gz. h (suc o) y z gy gz) in
          ap (λ c. pos c ∷ map (λ (y : Task). pos y.count) ts) a ∙ ap (λ (cs : List ℤ). pos (firings_of (hist p inputs) op) ∷ cs) r
