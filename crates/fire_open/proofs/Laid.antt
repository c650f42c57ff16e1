-- What the layout of a net gives, and what keeps it.
use Rattle.std.proofs.Common.{◌≡◌, ℕ, ℤ, ◌<◌, ⊎_elim, Some, List, length, sym, ap, ◌∙◌, arith, subst}
use Rattle.std.specs.Prelude.{slice_get}
use Rattle.std.proofs.lemmas.Option.{get_or_from_slice_get, slice_get_within, same_Some}
use Rattle.river_base.proofs.Lists.{there_is}
use Rattle.river_base.specs.declared.item.Item as item
use Rattle.river_plan.specs.Forms.{OpForm, PlanForm}
use Rattle.river_plan.specs.Uses.{reads_it, writes_it}
use Rattle.river_plan.specs.Valid.{IsPlan}
use Rattle.brooklet_model.proofs.Traces.{one_place, place_once, got_count, at_most}
use Rattle.brooklet_model.specs.Bounded.{Capacities}
use Rattle.brooklet_model.proofs.BoundedMoves.{reader_behind}
use Rattle.fire_tasks.specs.Inlet as inlet
use Rattle.fire_tasks.specs.Outlet as outlet
use Rattle.fire_tasks.specs.Outlet.{SendsTo, Stored}
use Rattle.fire_open.specs.declared.settling.Link.{Link}
use Rattle.fire_tasks.specs.declared.task.Task.{Task}
use Rattle.fire_tasks.specs.Layout.{IsStored, AreLaid, AreTasks, AreSettled, HasEnds}
use Rattle.fire_tasks.specs.Ports.{in_end, out_end}
use Rattle.fire_tasks.specs.Tasks.{TaskEnds, IsTask, ends_of, all_ends}
use Rattle.fire_open.specs.Links.{IsLinkOf, AreLinks, LinkEnds, IsPaired, ArePaired, ShareAnEnd, ShareNoEnd, AreMet}
use Rattle.fire_open.proofs.Lists.{same_got, map_long}
use Rattle.fire_open.proofs.StillLemmas.{link_same, input_same, pair_of}

-- THE SAME ENDS

stored_same : (f f' : outlet.Outlet) → out_end f' ≡ out_end f → IsStored f → IsStored f'
stored_same (SendsTo f) f' e h = absurd h
stored_same (Stored xs) (SendsTo f) e h = absurd (cc e)
stored_same (Stored xs) (Stored ys) e h = tt

-- the layout is known by the ends alone
pub laid_same : (p : PlanForm) (inputs : List (List item.Item)) (caps : Capacities) (ts ts' : List Task) → all_ends ts' ≡ all_ends ts
    → AreLaid p inputs caps ts → AreLaid p inputs caps ts'
laid_same p inputs caps ts ts' e h = record {
  many = map_long ends_of ts' ts e ∙ h.many;
  numbers = λ o t g. let s = same_got ends_of ts' ts e o t g in ap (λ (x : TaskEnds). x.op) s.2 ∙ h.numbers o s.0 s.1;
  rings = λ o o' port j q f i x.
      let r = same_got ends_of ts' ts e o x.t x.t_is in
      let w = same_got ends_of ts' ts e o' x.t' x.t_is' in
      let i0 = same_got in_end x.t.ins r.0.ins (ap (λ (s : TaskEnds). s.ins) r.2) port i x.in_is in
      let f0 = same_got out_end x.t'.outs w.0.outs (ap (λ (s : TaskEnds). s.outs) w.2) j f x.out_is in
      link_same (caps q) f0.0 f i0.0 i f0.2 i0.2
      (h.rings o o' port j q f0.0 i0.0
      (record {
        op = x.op;
        op' = x.op';
        op_is = x.op_is;
        reads = x.reads;
        op_is' = x.op_is';
        writes = x.writes;
        t = r.0;
        t' = w.0;
        t_is = r.1;
        t_is' =
            w.1;
        in_is = i0.1;
        out_is = f0.1;
      }));
  inputs_are = λ o port op q t i g r z gt gi.
      let s = same_got ends_of ts' ts e o t gt in
      let i0 = same_got in_end t.ins s.0.ins (ap (λ (x : TaskEnds). x.ins) s.2) port i gi in
      input_same _ i0.0 i i0.2 (h.inputs_are o port op q s.0 i0.0 g r z s.1 i0.1);
  outputs_are = λ o' j op' q t' f g r z gt gf.
      let s = same_got ends_of ts' ts e o' t' gt in
      let f0 = same_got out_end t'.outs s.0.outs (ap (λ (x : TaskEnds). x.outs) s.2) j f gf in
      stored_same f0.0 f f0.2 (h.outputs_are o' j op' q s.0 f0.0 g r z s.1 f0.1);
}

-- LINKS

-- links of a plan that share an end are one
pub apart_links : (p : PlanForm) → IsPlan p → (l l' : Link) → IsLinkOf p l → IsLinkOf p l' → ShareAnEnd l l' → l ≡ l'
apart_links p v l l' a b s = ⊎_elim
    (λ e. by_queue (reads_same e.0 e.1))
    (λ e. by_queue (writes_same e.0 e.1))
    s
  where
    reads_same : l.reader ≡ l'.reader → l.port ≡ l'.port → a.queue ≡ b.queue
    reads_same er ep =
        let o : a.read ≡ b.read = same_Some a.read b.read (sym a.read_is ∙ ap (slice_get p.ops) er ∙ b.read_is) in
        same_Some a.queue b.queue (sym a.reads ∙ ap (λ (x : OpForm). slice_get x.reads l.port) o ∙ ap (slice_get b.read.reads) ep ∙ b.reads)

    writes_same : l.writer ≡ l'.writer → l.out ≡ l'.out → a.queue ≡ b.queue
    writes_same ew ej =
        let o : a.write ≡ b.write = same_Some a.write b.write (sym a.write_is ∙ ap (slice_get p.ops) ew ∙ b.write_is) in
        same_Some a.queue b.queue (sym a.writes ∙ ap (λ (x : OpForm). slice_get x.writes l.out) o ∙ ap (slice_get b.write.writes) ej ∙ b.writes)

    by_queue : a.queue ≡ b.queue → l ≡ l'
    by_queue q =
        let ro = v.read_once a.queue in
        let wo = v.written_once a.queue in
        let r' : slice_get b.read.reads l'.port ≡ Some a.queue = b.reads ∙ ap Some (sym q) in
        let w' : slice_get b.write.writes l'.out ≡ Some a.queue = b.writes ∙ ap Some (sym q) in
        let er : l.reader ≡ l'.reader =
        one_place (reads_it a.queue) p.ops l.reader l'.reader a.read b.read (omega (arith, ro)) a.read_is b.read_is
        (got_count a.read.reads l.port a.queue a.reads) (got_count b.read.reads l'.port a.queue r') in
        let ew : l.writer ≡ l'.writer =
        one_place (writes_it a.queue) p.ops l.writer l'.writer a.write b.write (omega (arith, wo)) a.write_is b.write_is
        (got_count a.write.writes l.out a.queue a.writes) (got_count b.write.writes l'.out a.queue w') in
        let or : a.read ≡ b.read = same_Some a.read b.read (sym a.read_is ∙ ap (slice_get p.ops) er ∙ b.read_is) in
        let ow : a.write ≡ b.write = same_Some a.write b.write (sym a.write_is ∙ ap (slice_get p.ops) ew ∙ b.write_is) in
        let mr = at_most (reads_it a.queue) p.ops l.reader a.read a.read_is in
        let mw = at_most (writes_it a.queue) p.ops l.writer a.write a.write_is in
        let ep : l.port ≡ l'.port =
        place_once a.read.reads l.port l'.port a.queue (omega (arith, ro, mr)) a.reads (ap (λ (x : OpForm). slice_get x.reads l'.port) or ∙ r') in
        let ej : l.out ≡ l'.out =
        place_once a.write.writes l.out l'.out a.queue (omega (arith, wo, mw)) a.writes (ap (λ (x : OpForm). slice_get x.writes l'.out) ow ∙ w') in
        λ i. record { writer = ew i; out = ej i; reader = er i; port = ep i }

-- no two links of a plan share an end
pub apart_net : (p : PlanForm) (ls : List Link) → IsPlan p → AreLinks p ls → ShareNoEnd ls
apart_net p ls v k = record { each = λ m n l l' g g' s. apart_links p v l l' (k.right m l g) (k.right n l' g') s }

-- THE TASKS OF A NET

-- the task of an operator, with an end for each of its ports
pub record TaskAt (p : PlanForm) (ts : List Task) (o : ℕ) (op : OpForm) : Type 0 where
  pub t : Task
  pub t_is : slice_get ts o ≡ Some t
  pub ins : length t.ins ≡ length op.reads
  pub outs : length t.outs ≡ length op.writes

-- each operator has its task
pub task_at : (p : PlanForm) (inputs : List (List item.Item)) (caps : Capacities) (adds : ℕ → ℕ → List (List ℤ)) (ts : List Task)
    → AreLaid p inputs caps ts → AreTasks p adds ts → (o : ℕ) (op : OpForm) → slice_get p.ops o ≡ Some op → TaskAt p ts o op
task_at p inputs caps adds ts laid tasks o op g =
    let lt : o < length ts = (let b = slice_get_within p.ops o op g in let m = laid.many in omega (arith, b, m)) in
    let x = there_is ts o lt in
    let k : IsTask p (adds x.0.op) x.0 = subst (λ (y : Task). IsTask p (adds y.op) y) (get_or_from_slice_get ts o x.0 x.0 x.1) (tasks.each o x.0 lt) in
    let n = laid.numbers o x.0 x.1 in
    let e : k.op ≡ op = same_Some k.op op (sym k.op_is ∙ ap (slice_get p.ops) n ∙ g) in
    record { t = x.0; t_is = x.1; ins = k.ins ∙ ap (λ (y : OpForm). length y.reads) e; outs = k.outs ∙ ap (λ (y : OpForm). length y.writes) e }

pub ends_of_link : (p : PlanForm) (inputs : List (List item.Item)) (caps : Capacities) (adds : ℕ → ℕ → List (List ℤ)) (ts : List Task) (l : Link)
    (k : IsLinkOf p l) (f : outlet.Outlet) (i : inlet.Inlet) → LinkEnds ts l f i → HasEnds p ts l.reader l.writer l.port l.out k.queue f i
ends_of_link p inputs caps adds ts l k f i x =
    record {
      op = k.read;
      op' = k.write;
      op_is = k.read_is;
      reads = k.reads;
      op_is' = k.write_is;
      writes = k.writes;
      t = x.t;
      t' = x.t';
      t_is = x.t_is;
      t_is' =
          x.t_is';
      in_is = x.in_is;
      out_is = x.out_is;
    }

pub paired_link : (p : PlanForm) (inputs : List (List item.Item)) (caps : Capacities) (adds : ℕ → ℕ → List (List ℤ)) (ts : List Task) → IsPlan p
    → AreLaid p inputs caps ts → AreTasks p adds ts → (l : Link) → IsLinkOf p l → IsPaired ts l
paired_link p inputs caps adds ts v laid tasks l k =
    let r = task_at p inputs caps adds ts laid tasks l.reader k.read k.read_is in
    let w = task_at p inputs caps adds ts laid tasks l.writer k.write k.write_is in
    let i = there_is r.t.ins l.port (let a = r.ins in let b = slice_get_within k.read.reads l.port k.queue k.reads in omega (arith, a, b)) in
    let f = there_is w.t.outs l.out (let a = w.outs in let b = slice_get_within k.write.writes l.out k.queue k.writes in omega (arith, a, b)) in
    let ends : LinkEnds ts l f.0 i.0 = record { t = r.t; t' = w.t; t_is = r.t_is; t_is' = w.t_is; in_is = i.1; out_is = f.1 } in
    record {
      order = reader_behind p v l.writer l.reader k.write k.read k.queue k.write_is (got_count k.write.writes l.out k.queue k.writes) k.read_is
          (got_count k.read.reads l.port k.queue k.reads);
      out = f.0;
      in_ = i.0;
      ends = ends;
      pair = pair_of (caps k.queue) f.0 i.0 (laid.rings l.reader l.writer l.port l.out k.queue f.0 i.0 (ends_of_link p inputs caps adds ts l k f.0 i.0 ends));
    }

-- the two ends of each link are those of one ring
pub paired_net : (p : PlanForm) (inputs : List (List item.Item)) (caps : Capacities) (adds : ℕ → ℕ → List (List ℤ)) (ts : List Task) (ls : List Link)
    → IsPlan p → AreLaid p inputs caps ts → AreTasks p adds ts → AreLinks p ls → ArePaired ts ls
paired_net p inputs caps adds ts ls v laid tasks k = record { each = λ n l g. paired_link p inputs caps adds ts v laid tasks l (k.right n l g) }

-- once all links have looked, all rings are settled
pub settled_by : (p : PlanForm) (ts : List Task) (ls : List Link) → AreLinks p ls → AreMet ts ls (length ls) → AreSettled p ts
settled_by p ts ls k m = record {
  each = λ o o' port j q f i x.
      let l : Link = record { writer = o'; out = j; reader = o; port = port } in
      let a = k.all l (record { queue = q; read = x.op; write = x.op'; read_is = x.op_is; reads = x.reads; write_is = x.op_is'; writes = x.writes }) in
      m.each a.0 l f i (slice_get_within ls a.0 l a.1) a.1 (record { t = x.t; t' = x.t'; t_is = x.t_is; t_is' = x.t_is'; in_is = x.in_is; out_is = x.out_is });
}
