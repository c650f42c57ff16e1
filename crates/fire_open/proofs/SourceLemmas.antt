-- Links are found by the places of queues.
use Rattle.std.proofs.Common.{◌≡◌, ℕ, zero, suc, ◌+◌, ◌<◌, ◌≤◌, ◌⊎◌, inl, inr, ⊎_elim, Option, Some, None, List, [], ◌∷◌, ◌++◌, length, map, sym, ap, ◌∙◌, arith}
use Rattle.std.proofs.Common.{subst, get_or, set, length-append}
use Rattle.std.specs.Prelude.{slice_get, replicate}
use Rattle.std.proofs.lemmas.Bool.{cases_eq, cases_lt}
use Rattle.std.proofs.lemmas.List.{length-map, length-replicate, length-set}
use Rattle.std.proofs.lemmas.Option.{get_or_from_slice_get, slice_get_within, same_Some}
use Rattle.river_base.proofs.Lists.{there_is, got_map, got_first, got_last}
use Rattle.river_base.specs.Places.{list_at}
use Rattle.river_plan.specs.declared.plan.Decl.{Decl}
use Rattle.river_plan.specs.Forms.{Name, OpForm, PlanForm, queue_names, decl_names}
use Rattle.river_plan.specs.Names.{count}
use Rattle.river_plan.specs.Places.{place, places, read_places, write_places}
use Rattle.river_plan.specs.Uses.{reads_it, writes_it}
use Rattle.river_plan.specs.Valid.{IsPlan}
use Rattle.river_plan.proofs.PlaceLemmas.{place_below, place_apart}
use Rattle.brooklet_model.proofs.Traces.{got_count, at_most}
use Rattle.brooklet_step.proofs.ReadLemmas.{places_at}
use Rattle.fire_open.specs.declared.settling.Link.{Link}
use Rattle.fire_open.specs.declared.links.OutPort.{OutPort}
use Rattle.fire_open.specs.Links.{IsLinkOf, AreLinks}
use Rattle.fire_open.specs.Sources.{ComesBefore, WritesAt, KnowWriters, LinkReaders}
use Rattle.fire_open.proofs.Laid.{apart_links}
use Rattle.fire_open.proofs.Lists.{set_got_same, set_got_is, set_got_other}

-- PORTS BY PLACES

-- an operator's port with this number, and the queue at it
pub record PortAt (p : PlanForm) (qs : OpForm → List Name) (o j n : ℕ) : Type 0 where
  pub op : OpForm
  pub queue : Name
  pub op_is : slice_get p.ops o ≡ Some op
  pub queue_is : slice_get (qs op) j ≡ Some queue
  pub place_is : n ≡ place (queue_names p) queue

-- the port of an operator at which a place is read or written
pub port_at : (p : PlanForm) (qs : OpForm → List Name) (o j n d : ℕ) (ps : List ℕ) → o < length p.ops
    → ps ≡ list_at (map (λ op. places (queue_names p) (qs op)) p.ops) o → j < length ps → n ≡ get_or ps j d → PortAt p qs o j n
port_at p qs o j n d ps lt e lj en =
    let x = there_is p.ops o lt in
    let ep = e ∙ places_at qs (queue_names p) p.ops o x.0 x.1 in
    let long : length ps ≡ length (qs x.0) = ap length ep ∙ length-map (qs x.0) (place (queue_names p)) in
    let q = there_is (qs x.0) j (omega (arith, long, lj)) in
    record {
      op = x.0;
      queue = q.0;
      op_is = x.1;
      queue_is = q.1;
      place_is = en ∙ ap (λ (l : List ℕ). get_or l j d) ep
          ∙ get_or_from_slice_get (places (queue_names p) (qs x.0)) j (place (queue_names p) q.0) d (got_map (place (queue_names p)) (qs x.0) j q.0 q.1);
    }

write_declared : (p : PlanForm) → IsPlan p → (o j : ℕ) (op : OpForm) (q : Name) → slice_get p.ops o ≡ Some op → slice_get op.writes j ≡ Some q
    → 0 < count q (queue_names p)
write_declared p v o j op q g w = v.writes_declared q (let a = at_most (writes_it q) p.ops o op g in let c = got_count op.writes j q w in omega (arith, a, c))

read_declared : (p : PlanForm) → IsPlan p → (o j : ℕ) (op : OpForm) (q : Name) → slice_get p.ops o ≡ Some op → slice_get op.reads j ≡ Some q
    → 0 < count q (queue_names p)
read_declared p v o j op q g w = v.reads_declared q (let a = at_most (reads_it q) p.ops o op g in let c = got_count op.reads j q w in omega (arith, a, c))

-- a place that is written is one of a queue
pub write_below : (p : PlanForm) (o j n m : ℕ) → IsPlan p → PortAt p (λ op. op.writes) o j n → m ≡ length (queue_names p) → n < m
write_below p o j n m v a e = let b = place_below (queue_names p) a.queue (write_declared p v o j a.op a.queue a.op_is a.queue_is) in let q =
    a.place_is in omega (arith, b, q, e)

-- a place that is read is one of a queue
pub read_below : (p : PlanForm) (o j n m : ℕ) → IsPlan p → PortAt p (λ op. op.reads) o j n → m ≡ length (queue_names p) → n < m
read_below p o j n m v a e = let b = place_below (queue_names p) a.queue (read_declared p v o j a.op a.queue a.op_is a.queue_is) in let q =
    a.place_is in omega (arith, b, q, e)

-- WHERE QUEUES ARE WRITTEN

none_there : (n i : ℕ) (s : OutPort) → slice_get (replicate n None) i ≡ Some (Some s) → ⊥
none_there zero i s g = cc g
none_there (suc n) zero s g = let e : None ≡ Some s = same_Some None (Some s) g in cc e
none_there (suc n) (suc i) s g = none_there n i s g

none_in_both : (xs ys : List (Option OutPort)) → ((i : ℕ) (s : OutPort) → slice_get xs i ≡ Some (Some s) → ⊥)
    → ((i : ℕ) (s : OutPort) → slice_get ys i ≡ Some (Some s) → ⊥) → (i : ℕ) (s : OutPort) → slice_get (xs ++ ys) i ≡ Some (Some s) → ⊥
none_in_both [] ys h k i s g = k i s g
none_in_both (x ∷ xs) ys h k zero s g = h 0 s g
none_in_both (x ∷ xs) ys h k (suc i) s g = none_in_both xs ys (λ n t e. h (suc n) t e) k i s g

-- before the first operator no writer is known
pub know_first : (p : PlanForm) (a b c : ℕ) (s0 s1 s2 s3 : List (Option OutPort)) → s0 ≡ [] → s1 ≡ s0 ++ replicate a None → s2 ≡ s1 ++ replicate b None
    → s3 ≡ s2 ++ replicate c None → a ≡ length p.outputs → b ≡ length p.inputs → c ≡ length p.queues → KnowWriters p 0 0 s3
know_first p a b c s0 s1 s2 s3 e0 e1 e2 e3 ea eb ec =
    let n1 = λ (i : ℕ) (s : OutPort) (g : slice_get s1 i ≡ Some (Some s)). none_in_both s0 (replicate a None)
    (λ n t h. let z : slice_get [] n ≡ Some (Some t) = ap (λ l. slice_get l n) (sym e0) ∙ h in cc z) (λ n t h. none_there a n t h) i s
    (ap (λ l. slice_get l i) (sym e1) ∙ g) in
    let n2 = λ (i : ℕ) (s : OutPort) (g : slice_get s2 i ≡ Some (Some s)). none_in_both s1 (replicate b None) n1 (λ n t h. none_there b n t h) i s
    (ap (λ l. slice_get l i) (sym e2) ∙ g) in
    let n3 = λ (i : ℕ) (s : OutPort) (g : slice_get s3 i ≡ Some (Some s)). none_in_both s2 (replicate c None) n2 (λ n t h. none_there c n t h) i s
    (ap (λ l. slice_get l i) (sym e3) ∙ g) in
    record {
      many =
          let l0 = ap length e0 in
          let l1 = ap length e1 ∙ length-append s0 (replicate a None) in
          let l2 = ap length e2 ∙ length-append s1 (replicate b None) in
          let l3 = ap length e3 ∙ length-append s2 (replicate c None) in
          let ra = length-replicate {A = Option OutPort} a None in
          let rb = length-replicate {A = Option OutPort} b None in
          let rc = length-replicate {A = Option OutPort} c None in
          let q1 = length-append (decl_names p.outputs) (decl_names p.inputs ++ decl_names p.queues) in
          let q2 = length-append (decl_names p.inputs) (decl_names p.queues) in
          let m1 = length-map p.outputs (λ (d : Decl). d.name) in
          let m2 = length-map p.inputs (λ (d : Decl). d.name) in
          let m3 = length-map p.queues (λ (d : Decl). d.name) in
          omega (arith, l0, l1, l2, l3, ra, rb, rc, q1, q2, m1, m2, m3, ea, eb, ec);
      right = λ n s g. absurd (n3 n s g);
      all = λ o' j' op q b' g w. absurd (⊎_elim (λ l. omega (arith, l)) (λ e. let l = e.1 in omega (arith, l)) b');
    }

-- what comes before the next port comes before this one, or is this one
pub before_next : (o j o' j' : ℕ) → ComesBefore o (j + 1) o' j' → ComesBefore o j o' j' ⊎ ((o ≡ o') × (j ≡ j'))
before_next o j o' j' b = ⊎_elim
    (λ l. inl (inl l))
    (λ e. ⊎_elim (λ l. inl (inr (e.0, l))) (λ ge. inr (sym e.0, (let l = e.1 in omega (arith, l, ge)))) (cases_lt j' j))
    b

-- one port more is known to write its queue
pub know_next : (p : PlanForm) (o j n : ℕ) (ss : List (Option OutPort)) → PortAt p (λ op. op.writes) o j n → n < length ss → KnowWriters p o j ss
    → KnowWriters p o (j + 1) (set ss n (Some (record { writer = o; out = j })))
know_next p o j n ss a lt k =
    let new : OutPort = record { writer = o; out = j } in
    record {
      many = length-set ss n (Some new) ∙ k.many;
      right = λ m s g. ⊎_elim
          (λ e.
          let x : Some s ≡ Some new = set_got_is ss n (Some s) (Some new) (ap (slice_get (set ss n (Some new))) e ∙ g) in
          subst (WritesAt p m) (sym (same_Some s new x))
          (record { queue = a.queue; write = a.op; write_is = a.op_is; writes = a.queue_is; place_is = sym e ∙ a.place_is }))
          (λ ne. k.right m s (sym (set_got_other ss n m (Some new) ne) ∙ g))
          (cases_eq n m);
      all = λ o' j' op q b g w. ⊎_elim
          (λ e. (new, ap (slice_get (set ss n (Some new))) (sym e) ∙ set_got_same ss n (Some new) lt))
          (λ ne. ⊎_elim
          (λ old. let x = k.all o' j' op q old g w in (x.0, set_got_other ss n (place (queue_names p) q) (Some new) ne ∙ x.1))
          (λ here.
          let eo : a.op ≡ op = same_Some a.op op (sym a.op_is ∙ ap (slice_get p.ops) here.0 ∙ g) in
          let eq : a.queue ≡ q = same_Some a.queue q (sym a.queue_is ∙ ap (λ (y : OpForm). slice_get y.writes j) eo ∙ ap (slice_get op.writes) here.1 ∙ w) in
          absurd (ne (a.place_is ∙ ap (place (queue_names p)) eq)))
          (before_next o j o' j' b))
          (cases_eq n (place (queue_names p) q));
    }

-- all ports of an operator
pub know_op : (p : PlanForm) (o n : ℕ) (ss : List (Option OutPort)) (ps : List ℕ) → o < length p.ops → ps ≡ list_at (write_places p) o → length ps ≤ n
    → KnowWriters p o n ss → KnowWriters p (o + 1) 0 ss
know_op p o n ss ps lt e le k =
    let x = there_is p.ops o lt in
    let long : length ps ≡ length x.0.writes = ap length (e ∙ places_at (λ d. d.writes) (queue_names p) p.ops o x.0 x.1)
    ∙ length-map x.0.writes (place (queue_names p)) in
    record {
      many = k.many;
      right = k.right;
      all = λ o' j' op q b g w. k.all o' j' op q (⊎_elim
          (λ l. ⊎_elim
          (λ l2. inl l2)
          (λ ge.
          let eo : o' ≡ o = omega (arith, l, ge) in
          let ex : op ≡ x.0 = same_Some op x.0 (sym g ∙ ap (slice_get p.ops) eo ∙ x.1) in
          let b2 = slice_get_within op.writes j' q w in
          let el = ap (λ (y : OpForm). length y.writes) ex in
          inr (eo, omega (arith, b2, el, long, le)))
          (cases_lt o' o))
          (λ h. absurd (let l = h.1 in omega (arith, l)))
          b) g w;
    }

-- LINKS

-- before the first operator there is no link
pub links_first : (p : PlanForm) (ls : List Link) → ls ≡ [] → LinkReaders p 0 0 ls
links_first p ls e = record {
  right = λ n l g. absurd (let z : slice_get [] n ≡ Some l = ap (λ y. slice_get y n) (sym e) ∙ g in cc z);
  all = λ l x b. absurd (⊎_elim (λ lt. omega (arith, lt)) (λ h. let lt = h.1 in omega (arith, lt)) b);
}

each_snoc : (P : Link → Type 0) (xs : List Link) (x : Link) → ((n : ℕ) (l : Link) → slice_get xs n ≡ Some l → P l) → P x → (n : ℕ) (l : Link)
    → slice_get (xs ++ x ∷ []) n ≡ Some l → P l
each_snoc P [] x h k zero l g = subst P (same_Some x l g) k
each_snoc P [] x h k (suc n) l g = absurd (cc g)
each_snoc P (y ∷ xs) x h k zero l g = h 0 l g
each_snoc P (y ∷ xs) x h k (suc n) l g = each_snoc P xs x (λ m z e. h (suc m) z e) k n l g

module _ (p : PlanForm) (v : IsPlan p) (ss : List (Option OutPort)) (k : KnowWriters p (length p.ops) 0 ss) (o port n : ℕ)
    (a : PortAt p (λ op. op.reads) o port n) (ls : List Link) (h : LinkReaders p o port ls) where
  -- the port that reads is written there
  link_here : (s : OutPort) → slice_get ss n ≡ Some (Some s) → IsLinkOf p (record { writer = s.writer; out = s.out; reader = o; port = port })
  link_here s g =
      let w = k.right n s g in
      let e : w.queue ≡ a.queue =
      place_apart (queue_names p) w.queue a.queue (write_declared p v s.writer s.out w.write w.queue w.write_is w.writes)
      (read_declared p v o port a.op a.queue a.op_is a.queue_is) (sym w.place_is ∙ a.place_is) in
      record {
        queue = w.queue;
        read = a.op;
        write = w.write;
        read_is = a.op_is;
        reads = a.queue_is
            ∙ ap Some (sym e);
        write_is = w.write_is;
        writes = w.writes;
      }

  -- a link of this port
  source_here : (l : Link) → IsLinkOf p l → (o ≡ l.reader) × (port ≡ l.port) → (s : OutPort) × (slice_get ss n ≡ Some (Some s))
  source_here l x e =
      let eo : a.op ≡ x.read = same_Some a.op x.read (sym a.op_is ∙ ap (slice_get p.ops) e.0 ∙ x.read_is) in
      let eq : a.queue ≡ x.queue =
      same_Some a.queue x.queue (sym a.queue_is ∙ ap (λ (y : OpForm). slice_get y.reads port) eo ∙ ap (slice_get x.read.reads) e.1 ∙ x.reads) in
      let s = k.all l.writer l.out x.write x.queue (inl (slice_get_within p.ops l.writer x.write x.write_is)) x.write_is x.writes in
      (s.0, ap (slice_get ss) (a.place_is ∙ ap (place (queue_names p)) eq) ∙ s.1)

  -- one link more
  pub link_more : (s : OutPort) (ls' : List Link) → slice_get ss n ≡ Some (Some s)
      → ls' ≡ ls ++ (record { writer = s.writer; out = s.out; reader = o; port = port }) ∷ [] → LinkReaders p o (port + 1) ls'
  link_more s ls' g e =
      let l0 : Link = record { writer = s.writer; out = s.out; reader = o; port = port } in
      subst (LinkReaders p o (port + 1)) (sym e) (record {
        right = λ m l gl. each_snoc (IsLinkOf p) ls l0 h.right (link_here s g) m l gl;
        all = λ l x b. ⊎_elim
            (λ old. let y = h.all l x old in (y.0, got_first ls (l0 ∷ []) y.0 l y.1))
            (λ here.
            let z : l0 ≡ l = apart_links p v l0 l (link_here s g) x (inl here) in
            (length ls, got_last ls l0 ∙ ap Some z))
            (before_next o port l.reader l.port b);
      })

  -- a port whose queue nobody writes has no link
  pub link_none : slice_get ss n ≡ Some None → LinkReaders p o (port + 1) ls
  link_none g = record {
    right = h.right;
    all = λ l x b. ⊎_elim
        (λ old. h.all l x old)
        (λ here.
        let s = source_here l x here in
        let z : None ≡ Some s.0 = same_Some None (Some s.0) (sym g ∙ s.1) in
        absurd (cc z))
        (before_next o port l.reader l.port b);
  }

-- the links of one operator more
pub links_op : (p : PlanForm) (o n : ℕ) (ls : List Link) (ps : List ℕ) → o < length p.ops → ps ≡ list_at (read_places p) o → length ps ≤ n
    → LinkReaders p o n ls → LinkReaders p (o + 1) 0 ls
links_op p o n ls ps lt e le k =
    let y = there_is p.ops o lt in
    let long : length ps ≡ length y.0.reads = ap length (e ∙ places_at (λ d. d.reads) (queue_names p) p.ops o y.0 y.1)
    ∙ length-map y.0.reads (place (queue_names p)) in
    record {
      right = k.right;
      all = λ l x b. k.all l x (⊎_elim
          (λ lt2. ⊎_elim
          (λ l2. inl l2)
          (λ ge.
          let eo : l.reader ≡ o = omega (arith, lt2, ge) in
          let ex : x.read ≡ y.0 = same_Some x.read y.0 (sym x.read_is ∙ ap (slice_get p.ops) eo ∙ y.1) in
          let b2 = slice_get_within x.read.reads l.port x.queue x.reads in
          let el = ap (λ (z : OpForm). length z.reads) ex in
          inr (eo, omega (arith, b2, el, long, le)))
          (cases_lt l.reader o))
          (λ h. absurd (let l3 = h.1 in omega (arith, l3)))
          b);
    }

-- the links of all operators are those of the plan
pub links_all : (p : PlanForm) (n : ℕ) (ls : List Link) → n ≡ length p.ops → LinkReaders p n 0 ls → AreLinks p ls
links_all p n ls e k = record {
  right = k.right;
  all = λ l x. k.all l x (inl (let b = slice_get_within p.ops l.reader x.read x.read_is in omega (arith, b, e)));
}
