-- Rings are put between tasks, one after another.
use Rattle.std.proofs.Common.{◌≡◌, ℕ, ◌+◌, ◌<◌, inl, inr, ⊎_elim, Some, List, [], length, map, refl, sym, ap, ◌∙◌, arith, subst, get_or, set, ◌++◌, get_or-set_other}
use Rattle.std.specs.Prelude.{slice_get}
use Rattle.std.proofs.lemmas.Bool.{cases_lt}
use Rattle.std.proofs.lemmas.Option.{get_or_from_slice_get, slice_get_within, same_Some}
use Rattle.std.proofs.lemmas.List.{get_or_default}
use Rattle.river_base.proofs.Lists.{there_is}
use Rattle.river_base.specs.Places.{list_at}
use Rattle.fire_tasks.specs.Inlet as inlet
use Rattle.fire_tasks.specs.Inlet.{TakesFrom}
use Rattle.fire_tasks.specs.Outlet as outlet
use Rattle.fire_tasks.specs.Outlet.{SendsTo}
use Rattle.river_rings.specs.Ends.{Sending, Taking}
use Rattle.fire_open.specs.declared.settling.Link.{Link}
use Rattle.fire_tasks.specs.declared.task.Task.{Task}
use Rattle.fire_tasks.specs.Layout.{IsLink, IsSettled}
use Rattle.fire_tasks.specs.Ports.{SendsRows, out_end, ring_width, sent_of, sent_in, received_of, received_in}
use Rattle.river_base.specs.WideRows.{rows_type}
use Rattle.fire_open.specs.Settling.{with_out, with_in}
use Rattle.fire_tasks.proofs.NetLemmas.{received_here, sent_here}
use Rattle.fire_tasks.proofs.PortLemmas.{received_same}
use Rattle.fire_open.specs.Links.{FitsLink, IsBlankRing, LinkEnds, IsThere, Put, ShareAnEnd}
use Rattle.fire_open.specs.Rings.{AreUnmoved, AreThere, TaskBody, body, AreRung}
use Rattle.fire_open.proofs.Lists.{same_got, map_long}
use Rattle.fire_open.proofs.SettleLemmas.{after_task, view_stays, same_or, sent_stays, reader_is, writer_is}

-- before the first link no ring was put
pub rung_first : (room : Link → ℕ) (ts : List Task) (ls : List Link) → AreRung room ts ts ls 0
rung_first room ts ls = record {
  bodies = refl;
  rung = λ m l f i lt. absurd (omega (arith, lt));
  ins = λ o port t t0 g g0 no. let e : t ≡ t0 = same_Some t t0 (sym g ∙ g0) in ap (λ (x : Task). slice_get x.ins port) e;
  outs = λ o j t t0 g g0 no. let e : t ≡ t0 = same_Some t t0 (sym g ∙ g0) in ap (λ (x : Task). slice_get x.outs j) e;
}

ins_long : (t t0 : Task) → body t ≡ body t0 → length t.ins ≡ length t0.ins
ins_long t t0 e = map_long received_of t.ins t0.ins (ap (λ (b : TaskBody). b.seen.received) e)

outs_long : (t t0 : Task) → body t ≡ body t0 → length t.outs ≡ length t0.outs
outs_long t t0 e = map_long sent_of t.outs t0.outs (ap (λ (b : TaskBody). b.seen.sent) e)

-- tasks with the same bodies moved nothing either
pub bodies_unmoved : (ts0 ts : List Task) → map body ts ≡ map body ts0 → AreUnmoved ts0 → AreUnmoved ts
bodies_unmoved ts0 ts e u = record {
  ins = λ o port t i g gi.
      let x = same_got body ts ts0 e o t g in
      let i0 = there_is x.0.ins port (let l = ins_long t x.0 x.2 in let b = slice_get_within t.ins port i gi in omega (arith, l, b)) in
      sym (received_here t.ins port i gi) ∙ ap (λ (b : TaskBody). list_at b.seen.received port) x.2 ∙ received_here x.0.ins port i0.0 i0.1
      ∙ u.ins o port x.0 i0.0 x.1 i0.1;
  outs = λ o j t f g gf.
      let x = same_got body ts ts0 e o t g in
      let f0 = there_is x.0.outs j (let l = outs_long t x.0 x.2 in let b = slice_get_within t.outs j f gf in omega (arith, l, b)) in
      sym (sent_here t.outs j f gf) ∙ ap (λ (b : TaskBody). list_at b.seen.sent j) x.2 ∙ sent_here x.0.outs j f0.0 f0.1 ∙ u.outs o j x.0 f0.0 x.1 f0.1;
}

-- and have the ends of each link still
pub rung_there : (ts0 ts : List Task) (l : Link) → map body ts ≡ map body ts0 → IsThere ts0 l → IsThere ts l
rung_there ts0 ts l e h =
    let r = same_got body ts0 ts (sym e) l.reader h.ends.t h.ends.t_is in
    let w = same_got body ts0 ts (sym e) l.writer h.ends.t' h.ends.t_is' in
    let i = there_is r.0.ins l.port
    (let a = ins_long h.ends.t r.0 r.2 in let b = slice_get_within h.ends.t.ins l.port h.in_ h.ends.in_is in omega (arith, a, b)) in
    let f = there_is w.0.outs l.out
    (let a = outs_long h.ends.t' w.0 w.2 in let b = slice_get_within h.ends.t'.outs l.out h.out h.ends.out_is in omega (arith, a, b)) in
    record { order = h.order; out = f.0; in_ = i.0; ends = record { t = r.0; t' = w.0; t_is = r.1; t_is' = w.1; in_is = i.1; out_is = f.1 } }

-- what is asked where a ring is put
pub record AsksThere (ts : List Task) (l : Link) : Type 0 where
  pub order : l.writer < l.reader
  pub reader : l.reader < length ts
  pub out : (d : Task) → l.out < length (get_or ts l.writer d).outs
  pub port : (d : Task) → l.port < length (get_or ts l.reader d).ins

-- what is asked where the next ring is put
pub asks_there : (room : Link → ℕ) (ts0 ts : List Task) (ls : List Link) (n : ℕ) (l : Link) → AreThere ts0 ls → AreRung room ts0 ts ls n
    → slice_get ls n ≡ Some l → AsksThere ts l
asks_there room ts0 ts ls n l th h g =
    let p = rung_there ts0 ts l h.bodies (th.each n l g) in
    let x = p.ends in
    record {
      order = p.order;
      reader = slice_get_within ts l.reader x.t x.t_is;
      out = λ d. subst (λ (y : Task). l.out < length y.outs) (sym (get_or_from_slice_get ts l.writer x.t' d x.t_is'))
          (slice_get_within x.t'.outs l.out p.out x.out_is);
      port = λ d. subst (λ (y : Task). l.port < length y.ins) (sym (get_or_from_slice_get ts l.reader x.t d x.t_is))
          (slice_get_within x.t.ins l.port p.in_ x.in_is);
    }

-- ONE LINK MORE HAS ITS RING

module _ (room : Link → ℕ) (ts0 ts ts' : List Task) (ls : List Link) (n : ℕ) (l : Link) (th : AreThere ts0 ls) (g : slice_get ls n ≡ Some l)
    (h : AreRung room ts0 ts ls n) (put : Put (room l) ts ts' l) where
  -- the link stands in the tasks
  there : IsThere ts l
  there = rung_there ts0 ts l h.bodies (th.each n l g)

  -- nothing was moved yet
  unmoved : AreUnmoved ts
  unmoved = bodies_unmoved ts0 ts h.bodies th.unmoved

  old_out : sent_of (get_or put.swapped.writer.outs l.out put.out) ≡ []
  old_out = ap (λ (y : Task). sent_of (get_or y.outs l.out put.out)) (writer_is ts ts' l put.out put.in_ there put.swapped)
      ∙ ap sent_of (get_or_from_slice_get there.ends.t'.outs l.out there.out put.out there.ends.out_is)
      ∙ unmoved.outs l.writer l.out there.ends.t' there.out there.ends.t_is' there.ends.out_is

  old_in : received_of (get_or put.swapped.reader.ins l.port put.in_) ≡ []
  old_in = ap (λ (y : Task). received_of (get_or y.ins l.port put.in_)) (reader_is ts ts' l put.out put.in_ there put.swapped)
      ∙ ap received_of (get_or_from_slice_get there.ends.t.ins l.port there.in_ put.in_ there.ends.in_is)
      ∙ unmoved.ins l.reader l.port there.ends.t there.in_ there.ends.t_is there.ends.in_is

  -- so the tasks do the same
  bodies_stay : map body ts' ≡ map body ts
  bodies_stay =
      let w = put.swapped.writer in
      let r = put.swapped.reader in
      let es = sent_stays w.outs l.out put.out (put.sent ∙ sym old_out) in
      let er = received_same r.ins l.port put.in_ (put.received ∙ sym old_in) in
      view_stays ts ts' l put.out put.in_ there put.swapped body
      (λ j. record {
        op = w.op;
        seen = record { received = received_in w.ins; sent = es j; pending = w.pending; bad = w.bad };
        kinds =
            w.kinds;
        states = w.states;
        pending = w.pending;
        out = w.out;
        tables = w.tables;
        classes = w.classes;
        count = w.count;
      })
      (λ j. record {
        op = r.op;
        seen = record { received = er j; sent = sent_in r.outs; pending = r.pending; bad = r.bad };
        kinds =
            r.kinds;
        states = r.states;
        pending = r.pending;
        out = r.out;
        tables = r.tables;
        classes = r.classes;
        count = r.count;
      })

  -- a task has the kinds that it had
  kinds_here : (o : ℕ) (t' t : Task) → slice_get ts' o ≡ Some t' → slice_get ts o ≡ Some t → t'.kinds ≡ t.kinds
  kinds_here o t' t g' g =
      let x = same_got body ts' ts bodies_stay o t' g' in
      let e : x.0 ≡ t = same_Some x.0 t (sym x.1 ∙ g) in
      ap (λ (b : TaskBody). b.kinds) x.2 ∙ ap (λ (y : Task). y.kinds) e

  -- the new ring fits
  new_fits : (t' : Task) → slice_get ts' l.reader ≡ Some t' → FitsLink t' l put.out
  new_fits t' g' values =
      let e : put.swapped.reader ≡ there.ends.t =
      sym (put.swapped.reader_is there.ends.t) ∙ get_or_from_slice_get ts l.reader there.ends.t there.ends.t there.ends.t_is in
      ap (λ ks. slice_get ks l.port) (kinds_here l.reader t' there.ends.t g' there.ends.t_is ∙ ap (λ (y : Task). y.kinds) (sym e)) ∙ put.fits values

  -- the link that got its ring
  itself : (f : outlet.Outlet) (i : inlet.Inlet) → (x : LinkEnds ts' l f i) → IsLink (room l) f i × IsSettled f i × FitsLink x.t l f
  itself f i x =
      let ar = after_task ts ts' l put.out put.in_ there put.swapped l.reader x.t x.t_is in
      let aw = after_task ts ts' l put.out put.in_ there put.swapped l.writer x.t' x.t_is' in
      subst (λ z. IsLink (room l) z i × IsSettled z i × FitsLink x.t l z) (sym (aw.new_out refl f x.out_is))
      (subst (λ z. IsLink (room l) put.out z × IsSettled put.out z × FitsLink x.t l put.out) (sym (ar.new_in refl i x.in_is)) (put.link, put.settled, new_fits x.t x.t_is))

  -- where the link is the one that got its ring
  by_link : (l2 : Link) → l ≡ l2 → (f : outlet.Outlet) (i : inlet.Inlet) (x : LinkEnds ts' l2 f i) → IsLink (room l2) f i × IsSettled f i × FitsLink x.t l2 f
  by_link l2 e = subst (λ y. (f : outlet.Outlet) (i : inlet.Inlet) (x : LinkEnds ts' y f i) → IsLink (room y) f i × IsSettled f i × FitsLink x.t y f) e itself

  -- two links that share an end are one
  same_one : (k : ℕ) (l2 : Link) (f : outlet.Outlet) (i : inlet.Inlet) → slice_get ls k ≡ Some l2 → (x : LinkEnds ts' l2 f i) → ShareAnEnd l l2
      → IsLink (room l2) f i × IsSettled f i × FitsLink x.t l2 f
  same_one k l2 f i g2 x s = by_link l2 (th.apart.each n k l l2 g g2 s) f i x

  -- a link that shares no end with it is as it was
  other_link : (k : ℕ) (l2 : Link) (f : outlet.Outlet) (i : inlet.Inlet) → k < n + 1 → slice_get ls k ≡ Some l2 → (x : LinkEnds ts' l2 f i)
      → ((l.reader ≡ l2.reader) × (l.port ≡ l2.port) → ⊥) → ((l.writer ≡ l2.writer) × (l.out ≡ l2.out) → ⊥)
      → IsLink (room l2) f i × IsSettled f i × FitsLink x.t l2 f
  other_link k l2 f i lt g2 x nr nw =
      let ar = after_task ts ts' l put.out put.in_ there put.swapped l2.reader x.t x.t_is in
      let aw = after_task ts ts' l put.out put.in_ there put.swapped l2.writer x.t' x.t_is' in
      let other : n ≡ k → ⊥ =
      (λ e. nr (let q : l ≡ l2 = same_Some l l2 (sym g ∙ ap (slice_get ls) e ∙ g2) in (ap (λ (y : Link). y.reader) q, ap (λ (y : Link). y.port) q))) in
      let was = h.rung k l2 f i (⊎_elim (λ z. z) (λ ge. absurd (other (omega (arith, ge, lt)))) (cases_lt k n)) g2 (record {
        t = ar.t;
        t' = aw.t;
        t_is = ar.t_is;
        t_is' = aw.t_is;
        in_is = sym (ar.ins l2.port nr) ∙ x.in_is;
        out_is = sym (aw.outs l2.out nw) ∙ x.out_is;
      }) in (
        was.0,
        was.1,
        λ values. ap (λ ks. slice_get ks l2.port) (kinds_here l2.reader x.t ar.t x.t_is ar.t_is) ∙ was.2 values,
      )

  each : (k : ℕ) (l2 : Link) (f : outlet.Outlet) (i : inlet.Inlet) → k < n + 1 → slice_get ls k ≡ Some l2 → (x : LinkEnds ts' l2 f i)
      → IsLink (room l2) f i × IsSettled f i × FitsLink x.t l2 f
  each k l2 f i lt g2 x = ⊎_elim
      (λ e. same_one k l2 f i g2 x (inl e))
      (λ nr. ⊎_elim (λ e. same_one k l2 f i g2 x (inr e)) (λ nw. other_link k l2 f i lt g2 x nr nw) (same_or l.writer l2.writer l.out l2.out))
      (same_or l.reader l2.reader l.port l2.port)

  -- all links up to this one have their rings
  pub rung_next : AreRung room ts0 ts' ls (n + 1)
  rung_next = record {
    bodies = bodies_stay ∙ h.bodies;
    rung = λ k l2 f i lt g2 x. each k l2 f i lt g2 x;
    ins = λ o port t' t0 gt g0 no.
        let a = after_task ts ts' l put.out put.in_ there put.swapped o t' gt in
        a.ins port (no n l (omega arith) g) ∙ h.ins o port a.t t0 a.t_is g0 (λ m k lt. no m k (omega (arith, lt)));
    outs = λ o j t' t0 gt g0 no.
        let a = after_task ts ts' l put.out put.in_ there put.swapped o t' gt in
        a.outs j (no n l (omega arith) g) ∙ h.outs o j a.t t0 a.t_is g0 (λ m k lt. no m k (omega (arith, lt)));
  }

-- an empty ring was put there
pub put_is : (cap : ℕ) (ts : List Task) (l : Link) (out : outlet.Outlet) (in_ : inlet.Inlet) (w r : Task) → w ≡ get_or ts l.writer w
    → r ≡ get_or (set ts l.writer (with_out w l.out out)) l.reader r → l.writer < l.reader → l.reader < length ts → IsBlankRing cap out in_
    → ((d : Task) → SendsRows (out_end out) → slice_get (get_or ts l.reader d).kinds l.port ≡ Some (rows_type (ring_width (out_end out))))
    → Put cap ts (set (set ts l.writer (with_out w l.out out)) l.reader (with_in r l.port in_)) l
put_is cap ts l out in_ w r wi ri lt lr h fit = record {
  out = out;
  in_ = in_;
  swapped = record {
    writer = w;
    reader = r;
    writer_is = λ d. sym (wi ∙ get_or_default ts l.writer w d (omega (arith, lt, lr)));
    reader_is = λ d. sym (reader_is ∙ get_or_default ts l.reader r d lr);
    after = refl;
  };
  link = h.link;
  settled = h.settled;
  fits = λ rows. subst (λ (y : Task). slice_get y.kinds l.port ≡ Some (rows_type (ring_width (out_end out)))) (sym reader_is) (fit r rows);
  sent = h.sent;
  received = h.received;
}
  where
    reader_is : r ≡ get_or ts l.reader r
    reader_is = ri ∙ get_or-set_other ts l.writer l.reader (with_out w l.out out) r (λ e. omega (arith, e, lt))

-- the ends of an empty ring, as they are seen
pub blank_ring : (cap : ℕ) (feed : Sending) (take : Taking) → take.id ≡ feed.id → (feed.cap ≡ cap) × (feed.sent ≡ []) × (feed.waiting ≡ 0)
    → (take.cap ≡ cap) × (take.received ≡ []) × (take.known ≡ []) → IsBlankRing cap (SendsTo feed) (TakesFrom take)
blank_ring cap feed take id f t = record {
  link = (id, t.0, f.0);
  settled = (
    (λ j. t.1 j ++ t.2 j) ∙ sym f.1,
    (let k = ap length t.2 in omega (arith, k)),
    (let w = f.2 in omega (arith, w)),
  );
  sent = f.1;
  received = t.1;
}
