-- Rings of rows stand only where queues have rows of their widths.
use Rattle.std.proofs.Common.{◌≡◌, ℕ, zero, suc, ◌<◌, inl, inr, ⊎_elim, Some, List, [], ◌∷◌, length, map, refl, sym, ap, ◌∙◌, arith, subst}
use Rattle.std.specs.Prelude.{◌⊎◌, slice_get}
use Rattle.std.proofs.lemmas.Option.{slice_get_within, same_Some}
use Rattle.river_base.proofs.Lists.{got_map}
use Rattle.river_base.specs.declared.item.Item as item
use Rattle.river_plan.specs.Forms.{OpForm, PlanForm, all_decls}
use Rattle.river_plan.specs.Kinds.{kind_of}
use Rattle.fire_tasks.specs.declared.task.Task.{Task}
use Rattle.fire_tasks.specs.Fired.{kinds_in, kinds_out}
use Rattle.fire_tasks.specs.Ports.{SendsRows, ring_width, out_end, out_ends}
use Rattle.river_base.specs.WideRows.{rows_type}
use Rattle.fire_tasks.specs.Tasks.{FitRings, IsTask}
use Rattle.fire_open.specs.declared.settling.Link.{Link}
use Rattle.fire_open.specs.Fresh.{AreFresh}
use Rattle.fire_open.specs.Links.{AreLinks, IsLinkOf, IsThere}
use Rattle.fire_open.specs.Rings.{AreThere, TaskBody, body, AreRung}
use Rattle.fire_open.proofs.Lists.{same_got}
use Rattle.fire_open.proofs.RingLemmas.{rung_there}
use Rattle.fire_open.proofs.SettleLemmas.{same_or}

-- what an image at a place is of
map_back : {A B : Type 0} (f : A → B) (xs : List A) (n : ℕ) (y : B) → slice_get (map f xs) n ≡ Some y → (x : A) × (slice_get xs n ≡ Some x) × (f x ≡ y)
map_back f [] n y g = absurd (cc g)
map_back f (x ∷ xs) zero y g = (x, refl, same_Some (f x) y g)
map_back f (x ∷ xs) (suc n) y g = map_back f xs n y g

-- there is a link of these numbers, or none
find_link : (a b : Link → ℕ) (ls : List Link) (o k : ℕ)
    → ((m : ℕ) (l : Link) → m < length ls → slice_get ls m ≡ Some l → (a l ≡ o) × (b l ≡ k) → ⊥)
    ⊎ ((m : ℕ) × (l : Link) × (slice_get ls m ≡ Some l) × (a l ≡ o) × (b l ≡ k))
find_link a b [] o k = inl (λ m l lt g e. absurd (cc g))
find_link a b (x ∷ ls) o k = ⊎_elim
    (λ e. inr (0, x, refl, e.0, e.1))
    (λ ne. ⊎_elim
    (λ free. inl (none ne free))
    (λ h. inr (suc h.0, h.1, h.2, h.3, h.4))
    (find_link a b ls o k))
    (same_or (a x) o (b x) k)
  where
    none : ((a x ≡ o) × (b x ≡ k) → ⊥) → ((m : ℕ) (l : Link) → m < length ls → slice_get ls m ≡ Some l → (a l ≡ o) × (b l ≡ k) → ⊥)
        → (m : ℕ) (l : Link) → m < suc (length ls) → slice_get (x ∷ ls) m ≡ Some l → (a l ≡ o) × (b l ≡ k) → ⊥
    none ne free zero l lt g e = let q : x ≡ l = same_Some x l g in ne (ap a q ∙ e.0, ap b q ∙ e.1)
    none ne free (suc m) l lt g e = free m l (omega (arith, lt)) g e

module _ (p : PlanForm) (inputs : List (List item.Item)) (room : Link → ℕ) (ts0 ts : List Task) (ls : List Link) (h : AreFresh p inputs ts0)
    (links : AreLinks p ls) (there : AreThere ts0 ls) (r : AreRung room ts0 ts ls (length ls)) where
  -- the task before, and its kinds
  kinds_here : (o : ℕ) (t : Task) (op : OpForm) → slice_get ts o ≡ Some t → slice_get p.ops o ≡ Some op → t.kinds ≡ kinds_in p op
  kinds_here o t op g gop =
      let x = same_got body ts ts0 r.bodies o t g in
      let f = h.each o x.0 x.1 in
      let e : f.task.op ≡ op = same_Some f.task.op op (sym f.task.op_is ∙ ap (slice_get p.ops) f.number ∙ gop) in
      ap (λ (b : TaskBody). b.kinds) x.2 ∙ f.task.kinds ∙ ap (kinds_in p) e

  -- the reader of a link whose ring is of rows has rows of this width there
  module _ (m : ℕ) (l : Link) (gl : slice_get ls m ≡ Some l) where
    here : IsThere ts l
    here = rung_there ts0 ts l r.bodies (there.each m l gl)

    lk : IsLinkOf p l
    lk = links.right m l gl

    read_kind : SendsRows (out_end here.out) → slice_get (kinds_in p lk.read) l.port ≡ Some (rows_type (ring_width (out_end here.out)))
    read_kind rows =
        let x = here.ends in
        let w = r.rung m l here.out here.in_ (slice_get_within ls m l gl) gl x in
        sym (ap (λ ks. slice_get ks l.port) (kinds_here l.reader x.t lk.read x.t_is lk.read_is)) ∙ w.2 rows

    write_kind : SendsRows (out_end here.out) → slice_get (kinds_out p lk.write) l.out ≡ Some (rows_type (ring_width (out_end here.out)))
    write_kind rows =
        let kind = kind_of (all_decls p) in
        let wide = rows_type (ring_width (out_end here.out)) in
        let q : kind lk.queue ≡ wide =
        same_Some (kind lk.queue) wide (sym (got_map kind lk.read.reads l.port lk.queue lk.reads) ∙ read_kind rows) in
        got_map kind lk.write.writes l.out lk.queue lk.writes ∙ ap Some q

  -- so the rings fit the queues
  pub rung_fits : (o : ℕ) (t t0 : Task) → slice_get ts o ≡ Some t → (g0 : slice_get ts0 o ≡ Some t0)
      → FitRings (kinds_out p (h.each o t0 g0).task.op) (out_ends t.outs)
  unfolding here lk
  rung_fits o t t0 g g0 j e at rows =
      let i = map_back out_end t.outs j e at in
      ⊎_elim
      (λ free. k.rings j e
      (got_map out_end t0.outs j i.0 (sym (r.outs o j t t0 g g0 free) ∙ i.1) ∙ ap Some i.2) rows)
      (λ f.
      let l = f.1 in
      let n = here f.0 l f.2 in
      let et : n.ends.t' ≡ t = same_Some n.ends.t' t (sym n.ends.t_is' ∙ ap (slice_get ts) f.3 ∙ g) in
      let ei : n.out ≡ i.0 = same_Some n.out i.0
      (sym n.ends.out_is ∙ ap (λ (y : Task). slice_get y.outs l.out) et ∙ ap (slice_get t.outs) f.4 ∙ i.1) in
      let end = ap out_end ei ∙ i.2 in
      let sends = subst SendsRows (sym end) rows in
      let eo : (lk f.0 l f.2).write ≡ op = same_Some (lk f.0 l f.2).write op (sym (lk f.0 l f.2).write_is ∙ ap (slice_get p.ops) f.3 ∙ op_is) in
      sym (ap (λ (y : OpForm). slice_get (kinds_out p y) j) eo) ∙ sym (ap (slice_get (kinds_out p (lk f.0 l f.2).write)) f.4)
      ∙ write_kind f.0 l f.2 sends
      ∙ ap (λ x. Some (rows_type (ring_width x))) end)
      (find_link (λ l. l.writer) (λ l. l.out) ls o j)
    where
      k : IsTask p (λ j. []) t0
      k = (h.each o t0 g0).task

      op : OpForm
      op = k.op

      op_is : slice_get p.ops o ≡ Some op
      op_is = sym (ap (slice_get p.ops) (h.each o t0 g0).number) ∙ k.op_is
