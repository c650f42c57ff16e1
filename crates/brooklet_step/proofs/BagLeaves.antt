-- What steps of kernels on bags need, from what a firing can take.
use Rattle.std.proofs.Common.{◌≡◌, ℕ, zero, suc, ℤ, ◌<◌, true, ◌&&◌, List, [], ◌∷◌, length, refl, sym, ap, ◌∙◌, subst}
use Rattle.std.specs.Prelude.{nat_le}
use Rattle.std.specs.List.{AllByRecursion, list_all}
use Rattle.std.proofs.lemmas.Bool.{and_parts}
use Rattle.river_kernels.proofs.WellFormed.{term_within, terms_within}
use Rattle.river_base.proofs.Tests.{le_by}
use Rattle.river_base.specs.declared.item.Batch.{Batch}
use Rattle.river_base.specs.declared.item.Change.{Change}
use Rattle.river_base.specs.declared.item.Item as item
use Rattle.river_base.specs.declared.item.Flat as flat
use Rattle.river_base.specs.declared.item.Item.TheVariants.{Flat, Pack}
use Rattle.river_base.specs.declared.item.Flat.TheVariants.{One, Batch as Batched, Change as Changed}
use Rattle.river_base.specs.declared.kind.FlatType.{FlatType}
use Rattle.river_base.specs.declared.kind.FlatType.TheVariants.{Rows, Stream, Relation}
use Rattle.river_base.specs.declared.kind.QueueType.TheVariants.{Flat as FlatOf}
use Rattle.river_base.specs.Held.{IsHeld, HaveWidth}
use Rattle.work_code.specs.Term.{Term}
use Rattle.work_code.specs.Value.{IsWithin}
use Rattle.kern_bags.specs.Following.{CrossKept, put_change, IsCrossOf}
use Rattle.kern_bags.specs.Kept.{WindowKept, IsWindowKept}
use Rattle.kern_bags.specs.Needs.{CanRead, CanProject}
use Rattle.kern_bags.specs.Takes.{CanReadBoth, CanReadFlat, CanProjectBoth, CanProjectFlat, CanCrossChanges, CanCrossFlat}
use Rattle.kern_bags.specs.declared.kernel.Streamer.{Streamer}
use Rattle.kern_bags.specs.declared.kernel.Window.{Window}
use Rattle.river_base.specs.Changes.{IsChanged}
use Rattle.river_kernels.specs.Fits.{stream, relation, is_sized, is_bag, width_of}
use Rattle.river_kernels.specs.Formed.{is_width, is_term}
use Rattle.river_kernels.specs.Kern.{window, select, project, cross, streamer}
use Rattle.brooklet_step.specs.declared.emit.Emit.{Emit}
use Rattle.brooklet_step.specs.declared.state.State.{State}
use Rattle.brooklet_step.specs.declared.state.State.TheVariants as state
use Rattle.brooklet_step.specs.Stands.{IsBatch, IsChange, IsFlat}
use Rattle.brooklet_step.specs.Given.{IsHeldOf, FitCross, CanTake}
use Rattle.brooklet_step.proofs.OnePort.{held_first, held_change, stream_holds, relation_holds, batch_type, change_type, one_list}
use Rattle.brooklet_step.proofs.WindowFires.{same_window}
use Rattle.brooklet_step.proofs.CrossFires.{same_crossing, put_wide}

-- ITEMS

same_flat : (f g : flat.Flat) → Flat f ≡ Flat g → f ≡ g
same_flat f g h = cc

-- a change is no pack
pub change_flat : (i : item.Item) → IsChange i → IsFlat i
change_flat i h = record { content = Changed h.change; is = h.is; holds = tt }

-- and what it is, is a change
pub flat_changed : (f : flat.Flat) (i : item.Item) → Flat f ≡ i → IsChange i → IsChanged f
flat_changed f i e h = record { change = h.change; is = same_flat f (Changed h.change) (e ∙ h.is) }

-- WINDOWS

module _ (v : Window) (i : item.Item) (s : State) (out : Emit) (t : CanTake (window v) 0 i (s ∷ []) out) where
  -- what a window takes is a batch
  pub window_item : IsBatch i
  window_item =
      let f = t.fitting.fits in
      let h = stream_holds f.0 i (held_first (stream f.0) 0 i (subst (λ l. IsHeldOf l 0 i) f.1 t.item)) in
      record { batch = h.batch; is = h.is }

  -- what it keeps it keeps of some batches
  pub window_kept : (now : WindowKept) → s ≡ state.Window now → IsWindowKept v now
  window_kept now e =
      let h = t.fitting.state in
      subst (IsWindowKept v) (same_window h.now now (sym h.code ∙ ap (λ u. u ∷ []) e)) h.kept

  -- and there is a list for what it gives
  pub window_room : 0 < length out.outs
  window_room = one_list (window v) out refl t.room

-- EXPRESSIONS

can_read : (n : ℕ) (e : Term) (rows : List (List ℤ)) → is_term n 0 e ≡ true → HaveWidth n rows → CanRead e rows
can_read n e rows g h = λ k d lt. subst (λ m. IsWithin m 0 e) (sym (h k d lt)) (term_within n 0 e g)

-- SELECTIONS

pub read_type : (t : FlatType) (n : ℕ) (e : Term) → (is_sized t && (is_bag t && is_term (width_of t) 0 e)) ≡ true → width_of t ≡ n → is_term n 0 e ≡ true
read_type t n e g h =
    let p = and_parts (is_sized t) (is_bag t && is_term (width_of t) 0 e) g in
    subst (λ w. is_term w 0 e ≡ true) h (and_parts (is_bag t) (is_term (width_of t) 0 e) p.1).1

-- a selection can read the rows of a batch that it takes
select_rows_can : (e : Term) (b : Batch) (st : List State) (out : Emit) → CanTake (select e) 0 (Flat (Batched b)) st out → CanRead e b.rows
select_rows_can e b st out t =
    let f = t.fitting.fits in
    let i : item.Item = Flat (Batched b) in
    let k = batch_type f.0 b (held_first (FlatOf f.0) 0 i (subst (λ l. IsHeldOf l 0 i) f.1 t.item)) in
    can_read k.0 e b.rows (read_type f.0 k.0 e f.4 (ap width_of k.1)) k.2

-- and those of a change
select_can : (e : Term) (c : Change) (st : List State) (out : Emit) → CanTake (select e) 0 (Flat (Changed c)) st out → CanReadBoth e c
select_can e c st out t =
    let f = t.fitting.fits in
    let i : item.Item = Flat (Changed c) in
    let k = change_type f.0 c (held_first (FlatOf f.0) 0 i (subst (λ l. IsHeldOf l 0 i) f.1 t.item)) in
    let g = read_type f.0 k.0 e f.4 (ap width_of k.1) in
    record { plus = can_read k.0 e c.plus g k.2.wide.plus; minus = can_read k.0 e c.minus g k.2.wide.minus }

-- so it can read what it takes
pub select_flat_can : (e : Term) (f : flat.Flat) (st : List State) (out : Emit) → CanTake (select e) 0 (Flat f) st out → CanReadFlat e f
select_flat_can e (One row) st out t = tt
select_flat_can e (Batched b) st out t = select_rows_can e b st out t
select_flat_can e (Changed c) st out t = select_can e c st out t

no_row : (t : FlatType) (row : List ℤ) → is_bag t ≡ true → IsHeld (FlatOf t) (Flat (One row)) → ⊥
unfolding IsHeld
no_row (Rows n) row g h = cc g
no_row (Stream n) row g h = h
no_row (Relation n) row g h = h

no_pack : (t : FlatType) (fs : List flat.Flat) → IsHeld (FlatOf t) (Pack fs) → ⊥
unfolding IsHeld
no_pack t fs h = h

-- it takes no row
pub select_no_row : (e : Term) (row : List ℤ) (st : List State) (out : Emit) → CanTake (select e) 0 (Flat (One row)) st out → ⊥
select_no_row e row st out t =
    let f = t.fitting.fits in
    let i : item.Item = Flat (One row) in
    let p = and_parts (is_sized f.0) (is_bag f.0 && is_term (width_of f.0) 0 e) f.4 in
    let q = and_parts (is_bag f.0) (is_term (width_of f.0) 0 e) p.1 in
    no_row f.0 row q.0 (held_first (FlatOf f.0) 0 i (subst (λ l. IsHeldOf l 0 i) f.1 t.item))

select_no_pack : (e : Term) (fs : List flat.Flat) (st : List State) (out : Emit) → CanTake (select e) 0 (Pack fs) st out → ⊥
select_no_pack e fs st out t =
    let f = t.fitting.fits in
    no_pack f.0 fs (held_first (FlatOf f.0) 0 (Pack fs) (subst (λ l. IsHeldOf l 0 (Pack fs)) f.1 t.item))

-- and no pack
pub select_item : (e : Term) (i : item.Item) (st : List State) (out : Emit) → CanTake (select e) 0 i st out → IsFlat i
select_item e (Flat f) st out t = record { content = f; is = refl; holds = tt }
select_item e (Pack fs) st out t = absurd (select_no_pack e fs st out t)

-- there is a list for what it gives
pub select_room : (e : Term) (i : item.Item) (st : List State) (out : Emit) → CanTake (select e) 0 i st out → 0 < length out.outs
select_room e i st out t = one_list (select e) out refl t.room

-- PROJECTIONS

can_project : (n : ℕ) (es : List Term) (rows : List (List ℤ)) → (is_width n && (is_width (length es) && list_all (is_term n 0) es)) ≡ true → HaveWidth n rows
    → CanProject es rows
can_project n es rows g h =
    let p = and_parts (is_width n) (is_width (length es) && list_all (is_term n 0) es) g in
    let q = and_parts (is_width (length es)) (list_all (is_term n 0) es) p.1 in
    let r = and_parts (nat_le 1 (length es)) (nat_le (length es) 16) q.0 in
    record {
      some = le_by 1 (length es) r.0;
      at_most = le_by (length es) 16 r.1;
      within = λ k d lt. subst (λ m. AllByRecursion (IsWithin m 0) es) (sym (h k d lt)) (terms_within n 0 es q.1);
    }

module _ (es : List Term) (i : item.Item) (st : List State) (out : Emit) (t : CanTake (project es) 0 i st out) where
  -- what a projection takes is a change
  pub project_item : IsChange i
  project_item =
      let f = t.fitting.fits in
      let h = relation_holds f.0 i (held_first (relation f.0) 0 i (subst (λ l. IsHeldOf l 0 i) f.1 t.item)) in
      record { change = h.change; is = h.is }

  project_can : (c : Change) → Flat (Changed c) ≡ i → CanProjectBoth es c
  project_can c e =
      let f = t.fitting.fits in
      let at : IsHeldOf (relation f.0 ∷ []) 0 (Flat (Changed c)) =
      subst (λ x. IsHeldOf (relation f.0 ∷ []) 0 x) (sym e) (subst (λ l. IsHeldOf l 0 i) f.1 t.item) in
      let w = (held_change f.0 c (held_first (relation f.0) 0 (Flat (Changed c)) at)).wide in
      record { plus = can_project f.0 es c.plus f.4 w.plus; minus = can_project f.0 es c.minus f.4 w.minus }

  -- it can read its rows
  pub project_flat_can : (f : flat.Flat) → Flat f ≡ i → CanProjectFlat es f
  project_flat_can f e =
      let k = flat_changed f i e project_item in
      subst (CanProjectFlat es) (sym k.is) (project_can k.change (ap (λ x. Flat x) (sym k.is) ∙ e))

  -- there is a list for what a projection gives
  pub project_room : 0 < length out.outs
  project_room = one_list (project es) out refl t.room

-- STREAMERS

module _ (r : Streamer) (i : item.Item) (st : List State) (out : Emit) (t : CanTake (streamer r) 0 i st out) where
  -- what a streamer takes is a change
  pub streamer_item : IsChange i
  streamer_item =
      let f = t.fitting.fits in
      let h = relation_holds f.0 i (held_first (relation f.0) 0 i (subst (λ l. IsHeldOf l 0 i) f.1 t.item)) in
      record { change = h.change; is = h.is }

  -- there is a list for what a streamer gives
  pub streamer_room : 0 < length out.outs
  streamer_room = one_list (streamer r) out refl t.room

-- PRODUCTS

pair_item : (a b p : ℕ) (i : item.Item) → IsHeldOf (relation a ∷ relation b ∷ []) p i → IsChange i
pair_item a b zero i h = let c = relation_holds a i h in record { change = c.change; is = c.is }
pair_item a b (suc zero) i h = let c = relation_holds b i h in record { change = c.change; is = c.is }
pair_item a b (suc (suc p)) i h = absurd h

module _ (port : ℕ) (i : item.Item) (s : State) (out : Emit) (t : CanTake cross port i (s ∷ []) out) where
  -- what a product takes is a change
  pub cross_item : IsChange i
  cross_item = let f = t.fitting.fits in pair_item f.0 f.1 port i (subst (λ l. IsHeldOf l port i) f.2 t.item)

  cross_can : (now : CrossKept) (c : Change) → s ≡ state.Cross now → Flat (Changed c) ≡ i → CanCrossChanges (put_change port c now)
  cross_can now c e g =
      let f = t.fitting.fits in
      let h : FitCross (relation f.0 ∷ relation f.1 ∷ []) (s ∷ []) = subst (λ l. FitCross l (s ∷ [])) f.2 t.fitting.state in
      let was : IsCrossOf f.0 f.1 now = subst (IsCrossOf f.0 f.1) (same_crossing h.now now (sym h.code ∙ ap (λ u. u ∷ []) e)) (h.wide f.0 f.1 refl) in
      let at : IsHeldOf (relation f.0 ∷ relation f.1 ∷ []) port (Flat (Changed c)) =
      subst (λ x. IsHeldOf (relation f.0 ∷ relation f.1 ∷ []) port x) (sym g) (subst (λ l. IsHeldOf l port i) f.2 t.item) in
      record { left = f.0; right = f.1; wide = put_wide f.0 f.1 port c now at was }

  -- which can be joined with what waits at the other port
  pub cross_flat_can : (now : CrossKept) (g : flat.Flat) → s ≡ state.Cross now → Flat g ≡ i → CanCrossFlat port g now
  cross_flat_can now g e h =
      let k = flat_changed g i h cross_item in
      subst (λ x. CanCrossFlat port x now) (sym k.is) (cross_can now k.change e (ap (λ x. Flat x) (sym k.is) ∙ h))

  -- there is a list for what a product gives
  pub cross_room : 0 < length out.outs
  cross_room = one_list cross out refl t.room
