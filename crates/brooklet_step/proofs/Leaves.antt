-- Firings of kernels that have no kernel inside.
use Rattle.std.proofs.Common.{◌≡◌, ℕ, zero, suc, ℤ, pos, ◌+◌, ◌≤◌, ◌<◌, false, List, [], ◌∷◌, ◌++◌, length, map, take, refl, get_or, to_z, of_z, sym}
use Rattle.std.proofs.Common.{ap, ◌∙◌, subst, arith, ⊎_elim}
use Rattle.std.specs.Int.{w64}
use Rattle.std.proofs.lemmas.Int.{to_z-of_z}
use Rattle.river_base.specs.Number.{IsValue}
use Rattle.std.specs.Prelude.{IsTrue, ◌↔◌, All, slice_index_or, if◌then◌else◌, nat_eq}
use Rattle.std.proofs.lemmas.Bool.{cases_eq, true≢false}
use Rattle.std.proofs.Math.ListN.{set}
use Rattle.std.proofs.lemmas.List.{take_more}
use Rattle.std.proofs.lemmas.List.Elements.{All-head, All-tail, All-cons, All-nil}
use Rattle.river_base.proofs.Lists.{alone_same}
use Rattle.river_base.specs.declared.item.Item as item
use Rattle.river_base.specs.declared.item.Item.TheVariants.{Flat, Pack}
use Rattle.river_base.specs.declared.item.Flat.TheVariants.{One, Batch, Change as Changed}
use Rattle.river_base.specs.declared.kind.QueueType.{QueueType}
use Rattle.river_base.specs.Held.{HasType}
use Rattle.river_base.specs.Places.{append_at, each_grew, only, none}
use Rattle.river_base.proofs.PlaceLemmas.{each_grew_cong, each_grew-none, append_at-each_grew, only_same, only_other, if_eq, if_ne}
use Rattle.kern_rows.specs.Forms.{CodeForm, FilterForm}
use Rattle.kern_rows.specs.Needs.{CanCode, CanFilter}
use Rattle.kern_rows.specs.Runs.{run_kept, pushed_to, filter_one}
use Rattle.kern_rows.specs.Stands.{Waiting, StandsForFiltering, Filters, first_values}
use Rattle.kern_rows.proofs.Given.{filter_values, given_items}
use Rattle.kern_rows.proofs.Lengths.{run_kept_length}
use Rattle.river_kernels.specs.Fits.{rows}
use Rattle.river_kernels.specs.Kern.{code, filter}
use Rattle.brooklet_model.specs.Firings.{Kept, Slots, Buffered, gives}
use Rattle.brooklet_model.specs.Fire.{fire, code_one, values_of, value_of}
use Rattle.brooklet_model.specs.Typed.{IsOf, AreOf}
use Rattle.brooklet_step.specs.declared.emit.Emit.{Emit}
use Rattle.brooklet_step.specs.declared.state.State.{State}
use Rattle.brooklet_step.specs.declared.state.State.TheVariants as state
use Rattle.brooklet_step.specs.Took.{Took, HasLists}
use Rattle.brooklet_step.specs.Stands.{AreNone, AreKeptSlots, StandsForSlots, StandsForFilter, IsRow, IsSlots, RanKept, Pushed}
use Rattle.brooklet_step.specs.Stands.{Fires, MayTake, Applies}
use Rattle.brooklet_model.proofs.Ports.{counts}
use Rattle.brooklet_model.proofs.Typing.{fire_typed}
use Rattle.brooklet_step.proofs.Standing.{stands_shape}
use Rattle.river_kernels.proofs.WellFormed.{can_code, can_filter}

-- ROWS

row_by : (n : ℕ) (x : item.Item) → HasType (rows n) x → IsRow x × (length (values_of x) ≡ n)
row_by n (Flat (One row)) h = (record { row = row; is = refl }, h)
row_by n (Flat (Batch b)) h = absurd h
row_by n (Flat (Changed c)) h = absurd h
row_by n (Pack fs) h = absurd h

at_first : (t : QueueType) (p : ℕ) (x : item.Item) → IsOf (t ∷ []) p x → HasType t x
at_first t zero x h = h
at_first t (suc p) x h = absurd h

-- the item is a row of the width that is read
pub row_is : (n p : ℕ) (reads : List QueueType) (x : item.Item) → reads ≡ rows n ∷ [] → IsOf reads p x → IsRow x × (length (values_of x) ≡ n)
row_is n p reads x e h = row_by n x (at_first (rows n) p x (subst (λ (l : List QueueType). IsOf l p x) e h))

-- BODIES

-- an item that code may take is a row of its inputs
pub code_row : (k : CodeForm) (x : item.Item) (st : List State) → MayTake (code k) 0 x st → IsRow x × (length (values_of x) ≡ k.body.inputs)
code_row k x st t = row_is k.body.inputs 0 t.reads x t.fitted.fits.0 t.item

-- what a body takes, it can run on
pub code_can : (k : CodeForm) (p : ℕ) (x : item.Item) (st : List State) → MayTake (code k) p x st → CanCode k
code_can k p x st t = can_code k t.fitted.fits.3

some_slots : (zs : List ℤ) (st : List State) (ks : List Kept) → (zs ≡ [] → ⊥) → StandsForSlots zs st ks → AreKeptSlots (length zs) st ks
some_slots [] st ks n h = absurd (n refl)
some_slots (z ∷ zs) st ks n h = h

are_slots : (zs : List ℤ) (st : List State) (ks : List Kept) → (zs ≡ [] → ⊥) → AreKeptSlots (length zs) st ks → StandsForSlots zs st ks
are_slots [] st ks n h = absurd (n refl)
are_slots (z ∷ zs) st ks n h = h

-- the state that holds the kept slots
pub code_state : (k : CodeForm) (x : item.Item) (st : List State) → (k.starts ≡ [] → ⊥) → MayTake (code k) 0 x st
    → (s : State) × (st ≡ s ∷ []) × IsSlots (length k.starts) s
code_state k x st n t =
    let a = some_slots k.starts st t.fitted.keeps.kept n t.fitted.keeps.stands in
    (state.Slots a.slots, a.code, record { slots = a.slots; is = refl; count = a.count })

pub pushed_once : (k : CodeForm) (x : item.Item) (st : List State) (row : List ℤ) (pushes : List (ℕ × List ℤ)) → k.starts ≡ [] → row ≡ values_of x
    → pushes ≡ (run_kept k.body [] row).pushes → Pushed k x st st pushes
pushed_once k x st row pushes e r p = record {
  given = λ ks h.
      let n : AreNone st ks = subst (λ (zs : List ℤ). StandsForSlots zs st ks) e h in
      let after : AreNone st [] = record { code = n.code; defined = refl } in
      let q : pushes ≡ (run_kept k.body [] (values_of x)).pushes = p ∙ ap (λ v. (run_kept k.body [] v).pushes) r in
      subst (λ (us : List Kept). ((code_one k x us).outs ≡ (λ i. pushed_to i pushes)) × ((code_one k x us).adds ≡ none) × StandsForSlots k.starts st
      (code_one k x us).states) (sym n.defined)
      (ap (λ (ps : List (ℕ × List ℤ)). λ i. pushed_to i ps) (sym q), refl, subst (λ (zs : List ℤ). StandsForSlots zs st []) (sym e) after);
}

pub pushed_kept : (k : CodeForm) (x : item.Item) (st st' : List State) (s s' : State) (row : List ℤ) (pushes : List (ℕ × List ℤ)) → (k.starts ≡ [] → ⊥)
    → st ≡ s ∷ [] → st' ≡ s' ∷ [] → row ≡ values_of x → RanKept k.body row s s' pushes → Pushed k x st st' pushes
pushed_kept k x st st' s s' row pushes n e e' r ran = record {
  given = λ ks h.
      let a = some_slots k.starts st ks n h in
      let one = ran.each a.slots (alone_same s (state.Slots a.slots) (sym e ∙ a.code)) in
      let R = run_kept k.body a.slots (values_of x) in
      let q : pushes ≡ R.pushes = one.0 ∙ ap (λ v. (run_kept k.body a.slots v).pushes) r in
      let w : st' ≡ state.Slots R.slots ∷ [] = e' ∙ ap (λ (u : State). u ∷ []) (one.1 ∙ ap (λ v. state.Slots (run_kept k.body a.slots v).slots) r) in
      let after : AreKeptSlots (length k.starts) st' (Slots R.slots ∷ []) =
      record { slots = R.slots; code = w; defined = refl; count = run_kept_length k.body a.slots (values_of x) ∙ a.count } in
      subst (λ (us : List Kept). ((code_one k x us).outs ≡ (λ i. pushed_to i pushes)) × ((code_one k x us).adds ≡ none) × StandsForSlots k.starts st'
      (code_one k x us).states) (sym a.defined)
      (ap (λ (ps : List (ℕ × List ℤ)). λ i. pushed_to i ps) (sym q), refl, are_slots k.starts st' (Slots R.slots ∷ []) n after);
}

-- what came of a body whose slots are the only state
pub pushes_kept : (k : CodeForm) (x : item.Item) (st : List State) (d s s' : State) (row : List ℤ) (pushes : List (ℕ × List ℤ)) → MayTake (code k) 0 x st
    → (IsTrue false ↔ (k.starts ≡ [])) → s ≡ get_or st 0 d → row ≡ values_of x → RanKept k.body row s s' pushes → Pushed k x st (set st 0 s') pushes
pushes_kept k x st d s s' row pushes t i g w h =
    let n : k.starts ≡ [] → ⊥ = λ e. true≢false (sym (i.1 e)) in
    let c = code_state k x st n t in
    let same : s ≡ c.0 = g ∙ ap (λ (l : List State). get_or l 0 d) c.1 in
    let e : st ≡ s ∷ [] = c.1 ∙ ap (λ (u : State). u ∷ []) (sym same) in
    pushed_kept k x st (set st 0 s') s s' row pushes n e (ap (λ (l : List State). set l 0 s') e) w h

-- PUSHES

is_below : (os : List QueueType) (p : ℕ) (x : item.Item) → IsOf os p x → p < length os
is_below [] p x h = absurd h
is_below (t ∷ os) zero x h = omega arith
is_below (t ∷ os) (suc p) x h = let r = is_below os p x h in omega (arith, r)

pub ports_below : (os : List QueueType) (es : List (ℕ × List ℤ)) → AreOf os (λ p. pushed_to p es) → All (λ e. e.0 < length os) es
ports_below os [] h = All-nil (λ e. e.0 < length os)
ports_below os (e ∷ es) h =
    let here = subst (All (IsOf os e.0)) (if_eq e.0 e.0 (Flat (One e.1) ∷ pushed_to e.0 es) (pushed_to e.0 es) refl) (h e.0) in
    All-cons (λ e. e.0 < length os) e es
    (is_below os e.0 (Flat (One e.1)) (All-head (IsOf os e.0) (Flat (One e.1)) (pushed_to e.0 es) here))
    (ports_below os es (λ q. ⊎_elim
    (λ eq. All-tail (IsOf os q) (Flat (One e.1)) (pushed_to q es)
    (subst (All (IsOf os q)) (if_eq e.0 q (Flat (One e.1) ∷ pushed_to q es) (pushed_to q es) eq) (h q)))
    (λ ne. subst (All (IsOf os q)) (if_ne e.0 q (Flat (One e.1) ∷ pushed_to q es) (pushed_to q es) ne) (h q))
    (cases_eq e.0 q)))

only_if : (n p : ℕ) (xs : List item.Item) → only n xs p ≡ (if nat_eq n p then xs else [])
only_if n p xs = ⊎_elim
    (λ eq. ap (λ m. only m xs p) eq ∙ only_same p xs ∙ sym (if_eq n p xs [] eq))
    (λ ne. only_other n p xs (λ e. ne (sym e)) ∙ sym (if_ne n p xs [] ne))
    (cases_eq n p)

pushed_more : (p : ℕ) (es : List (ℕ × List ℤ)) (e : ℕ × List ℤ) → pushed_to p es ++ only e.0 (Flat (One e.1) ∷ []) p ≡ pushed_to p (es ++ e ∷ [])
pushed_more p [] e = only_if e.0 p (Flat (One e.1) ∷ [])
pushed_more p (d ∷ es) e =
    let more = only e.0 (Flat (One e.1) ∷ []) p in
    let r = pushed_more p es e in
    ⊎_elim
    (λ eq. ap (λ t. t ++ more) (if_eq d.0 p (Flat (One d.1) ∷ pushed_to p es) (pushed_to p es) eq) ∙ ap (λ t. Flat (One d.1) ∷ t) r
    ∙ sym (if_eq d.0 p (Flat (One d.1) ∷ pushed_to p (es ++ e ∷ [])) (pushed_to p (es ++ e ∷ [])) eq))
    (λ ne. ap (λ t. t ++ more) (if_ne d.0 p (Flat (One d.1) ∷ pushed_to p es) (pushed_to p es) ne) ∙ r
    ∙ sym (if_ne d.0 p (Flat (One d.1) ∷ pushed_to p (es ++ e ∷ [])) (pushed_to p (es ++ e ∷ [])) ne))
    (cases_eq d.0 p)

-- one more push is given
pub push_step : (start now new : List (List item.Item)) (es : List (ℕ × List ℤ)) (i : ℕ) (e : ℕ × List ℤ) → i < length es → e ≡ get_or es i e
    → now ≡ each_grew start (λ p. pushed_to p (take i es)) → new ≡ append_at now e.0 (Flat (One e.1) ∷ [])
    → new ≡ each_grew start (λ p. pushed_to p (take (i + 1) es))
push_step start now new es i e lt is en ea =
    let xs : List item.Item = Flat (One e.1) ∷ [] in
    let more : take i es ++ e ∷ [] ≡ take (i + 1) es = ap (λ d. take i es ++ d ∷ []) is ∙ sym (take_more es i e lt) in
    ea ∙ ap (λ t. append_at t e.0 xs) en ∙ append_at-each_grew start (λ p. pushed_to p (take i es)) e.0 xs
    ∙ each_grew_cong start (λ p. pushed_to p (take i es) ++ only e.0 xs p) (λ p. pushed_to p (take (i + 1) es))
    (λ p h. pushed_more p (take i es) e ∙ ap (pushed_to p) more)

-- the pushes go to ports that are there
pub code_below : (k : CodeForm) (x : item.Item) (st st' : List State) (out : Emit) (pushes : List (ℕ × List ℤ)) → Applies (code k) 0 x st out
    → Pushed k x st st' pushes → All (λ e. e.0 < length out.outs) pushes
code_below k x st st' out pushes a p =
    let t = a.takes.fitted in
    let ks = t.keeps.kept in
    let typed = fire_typed (code k) a.takes.reads t.writes t.vars 0 x ks t.fits (stands_shape (code k) st ks t.keeps.stands) t.keeps.holds a.takes.item in
    let are : AreOf t.writes (λ q. pushed_to q pushes) = subst (AreOf t.writes) (p.given ks t.keeps.stands).0 typed.0 in
    let same : length t.writes ≡ length out.outs = (counts (code k) a.takes.reads t.writes t.vars t.fits).outs ∙ sym a.room.outs in
    subst (λ n. All (λ e. e.0 < n) pushes) same (ports_below t.writes pushes are)

-- what was pushed, and no rows added, is a firing of code
pub code_fires : (k : CodeForm) (x : item.Item) (st st' : List State) (out out' : Emit) (pushes : List (ℕ × List ℤ)) → Pushed k x st st' pushes
    → out'.outs ≡ each_grew out.outs (λ p. pushed_to p pushes) → out'.adds ≡ out.adds → Fires (code k) out out' st st' (fire (code k) 0 x)
code_fires k x st st' out out' pushes p eo ea = record {
  given = λ ks h.
      let g = p.given ks h in (
        record {
          outs = eo ∙ ap (each_grew out.outs) (sym g.0);
          adds = ea ∙ sym (each_grew-none out.adds) ∙ ap (each_grew out.adds) (sym g.1);
        },
        g.2,
      );
}

-- FILTERS

pub filter_row : (f : FilterForm) (x : item.Item) (st : List State) → MayTake (filter f) 0 x st → IsRow x × (length (values_of x) ≡ 1)
filter_row f x st t = row_is 1 0 t.reads x t.fitted.fits.0 t.item

-- what a filter takes, it can run on
pub filter_can : (f : FilterForm) (p : ℕ) (x : item.Item) (st : List State) → MayTake (filter f) p x st → CanFilter f
filter_can f p x st t = can_filter f t.fitted.fits.3

same_filter : (a b : Waiting) → state.Filter a ≡ state.Filter b → a ≡ b
same_filter a b h = cc

-- the state of a filter
pub filter_state : (f : FilterForm) (x : item.Item) (s : State) → MayTake (filter f) 0 x (s ∷ [])
    → (w : Waiting) × (s ≡ state.Filter w) × (length w.kept ≡ length f.starts)
filter_state f x s t =
    let h = t.fitted.keeps.stands in
    (h.now, alone_same s (state.Filter h.now) h.code, h.count)

pub filter_count : (f : FilterForm) (x : item.Item) (s : State) (w : Waiting) → s ≡ state.Filter w → MayTake (filter f) 0 x (s ∷ [])
    → length w.kept ≡ length f.starts
filter_count f x s w e t =
    let g = filter_state f x s t in
    ap (λ (v : Waiting). length v.kept) (same_filter w g.0 (sym e ∙ g.1)) ∙ g.2

-- the number that a filter reads is that of the item
pub number_is : (v : ℤ) (vals row : List ℤ) (x : item.Item) → All IsValue row → 1 ≤ length row → vals ≡ row → row ≡ values_of x
    → v ≡ to_z w64 (of_z w64 (slice_index_or vals 0 (pos 0))) → v ≡ value_of x
number_is v vals row x all some ew e ev =
    let z : ℤ = slice_index_or row 0 (pos 0) in
    ev ∙ ap (λ (r : List ℤ). to_z w64 (of_z w64 (slice_index_or r 0 (pos 0)))) ew ∙ to_z-of_z w64 z (all 0 (pos 0) (omega (arith, some)))
    ∙ ap (λ (r : List ℤ). slice_index_or r 0 (pos 0)) e

-- a filter's step is its firing
pub filter_fires : (f : FilterForm) (x : item.Item) (s s' : State) (old new : Waiting) (v : ℤ) (values : List ℤ) (items : List item.Item) (out out' : Emit)
    → CanFilter f → HasLists (filter f) out → s ≡ state.Filter old → s' ≡ state.Filter new → v ≡ value_of x → Filters f v old new [] values
    → length new.kept ≡ length old.kept → items ≡ map (λ z. Flat (One (z ∷ []))) values → Took out out' (gives 0 items [])
    → Fires (filter f) out out' (s ∷ []) (s' ∷ []) (fire (filter f) 0 x)
filter_fires f x s s' old new v values items out out' can room e e' ev ran len ei took = record {
  given = λ ks h.
      let same : old ≡ h.now = same_filter old h.now (sym e ∙ alone_same s (state.Filter h.now) h.code) in
      let stands : StandsForFiltering f old h.seen = subst (λ (w : Waiting). StandsForFiltering f w h.seen) (sym same) h.stands in
      let one = ran.each h.seen stands in
      let F = filter_one f (value_of x) h.seen in
      let is : filter_one f v h.seen ≡ F = ap (λ (z : ℤ). filter_one f z h.seen) ev in
      let given : items ≡ pushed_to 0 F.pushes = ei ∙ ap (map (λ z. Flat (One (z ∷ [])))) (one.0 ∙ ap (λ g. first_values g.pushes) is)
      ∙ sym (given_items F.pushes (filter_values f (value_of x) h.seen can)) in
      let after : StandsForFilter f (s' ∷ []) (Buffered F.after ∷ []) = record {
        now = new;
        seen = F.after;
        code = ap (λ (u : State). u ∷ []) e';
        defined = refl;
        stands = subst (λ g. StandsForFiltering f new g.after) is one.1;
        count = len ∙ ap (λ (w : Waiting). length w.kept) same ∙ h.count;
      } in
      let grew : Took out out' (fire (filter f) 0 x (Buffered h.seen ∷ [])) = record {
        outs =
            took.outs
            ∙ each_grew_cong out.outs (only 0 items) (λ p. pushed_to p F.pushes)
            (λ p lt. at_0 p F.pushes items (let l = room.outs in omega (arith, l, lt)) given);
        adds = took.adds;
      } in
      subst (λ (us : List Kept). Took out out' (fire (filter f) 0 x us) × StandsForFilter f (s' ∷ []) (fire (filter f) 0 x us).states) (sym h.defined)
      (grew, after);
}
  where
    at_0 : (p : ℕ) (es : List (ℕ × List ℤ)) (items : List item.Item) → p < 1 → items ≡ pushed_to 0 es → only 0 items p ≡ pushed_to p es
    at_0 zero es items lt e = e
    at_0 (suc p) es items lt e = absurd (omega arith)
