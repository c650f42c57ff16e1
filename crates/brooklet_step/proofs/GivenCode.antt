-- The conditions of firings, in the terms of the code.
use Rattle.std.proofs.Common.{◌≡◌, ℕ, zero, suc, Bool, false, ◌<◌, ◌≤◌, List, [], ◌∷◌, ◌++◌, length, drop, replicate, refl, sym, ap, ◌∙◌, subst, arith, append_assoc}
use Rattle.std.specs.Prelude.{All, IsTrue}
use Rattle.std.proofs.lemmas.List.{append-nil}
use Rattle.std.proofs.lemmas.List.Elements.{All-head, All-tail}
use Rattle.river_base.specs.declared.item.Item as item
use Rattle.river_base.specs.declared.item.Item.TheVariants.{Pack}
use Rattle.river_base.specs.declared.item.Flat as flat
use Rattle.river_base.specs.declared.kind.QueueType.{QueueType}
use Rattle.river_base.specs.declared.kind.QueueType.TheVariants.{Flat as FlatOf}
use Rattle.river_base.specs.Held.{flats}
use Rattle.river_base.specs.Places.{each_grew, list_at}
use Rattle.river_kernels.specs.Fits.{Fits}
use Rattle.river_kernels.specs.Kern.{Kern, packed, fused}
use Rattle.brooklet_model.specs.Firings.{gives, splice, beside}
use Rattle.brooklet_model.specs.Fire.{outs, privates}
use Rattle.brooklet_model.specs.Shapes.{IsShaped}
use Rattle.brooklet_model.proofs.Ports.{shaped}
use Rattle.brooklet_model.proofs.Typing.{between_is}
use Rattle.brooklet_step.specs.declared.emit.Emit.{Emit}
use Rattle.brooklet_step.specs.declared.state.State.{State}
use Rattle.brooklet_step.specs.Took.{Took, HasLists, IsBlank}
use Rattle.brooklet_step.specs.Given.{IsHeldBy, IsHeldOf, FitState, FiresAt, FiresEach, Does, CanTake, CanTakeAll, CanTakeOn, TookOn}
use Rattle.brooklet_step.proofs.Fires.{grown_list, blank_room}
use Rattle.brooklet_step.proofs.Fused.{Parts, mine_is, rest_is}
use Rattle.brooklet_step.proofs.GivenLemmas.{fit_length}
use Rattle.brooklet_step.proofs.GivenFires.{each_start, each_step}
use Rattle.brooklet_step.proofs.GivenParts.{came_room, packed_does, fused_does}

-- a kernel that fired can fire again
pub fires_again : (k : Kern) (p : ℕ) (i : item.Item) (e e' : Emit) (st st' : List State) (t : CanTake k p i st e) → FiresAt k p i e e' st st'
    → FitState k t.reads st' × HasLists k e'
fires_again k p i e e' st st' t f =
    let d = f.each t.reads t.fitting.writes t.fitting.vars t.fitting.fits t.fitting.state t.item in
    (d.came.again, came_room k t.reads t.fitting.writes t.fitting.vars e e' st' t.room d.came)

-- where a list is not empty, some item is left
pub some_left : (n : ℕ) (empty : Bool) → (n ≡ 0 → IsTrue empty) → empty ≡ false → 0 < n
some_left zero empty h e = absurd (let t : IsTrue false = subst IsTrue e (h refl) in cc t)
some_left (suc n) empty h e = omega arith

-- of the items of a list those that are left are to be fired on
pub record SoFar (k : Kern) (all left : List item.Item) (e e' : Emit) (st st' : List State) : Type 0 where
  pub done : List item.Item
  pub is : all ≡ done ++ left
  pub fires : FiresEach k done e e' st st'
  pub takes : CanTakeAll k left st' e'

-- at first all are left
pub so_far_start : (k : Kern) (all : List item.Item) (e : Emit) (st : List State) → CanTakeAll k all st e → SoFar k all all e e st st
so_far_start k all e st t = record { done = []; is = refl; fires = each_start k e st; takes = t }

-- the front one can be fired on
pub so_far_takes : (k : Kern) (all left rest : List item.Item) (x : item.Item) (e e' : Emit) (st st' : List State) → left ≡ x ∷ rest
    → SoFar k all left e e' st st' → CanTake k 0 x st' e'
so_far_takes k all left rest x e e' st st' is s =
    record {
      reads = s.takes.reads;
      fitting = s.takes.fitting;
      item =
          All-head (IsHeldOf s.takes.reads 0) x rest (subst (All (IsHeldOf s.takes.reads 0)) is s.takes.items);
      room = s.takes.room;
    }

-- after a firing on the front one the others are left
pub so_far_step : (k : Kern) (all left rest : List item.Item) (x : item.Item) (e e' e'' : Emit) (st st1 st2 : List State) → left ≡ x ∷ rest
    → SoFar k all left e e' st st1 → FiresAt k 0 x e' e'' st1 st2 → SoFar k all rest e e'' st st2
unfolding so_far_takes
so_far_step k all left rest x e e' e'' st st1 st2 is s f =
    let d = fires_again k 0 x e' e'' st1 st2 (so_far_takes k all left rest x e e' st st1 is s) f in
    let t = s.takes in
    record {
      done = s.done ++ x ∷ [];
      is = s.is ∙ ap (λ l. s.done ++ l) is ∙ sym (append_assoc s.done (x ∷ []) rest);
      fires = each_step k s.done x st st1 st2 e e' e'' s.fires f;
      takes = record {
        reads = t.reads;
        fitting = record { writes = t.fitting.writes; vars = t.fitting.vars; fits = t.fitting.fits; state = d.0 };
        items = All-tail (IsHeldOf t.reads 0) x rest (subst (All (IsHeldOf t.reads 0)) is t.items);
        room = d.1;
      };
    }

-- where none is left, all were fired on
pub so_far_end : (k : Kern) (all left : List item.Item) (e e' : Emit) (st st' : List State) → left ≡ [] → SoFar k all left e e' st st'
    → FiresEach k all e e' st st'
so_far_end k all left e e' st st' is s =
    subst (λ (l : List item.Item). FiresEach k l e e' st st') (sym (s.is ∙ ap (λ l. s.done ++ l) is ∙ append-nil s.done)) s.fires

-- A KERNEL IN A PACK

-- what a packed kernel can take, the kernel inside can take
pub packed_taken : (k j j1 : Kern) (port : ℕ) (x : item.Item) (st : List State) (out e : Emit) → k ≡ packed j → j1 ≡ j → CanTake k port x st out
    → e.outs ≡ replicate 1 [] → e.adds ≡ replicate 0 [] → CanTake j1 port x st e
packed_taken k j j1 port x st out e ek ej t o a =
    let t' = subst (λ (i : Kern). CanTake i port x st out) ek t in
    let f = t'.fitting.fits in
    let s : IsShaped (packed j) = shaped (packed j) t'.reads t'.fitting.writes t'.fitting.vars f in
    subst (λ (i : Kern). CanTake i port x st e) (sym ej) (record {
      reads = t'.reads;
      fitting =
          record {
            writes = FlatOf f.1 ∷ [];
            vars = [];
            fits = subst (λ (l : List QueueType). Fits j l (FlatOf f.1 ∷ []) []) (sym f.2) f.5;
            state =
                t'.fitting.state;
          };
      item = t'.item;
      room = record { outs = ap length o ∙ sym s.2; adds = ap length a ∙ sym s.3 };
    })

-- the port of the kernel inside
pub packed_port : (j : Kern) (port : ℕ) (x : item.Item) (st st' : List State) (out e e' : Emit) → CanTake (packed j) port x st out → CanTake j port x st e
    → FiresAt j port x e e' st st' → 0 < length e'.outs
packed_port j port x st st' out e e' t u f =
    let s : IsShaped (packed j) = shaped (packed j) t.reads t.fitting.writes t.fitting.vars t.fitting.fits in
    let r = (fires_again j port x e e' st st' u f).1 in
    let o = r.outs in
    omega (arith, o, s.2)

-- what the kernel inside gave, packed, is the firing
pub packed_whole : (k j j1 : Kern) (port : ℕ) (x : item.Item) (st st' : List State) (out out' e e' : Emit) (items : List item.Item) (fs : List flat.Flat)
    → k ≡ packed j → j1 ≡ j → CanTake k port x st out → e.outs ≡ replicate 1 [] → FiresAt j1 port x e e' st st' → items ≡ list_at e'.outs 0 → fs ≡ flats items
    → Took out out' (gives 0 (Pack fs ∷ []) []) → FiresAt k port x out out' st st'
packed_whole k j j1 port x st st' out out' e e' items fs ek ej t b f ei ef took =
    let t' = subst (λ (i : Kern). CanTake i port x st out) ek t in
    subst (λ (i : Kern). FiresAt i port x out out' st st') (sym ek)
    (packed_does j port x st st' out out' e e' items fs b (subst (λ (i : Kern). FiresAt i port x e e' st st') ej f) ei ef took)

-- TWO KERNELS

-- the first part has no more states than there are
pub count_fits : (k a b : Kern) (at count port : ℕ) (x : item.Item) (st : List State) (out : Emit) → k ≡ fused a b at → count ≡ privates a
    → CanTake k port x st out → count ≤ length st
count_fits k a b at count port x st out ek ec t =
    let l = fit_length k t.reads st t.fitting.state ∙ ap privates ek in
    omega (arith, l, ec)

module _ (k a b : Kern) (at count port : ℕ) (x : item.Item) (st mine rest : List State) (out mid0 : Emit) (p : Parts k a b at count st mine rest)
    (t0 : CanTake k port x st out) (bm : IsBlank a mid0) where
  abbrev t : CanTake (fused a b at) port x st out
  t = subst (λ (j : Kern). CanTake j port x st out) p.kernel t0

  first_state : FitState a t.reads mine
  first_state = subst (FitState a t.reads) (sym (mine_is k a b at count st mine rest p)) t.fitting.state.0

  is_shaped : IsShaped (fused a b at)
  is_shaped = shaped (fused a b at) t.reads t.fitting.writes t.fitting.vars t.fitting.fits

  pub first_of : CanTake a port x mine mid0
  first_of = record {
    reads = t.reads;
    fitting = record { writes = t.fitting.fits.0; vars = t.fitting.fits.3; fits = t.fitting.fits.5; state = first_state };
    item = t.item;
    room = blank_room a mid0 bm;
  }

  module _ (mine' : List State) (mid : Emit) (fm : FiresAt a port x mid0 mid mine mine') where
    abbrev da : Does a t.reads t.fitting.fits.0 t.fitting.fits.3 port x mid0 mid mine mine'
    da = fm.each t.reads t.fitting.fits.0 t.fitting.fits.3 t.fitting.fits.5 first_state t.item

    pub first_room : HasLists a mid
    first_room = came_room a t.reads t.fitting.fits.0 t.fitting.fits.3 mid0 mid mine' (blank_room a mid0 bm) da.came

    pub at_below : at < length mid.outs
    at_below = subst (λ n. at < n) (sym first_room.outs) is_shaped.2

    module _ (last0 : Emit) (items : List item.Item) (is : items ≡ list_at mid.outs at) (bl : IsBlank b last0) where
      abbrev m : QueueType
      m = t.fitting.fits.1

      second_state : FitState b (m ∷ []) rest
      second_state = subst (FitState b (m ∷ [])) (sym (rest_is k a b at count st mine rest p))
          (subst (λ (l : List QueueType). FitState b l (drop (privates a) st))
          (between_is a t.reads t.fitting.fits.0 m t.fitting.fits.3 at t.fitting.fits.5 t.fitting.fits.6) t.fitting.state.1)

      items_held : All (IsHeldOf (m ∷ []) 0) items
      items_held =
          let e : items ≡ da.came.outs at = is ∙ grown_list (outs a) mid0.outs mid.outs da.came.outs at bm.outs da.came.outs_are is_shaped.2 in
          subst (λ (l : List item.Item). All (IsHeldOf (m ∷ []) 0) l) (sym e)
          (subst (λ o. All (IsHeldBy o) (da.came.outs at)) t.fitting.fits.6 (da.came.held at))

      pub second_of : CanTakeAll b items rest last0
      second_of = record {
        reads = m ∷ [];
        fitting = record { writes = t.fitting.fits.2; vars = t.fitting.fits.4; fits = t.fitting.fits.7; state = second_state };
        items = items_held;
        room = blank_room b last0 bl;
      }

    -- the second kernel can take what the first gave
    pub on_of : CanTakeOn b at rest mid out
    on_of =
        let fo = first_room.outs in
        let fa = first_room.adds in
        let ro = t.room.outs in
        let ra = t.room.adds in
        let lt = is_shaped.2 in
        record {
          place = at_below;
          outs = omega (arith, fo, ro, lt);
          adds = omega (arith, fa, ra);
          takes =
              λ blank bl. second_of blank (list_at mid.outs at) refl bl;
        }

-- what a fused kernel can take, its first part can take
pub first_taken : (k a b : Kern) (at count port : ℕ) (x : item.Item) (st mine rest : List State) (out mid0 : Emit) → Parts k a b at count st mine rest
    → CanTake k port x st out → IsBlank a mid0 → CanTake a port x mine mid0
first_taken k a b at count port x st mine rest out mid0 p t bm = first_of k a b at count port x st mine rest out mid0 p t bm

-- the second part can take what the first one gave
pub takes_on : (k a b : Kern) (at count port : ℕ) (x : item.Item) (st mine rest mine' : List State) (out mid0 mid : Emit) → Parts k a b at count st mine rest
    → CanTake k port x st out → IsBlank a mid0 → FiresAt a port x mid0 mid mine mine' → CanTakeOn b at rest mid out
takes_on k a b at count port x st mine rest mine' out mid0 mid p t bm fm = on_of k a b at count port x st mine rest out mid0 p t bm mine' mid fm

-- where a kernel fired on items one after another, there are still lists for what it gives
each_room : (k : Kern) (is : List item.Item) (e e' : Emit) (st st' : List State) → CanTakeAll k is st e → FiresEach k is e e' st st' → HasLists k e'
each_room k is e e' st st' t f =
    let d = f.each t.reads t.fitting.writes t.fitting.vars t.fitting.fits t.fitting.state t.items in
    came_room k t.reads t.fitting.writes t.fitting.vars e e' st' t.room d.came

parts_fire : (k a b : Kern) (at count port : ℕ) (x : item.Item) (st mine rest mine' rest' : List State) (out new mid0 mid last0 last : Emit)
    (items : List item.Item)
    → Parts k a b at count st mine rest → CanTake k port x st out → IsBlank a mid0 → FiresAt a port x mid0 mid mine mine' → IsBlank b last0
    → items ≡ list_at mid.outs at → FiresEach b items last0 last rest rest'
    → new.outs ≡ each_grew out.outs (splice at (length last.outs) (list_at mid.outs) (list_at last.outs))
    → new.adds ≡ each_grew out.adds (beside (length mid.adds) (list_at mid.adds) (list_at last.adds)) → FiresAt k port x out new st (mine' ++ rest')
parts_fire k a b at count port x st mine rest mine' rest' out new mid0 mid last0 last items p t bm fm bl is fl eo ea =
    let fm' = subst (λ (l : List State). FiresAt a port x mid0 mid l mine') (mine_is k a b at count st mine rest p) fm in
    let fl' = subst (λ (l : List State). FiresEach b items last0 last l rest') (rest_is k a b at count st mine rest p) fl in
    let t' = subst (λ (j : Kern). CanTake j port x st out) p.kernel t in
    subst (λ (j : Kern). FiresAt j port x out new st (mine' ++ rest')) (sym p.kernel)
    (fused_does a b at port x st mine' rest' out new mid0 mid last0 last items t'.room bm fm' bl is fl' eo ea)

-- after all firings of the second part there is still a place for each port
pub second_room : (b : Kern) (at : ℕ) (st st' : List State) (mid out last0 last : Emit) (items : List item.Item) → CanTakeOn b at st mid out → IsBlank b last0
    → items ≡ list_at mid.outs at → FiresEach b items last0 last st st' → HasLists b last
second_room b at st st' mid out last0 last items t bl is f =
    let f' = subst (λ (l : List item.Item). FiresEach b l last0 last st st') is f in
    each_room b (list_at mid.outs at) last0 last st st' (t.takes last0 bl) f'

-- the first kernel fired, and then the second on what it gave
pub both_fire : (k a b : Kern) (at count port : ℕ) (x : item.Item) (st mine rest mine' rest' : List State) (out new mid0 mid : Emit)
    → Parts k a b at count st mine rest → CanTake k port x st out → IsBlank a mid0 → FiresAt a port x mid0 mid mine mine' → TookOn b at mid out new rest rest'
    → FiresAt k port x out new st (mine' ++ rest')
both_fire k a b at count port x st mine rest mine' rest' out new mid0 mid p t bm fm r =
    parts_fire k a b at count port x st mine rest mine' rest' out new mid0 mid r.blank r.last
    (list_at mid.outs at) p t bm fm r.is_blank refl r.fires r.outs r.adds

-- a kernel that fired can take another item of the same types
pub takes_again : (k : Kern) (p q : ℕ) (i j : item.Item) (e e' : Emit) (st st' : List State) (t : CanTake k p i st e) → FiresAt k p i e e' st st'
    → IsHeldOf t.reads q j → CanTake k q j st' e'
takes_again k p q i j e e' st st' t f h =
    let d = fires_again k p i e e' st st' t f in
    record { reads = t.reads; fitting = record { writes = t.fitting.writes; vars = t.fitting.vars; fits = t.fitting.fits; state = d.0 }; item = h; room = d.1 }
