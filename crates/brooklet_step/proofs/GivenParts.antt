-- Firings after others: packs, and two kernels as one.
use Rattle.std.proofs.Common.{◌≡◌, ℕ, ℤ, zero, suc, ◌+◌, ◌-◌, ◌<◌, List, [], ◌∷◌, ◌++◌, length, take, drop, replicate, refl, sym, ap, ◌∙◌, subst, arith, ⊎_elim}
use Rattle.std.specs.Prelude.{All, slice_get, Some}
use Rattle.std.proofs.lemmas.Bool.{cases_lt}
use Rattle.std.proofs.lemmas.List.Elements.{All-head, All-tail, All-cons, All-nil}
use Rattle.std.proofs.lemmas.List.{take_at, drop_at}
use Rattle.brooklet_model.proofs.Free.{at_port-word_same}
use Rattle.river_base.specs.declared.item.Item as item
use Rattle.river_base.specs.declared.item.Item.TheVariants.{Flat, Pack}
use Rattle.river_base.specs.declared.item.Flat as flat
use Rattle.river_base.specs.declared.kind.FlatType.{FlatType}
use Rattle.river_base.specs.declared.kind.QueueType.{QueueType}
use Rattle.river_base.specs.declared.kind.QueueType.TheVariants.{Flat as FlatOf, Pack as PackOf}
use Rattle.river_base.specs.Held.{held, HasType, IsHeld, flats, flats_as_items}
use Rattle.river_base.proofs.HeldLemmas.{opened, held-pack, is_held-pack}
use Rattle.river_base.specs.Places.{each_grew, only, none, list_at}
use Rattle.river_base.proofs.PlaceLemmas.{each_grew_cong, length-each_grew}
use Rattle.river_kernels.specs.declared.types.VarKind.{VarKind}
use Rattle.river_kernels.specs.Fits.{Fits, spliced}
use Rattle.river_kernels.specs.Types.{types_of}
use Rattle.river_kernels.specs.Kern.{Kern, packed, fused}
use Rattle.brooklet_model.specs.Firings.{Kept, Fired, Same, feed, splice, beside, fused_of, gives}
use Rattle.brooklet_model.specs.Fire.{fire, outs, tabs, privates}
use Rattle.brooklet_model.specs.Shapes.{IsShaped, HasShape}
use Rattle.brooklet_model.specs.Typed.{IsOf, IsTyped, IsWordOf, IsStart, Holds, between, widths_in, IsWide}
use Rattle.brooklet_model.specs.Words.{Word, at_port, run, word_of}
use Rattle.brooklet_model.proofs.Feeds.{feed_word}
use Rattle.brooklet_model.proofs.FusedRun.{fused_runs}
use Rattle.brooklet_model.proofs.Ports.{shaped, counts}
use Rattle.brooklet_model.proofs.Spliced.{splice_first, splice_second, splice_last, spliced_got, spliced_all}
use Rattle.brooklet_model.proofs.TypedPlan.{at_word as word_typed}
use Rattle.brooklet_model.proofs.Typing.{between_is}
use Rattle.brooklet_model.proofs.WideAdds.{fused_wide}
use Rattle.brooklet_step.specs.declared.emit.Emit.{Emit}
use Rattle.brooklet_step.specs.declared.state.State.{State}
use Rattle.brooklet_step.specs.Took.{Took, HasLists, IsBlank}
use Rattle.brooklet_step.specs.Given.{held_by, held_at, IsHeldBy, IsHeldOf, FitState, ran_from, StandsAfter, TookHeld, CameAsHeld, Does, DoesAll, FiresAt, FiresEach}
use Rattle.brooklet_step.proofs.Fires.{grown_list, flats-append, blank_room}
use Rattle.brooklet_step.proofs.Fused.{splice_cong, beside_cong}
use Rattle.brooklet_step.proofs.GivenLemmas.{word_append, ran_more, ran_length, ran_typed, fired_typed, fit_length, parts_fit, parts_after}

-- ROOM

-- a firing keeps a place for each port
pub came_room : (k : Kern) (reads writes : List QueueType) (vars : List VarKind) (e e' : Emit) (st' : List State) → HasLists k e
    → CameAsHeld k reads writes vars e e' st' → HasLists k e'
came_room k reads writes vars e e' st' h c =
    record { outs = ap length c.outs_are ∙ length-each_grew e.outs c.outs ∙ h.outs; adds = ap length c.adds_are ∙ length-each_grew e.adds c.adds ∙ h.adds }

-- PACKS

as_items-append : (fs gs : List flat.Flat) → flats_as_items (fs ++ gs) ≡ flats_as_items fs ++ flats_as_items gs
as_items-append [] gs = refl
as_items-append (f ∷ fs) gs = ap (λ l. Flat f ∷ l) (as_items-append fs gs)

-- items that are no packs
items-flats : (t : FlatType) (xs : List item.Item) → All (HasType (FlatOf t)) xs → flats_as_items (flats xs) ≡ xs
items-flats t [] h = refl
items-flats t (Flat f ∷ xs) h = ap (λ l. Flat f ∷ l) (items-flats t xs (All-tail (HasType (FlatOf t)) (Flat f) xs h))
items-flats t (Pack fs ∷ xs) h = absurd (All-head (HasType (FlatOf t)) (Pack fs) xs h)

flats_held : (t : FlatType) (xs : List item.Item) → All (IsHeld (FlatOf t)) xs → All (λ f. IsHeld (FlatOf t) (Flat f)) (flats xs)
flats_held t [] h = All-nil (λ f. IsHeld (FlatOf t) (Flat f))
flats_held t (Flat f ∷ xs) h =
    All-cons (λ g. IsHeld (FlatOf t) (Flat g)) f (flats xs) (All-head (IsHeld (FlatOf t)) (Flat f) xs h)
    (flats_held t xs (All-tail (IsHeld (FlatOf t)) (Flat f) xs h))
flats_held t (Pack fs ∷ xs) h = flats_held t xs (All-tail (IsHeld (FlatOf t)) (Pack fs) xs h)

-- a kernel in a pack has the states of the kernel, and gives its items in packs
pub packed_states : (k : Kern) (w : Word) (ss : List Kept) → (run (fire (packed k)) w ss).states ≡ (run (fire k) w ss).states
packed_states k [] ss = refl
packed_states k (e ∷ es) ss = packed_states k es (fire k e.0 e.1 ss).states

packed_items : (k : Kern) (w : Word) (ss : List Kept) → opened ((run (fire (packed k)) w ss).outs 0) ≡ flats_as_items (flats ((run (fire k) w ss).outs 0))
packed_items k [] ss = refl
packed_items k (e ∷ es) ss =
    let r = fire k e.0 e.1 ss in
    let rest = run (fire k) es r.states in
    ap (λ l. flats_as_items (flats (r.outs 0)) ++ l) (packed_items k es r.states)
    ∙ sym (as_items-append (flats (r.outs 0)) (flats (rest.outs 0)))
    ∙ ap flats_as_items (sym (flats-append (r.outs 0) (rest.outs 0)))

-- what the kernel inside does is what the packed kernel does
pub packed_does : (j : Kern) (port : ℕ) (i : item.Item) (st st' : List State) (out out' e e' : Emit) (items : List item.Item) (fs : List flat.Flat)
    → e.outs ≡ replicate 1 [] → FiresAt j port i e e' st st' → items ≡ list_at e'.outs 0 → fs ≡ flats items → Took out out' (gives 0 (Pack fs ∷ []) [])
    → FiresAt (packed j) port i out out' st st'
packed_does j port i st st' out out' e e' items fs b f ei ef took = record {
  each = λ reads writes vars fits fst hi.
      let t = fits.0 in
      let u = fits.1 in
      let fj : Fits j reads (FlatOf u ∷ []) [] = subst (λ (l : List QueueType). Fits j l (FlatOf u ∷ []) []) (sym fits.2) fits.5 in
      let d = f.each reads (FlatOf u ∷ []) [] fj fst hi in
      let is : items ≡ d.came.outs 0 = ei ∙ grown_list 1 e.outs e'.outs d.came.outs 0 b d.came.outs_are (omega arith) in
      subst (λ (os : List QueueType). Does (packed j) reads os vars port i out out' st st') (sym fits.3) (record {
        gives = record {
          given = λ start w x is_start tw tx sa h.
              let s : IsStart j reads start = record { shape = is_start.shape; holds = is_start.holds } in
              let g = d.gives.given start w x s tw tx sa h in
              let before = ran_from j start w in
              let sj = before.states in
              let r = fire j port x sj in
              let past = before.outs 0 in
              let xs = r.outs 0 in
              let typed_past : All (HasType (FlatOf u)) past = ran_typed j reads (FlatOf u ∷ []) [] start w fj s tw 0 in
              let typed_xs : All (HasType (FlatOf u)) xs = fired_typed j reads (FlatOf u ∷ []) [] start w port x fj s tw tx 0 in
              let came : items ≡ held (FlatOf u) past xs = ei
              ∙ grown_list 1 e.outs e'.outs (λ p. held_at (FlatOf u ∷ []) p (before.outs p) (r.outs p)) 0 b g.0.outs (omega arith) in
              let whole = ran_from (packed j) start w in
              let states : whole.states ≡ sj = packed_states j w start in
              let opens : opened (whole.outs 0) ≡ past = packed_items j w start ∙ items-flats u past typed_past in
              let pack : held (PackOf u) (whole.outs 0) (Pack (flats xs) ∷ []) ≡ Pack fs ∷ [] =
              held-pack u (whole.outs 0) (flats xs)
              ∙ ap (λ (l : List item.Item). Pack (flats (held (FlatOf u) l (flats_as_items (flats xs)))) ∷ []) opens
              ∙ ap (λ (l : List item.Item). Pack (flats (held (FlatOf u) past l)) ∷ []) (items-flats u xs typed_xs)
              ∙ ap (λ (l : List item.Item). Pack (flats l) ∷ []) (sym came)
              ∙ ap (λ (l : List flat.Flat). Pack l ∷ []) (sym ef) in
              let now : TookHeld (PackOf u ∷ []) whole out out' (fire (packed j) port x sj) = record {
                outs =
                    took.outs
                    ∙ each_grew_cong out.outs (only 0 (Pack fs ∷ [])) (λ p. held_at (PackOf u ∷ []) p (whole.outs p) (only 0 (Pack (flats xs) ∷ []) p))
                    (λ p lt. at_pack u fs xs whole pack p);
                adds = took.adds;
              } in
              (subst (λ (us : List Kept). TookHeld (PackOf u ∷ []) whole out out' (fire (packed j) port x us)) (sym states) now, g.1);
        };
        came = record {
          outs = only 0 (Pack fs ∷ []);
          adds = none;
          outs_are = took.outs;
          adds_are = took.adds;
          held = λ p. held_pack u (subst (λ (l : List item.Item). All (IsHeld (FlatOf u)) l) (sym is) (d.came.held 0)) p;
          wide = λ t. All-nil (IsWide (slice_get (widths_in vars) t));
          again = d.came.again;
        };
      });
}
  where
    held_pack : (u : FlatType) → All (IsHeld (FlatOf u)) items → (p : ℕ) → All (IsHeldOf (PackOf u ∷ []) p) (only 0 (Pack fs ∷ []) p)
    held_pack u h zero =
        All-cons (IsHeldOf (PackOf u ∷ []) 0) (Pack fs) []
        (subst (λ (l : List flat.Flat). IsHeld (PackOf u) (Pack l)) (sym ef) (is_held-pack u (flats items) (flats_held u items h)))
        (All-nil (IsHeldOf (PackOf u ∷ []) 0))
    held_pack u h (suc p) = All-nil (IsHeldOf (PackOf u ∷ []) (suc p))

    at_pack : (u : FlatType) (fs : List flat.Flat) (xs : List item.Item) (whole : Fired) → held (PackOf u) (whole.outs 0) (Pack (flats xs) ∷ []) ≡ Pack fs ∷ []
        → (p : ℕ) → only 0 (Pack fs ∷ []) p ≡ held_at (PackOf u ∷ []) p (whole.outs p) (only 0 (Pack (flats xs) ∷ []) p)
    at_pack u fs xs whole e zero = sym e
    at_pack u fs xs whole e (suc p) = refl

-- TWO KERNELS

-- what the queues of both kernels hold is what the queues of the two as one hold
pub splice_held : (ms bs : List QueueType) (at p : ℕ) (P R Q S : ℕ → List item.Item) → at < length ms
    → splice at (length bs) (λ q. held_at ms q (P q) (R q)) (λ q. held_at bs q (Q q) (S q)) p ≡ held_at (spliced at ms bs) p (splice at (length bs) P Q p)
    (splice at (length bs) R S p)
splice_held ms bs at p P R Q S lt =
    by_place (length bs) ∙ ap (λ o. held_by o (splice at (length bs) P Q p) (splice at (length bs) R S p)) (sym (spliced_got ms bs at p lt))
  where
    by_place : (n : ℕ)
        → splice at n (λ q. held_at ms q (P q) (R q)) (λ q. held_at bs q (Q q) (S q)) p ≡ held_by (splice at n (slice_get ms) (slice_get bs) p)
        (splice at n P Q p) (splice at n R S p)
    by_place n = ⊎_elim
        (λ l. splice_first at n (λ q. held_at ms q (P q) (R q)) (λ q. held_at bs q (Q q) (S q)) p l
        ∙ sym (ap (λ o. held_by o (splice at n P Q p) (splice at n R S p)) (splice_first at n (slice_get ms) (slice_get bs) p l)
        ∙ ap (λ a. held_by (slice_get ms p) a (splice at n R S p)) (splice_first at n P Q p l)
        ∙ ap (held_by (slice_get ms p) (P p)) (splice_first at n R S p l)))
        (λ ge. ⊎_elim
        (λ l. splice_second at n (λ q. held_at ms q (P q) (R q)) (λ q. held_at bs q (Q q) (S q)) p ge l
        ∙ sym (ap (λ o. held_by o (splice at n P Q p) (splice at n R S p)) (splice_second at n (slice_get ms) (slice_get bs) p ge l)
        ∙ ap (λ a. held_by (slice_get bs (p - at)) a (splice at n R S p)) (splice_second at n P Q p ge l)
        ∙ ap (held_by (slice_get bs (p - at)) (Q (p - at))) (splice_second at n R S p ge l)))
        (λ le. splice_last at n (λ q. held_at ms q (P q) (R q)) (λ q. held_at bs q (Q q) (S q)) p ge le
        ∙ sym (ap (λ o. held_by o (splice at n P Q p) (splice at n R S p)) (splice_last at n (slice_get ms) (slice_get bs) p ge le)
        ∙ ap (λ a. held_by (slice_get ms (p - n + 1)) a (splice at n R S p)) (splice_last at n P Q p ge le)
        ∙ ap (held_by (slice_get ms (p - n + 1)) (P (p - n + 1))) (splice_last at n R S p ge le)))
        (cases_lt (p - at) n))
        (cases_lt p at)

-- all that two kernels as one gave, part by part
pub fused_ran : (a b : Kern) (at : ℕ) (ss : List Kept) (w : Word) → IsShaped (fused a b at) → HasShape (fused a b at) ss
    → Same (ran_from (fused a b at) ss w)
    (fused_of at (outs b) (tabs a) (ran_from a (take (privates a) ss) w) (λ xs. ran_from b (drop (privates a) ss) (word_of 0 xs)))
fused_ran a b at ss w s h =
    let k = fused a b at in
    let ra = ran_from a (take (privates a) ss) w in
    let sb = drop (privates a) ss in
    subst (λ (r : Fired). Same (ran_from k ss w) (fused_of at (outs b) (tabs a) ra (λ xs. r))) (sym (feed_word (fire b) 0 (ra.outs at) sb))
    (fused_runs a b at w ss s h)

-- WHAT TWO PARTS DO, ONE BEHIND THE OTHER

module _ (a b : Kern) (at port : ℕ) (i : item.Item) (st mine' rest' : List State) (out new mid0 mid last0 last : Emit) (items : List item.Item)
    (room : HasLists (fused a b at) out) (bm : IsBlank a mid0) (fm : FiresAt a port i mid0 mid (take (privates a) st) mine') (bl : IsBlank b last0)
    (is : items ≡ list_at mid.outs at) (fl : FiresEach b items last0 last (drop (privates a) st) rest')
    (eo : new.outs ≡ each_grew out.outs (splice at (length last.outs) (list_at mid.outs) (list_at last.outs)))
    (ea : new.adds ≡ each_grew out.adds (beside (length mid.adds) (list_at mid.adds) (list_at last.adds))) where
  -- under each choice of types for the ports
  module _ (reads ms : List QueueType) (m : QueueType) (bs : List QueueType) (us ws : List VarKind) (fa : Fits a reads ms us) (g : slice_get ms at ≡ Some m)
      (fb : Fits b (m ∷ []) bs ws) (s : IsShaped (fused a b at)) (fs : FitState (fused a b at) reads st) (hi : IsHeldOf reads port i) where
    -- there is a list for each port
    at_ms : at < length ms
    at_ms = let e = (counts a reads ms us fa).outs in omega (arith, e, s.2)

    bs_many : length bs ≡ outs b
    bs_many = (counts b (m ∷ []) bs ws fb).outs

    -- what the first part does
    first_does : Does a reads ms us port i mid0 mid (take (privates a) st) mine'
    first_does = fm.each reads ms us fa fs.0 hi

    mid_is : between at (types_of a reads) ≡ m ∷ []
    mid_is = between_is a reads ms m us at fa g

    -- what comes between the parts, and that a queue may hold it
    items_are : items ≡ first_does.came.outs at
    items_are = is ∙ grown_list (outs a) mid0.outs mid.outs first_does.came.outs at bm.outs first_does.came.outs_are s.2

    items_held : All (IsHeldOf (m ∷ []) 0) items
    items_held =
        subst (λ (l : List item.Item). All (IsHeldOf (m ∷ []) 0) l) (sym items_are)
        (subst (λ o. All (IsHeldBy o) (first_does.came.outs at)) g (first_does.came.held at))

    -- what the second part does with it
    second_does : DoesAll b (m ∷ []) bs ws items last0 last (drop (privates a) st) rest'
    second_does = fl.each (m ∷ []) bs ws fb (subst (λ (l : List QueueType). FitState b l (drop (privates a) st)) mid_is fs.1) items_held

    mid_room : HasLists a mid
    mid_room = came_room a reads ms us mid0 mid mine' (blank_room a mid0 bm) first_does.came

    last_room : HasLists b last
    last_room = came_room b (m ∷ []) bs ws last0 last rest' (blank_room b last0 bl) second_does.came

    -- where the lists of the parts grew by these, those of the whole grew by both
    outs_grew : (ga gb : ℕ → List item.Item) → mid.outs ≡ each_grew mid0.outs ga → last.outs ≡ each_grew last0.outs gb
        → new.outs ≡ each_grew out.outs (splice at (length bs) ga gb)
    outs_grew ga gb ema emb =
        eo ∙ ap (λ n. each_grew out.outs (splice at n (list_at mid.outs) (list_at last.outs))) (last_room.outs ∙ sym bs_many)
        ∙ each_grew_cong out.outs (splice at (length bs) (list_at mid.outs) (list_at last.outs)) (splice at (length bs) ga gb)
        (λ p h. splice_cong at (length bs) (outs a) (list_at mid.outs) ga (list_at last.outs) gb p s.2
        (let e = room.outs in let e2 = bs_many in omega (arith, h, s.2, e, e2))
        (λ q hq. grown_list (outs a) mid0.outs mid.outs ga q bm.outs ema hq)
        (λ q hq. grown_list (outs b) last0.outs last.outs gb q bl.outs emb (let e2 = bs_many in omega (arith, hq, e2))))

    adds_grew : (ga gb : ℕ → List (List ℤ)) → mid.adds ≡ each_grew mid0.adds ga → last.adds ≡ each_grew last0.adds gb
        → new.adds ≡ each_grew out.adds (beside (tabs a) ga gb)
    adds_grew ga gb ema emb =
        ea ∙ ap (λ n. each_grew out.adds (beside n (list_at mid.adds) (list_at last.adds))) mid_room.adds
        ∙ each_grew_cong out.adds (beside (tabs a) (list_at mid.adds) (list_at last.adds)) (beside (tabs a) ga gb)
        (λ p h. beside_cong (tabs b) (tabs a) (list_at mid.adds) ga (list_at last.adds) gb p
        (let e = room.adds in omega (arith, h, e))
        (λ q hq. grown_list (tabs a) mid0.adds mid.adds ga q bm.adds ema hq)
        (λ q hq. grown_list (tabs b) last0.adds last.adds gb q bl.adds emb hq))

    -- wherever firings may begin, and whatever was received since
    module _ (start : List Kept) (w : Word) (x : item.Item) (is_start : IsStart (fused a b at) reads start) (tw : IsWordOf reads w) (tx : IsOf reads port x)
        (sa : StandsAfter (fused a b at) reads start st w) (h : held_at reads port (at_port port w) (x ∷ []) ≡ i ∷ []) where
      abbrev start_a : List Kept
      start_a = take (privates a) start

      abbrev start_b : List Kept
      start_b = drop (privates a) start

      -- the first part, after the word and with the item
      abbrev wa : Fired
      wa = ran_from a start_a w

      abbrev ra : Fired
      ra = fire a port x wa.states

      -- what came between the parts, before and now
      abbrev past : List item.Item
      past = wa.outs at

      abbrev xs : List item.Item
      xs = ra.outs at

      -- the second part, after that and with that
      abbrev wb : Fired
      wb = ran_from b start_b (word_of 0 past)

      abbrev rb : Fired
      rb = feed (fire b 0) xs wb.states

      -- the two as one
      abbrev whole : Fired
      whole = ran_from (fused a b at) start w

      abbrev both_fire : Fired
      both_fire = fused_of at (outs b) (tabs a) ra (λ l. feed (fire b 0) l wb.states)

      is_a : IsStart a reads start_a
      is_a = record { shape = is_start.shape.0; holds = is_start.holds.0 }

      is_b : IsStart b (m ∷ []) start_b
      is_b = record { shape = is_start.shape.1; holds = subst (λ (l : List QueueType). Holds b l start_b) mid_is is_start.holds.1 }

      -- what the first part gives
      one : TookHeld ms wa mid0 mid ra × StandsAfter a reads start_a mine' (w ++ (port, x) ∷ [])
      one = first_does.gives.given start_a w x is_a tw tx sa.0 h

      typed_past : All (HasType m) past
      typed_past = subst (λ o. All (IsTyped o) past) g (ran_typed a reads ms us start_a w fa is_a tw at)

      typed_xs : All (HasType m) xs
      typed_xs = subst (λ o. All (IsTyped o) xs) g (fired_typed a reads ms us start_a w port x fa is_a tw tx at)

      came : items ≡ held m past xs
      came = is ∙ grown_list (outs a) mid0.outs mid.outs (λ p. held_at ms p (wa.outs p) (ra.outs p)) at bm.outs one.0.outs s.2 ∙ ap (λ o. held_by o past xs) g

      stands_b : StandsAfter b (m ∷ []) start_b (drop (privates a) st) (word_of 0 past)
      stands_b = subst (λ (l : List QueueType). StandsAfter b l start_b (drop (privates a) st) (word_of 0 past)) mid_is sa.1

      -- what the second part gives
      two : TookHeld bs wb last0 last rb × StandsAfter b (m ∷ []) start_b rest' (word_of 0 past ++ word_of 0 xs)
      two = second_does.gives.given start_b (word_of 0 past) xs is_b (word_typed (m ∷ []) 0 past typed_past) typed_xs stands_b
          (ap (λ l. held m l xs) (at_port-word_same 0 past) ∙ sym came)

      parts : Same whole (fused_of at (outs b) (tabs a) wa (λ ys. ran_from b start_b (word_of 0 ys)))
      parts = fused_ran a b at start w s is_start.shape

      -- the firing of the two as one is that of both
      fire_is : both_fire ≡ fire (fused a b at) port x whole.states
      fire_is =
          let la : length wa.states ≡ privates a = ran_length a start_a w s.0 is_start.shape.0 in
          let ta : take (privates a) whole.states ≡ wa.states = ap (take (privates a)) parts.states ∙ take_at wa.states wb.states (privates a) la in
          let tb : drop (privates a) whole.states ≡ wb.states = ap (drop (privates a)) parts.states ∙ drop_at wa.states wb.states (privates a) la in
          ap (λ us. fused_of at (outs b) (tabs a) (fire a port x us) (λ l. feed (fire b 0) l wb.states)) (sym ta)
          ∙ ap (λ us. fused_of at (outs b) (tabs a) (fire a port x (take (privates a) whole.states)) (λ l. feed (fire b 0) l us)) (sym tb)

      -- so the lists of the whole grow by what queues hold for it
      took : TookHeld (spliced at ms bs) whole out new both_fire
      took = record {
        outs = outs_grew (λ p. held_at ms p (wa.outs p) (ra.outs p)) (λ p. held_at bs p (wb.outs p) (rb.outs p)) one.0.outs two.0.outs
            ∙ each_grew_cong out.outs
            (splice at (length bs) (λ p. held_at ms p (wa.outs p) (ra.outs p)) (λ p. held_at bs p (wb.outs p) (rb.outs p)))
            (λ p. held_at (spliced at ms bs) p (whole.outs p) (splice at (outs b) ra.outs rb.outs p))
            (λ p lt. splice_held ms bs at p wa.outs ra.outs wb.outs rb.outs at_ms
            ∙ ap (λ n. held_at (spliced at ms bs) p (splice at n wa.outs wb.outs p) (splice at n ra.outs rb.outs p)) bs_many
            ∙ ap (λ l. held_at (spliced at ms bs) p l (splice at (outs b) ra.outs rb.outs p)) (sym (parts.outs p)));
        adds = adds_grew ra.adds rb.adds one.0.adds two.0.adds;
      }

      -- and the states of both stand for those of the whole
      given : TookHeld (spliced at ms bs) whole out new (fire (fused a b at) port x whole.states)
          × StandsAfter (fused a b at) reads start (mine' ++ rest') (w ++ (port, x) ∷ [])
      given =
          let more = ran_more a start_a w port x in
          let wb' = word_of 0 ((ran_from a start_a (w ++ (port, x) ∷ [])).outs at) in (
            subst (λ (r : Fired). TookHeld (spliced at ms bs) whole out new r) fire_is took,
            parts_after a b at reads start mine' rest' (w ++ (port, x) ∷ []) (fit_length a reads mine' first_does.came.again) one.1
                (subst (λ (l : List QueueType). StandsAfter b l start_b rest' wb') (sym mid_is)
                (subst (StandsAfter b (m ∷ []) start_b rest') (sym (word_append 0 past xs) ∙ ap (word_of 0) (sym (more.outs at))) two.1)),
          )

    -- what the two do under these types
    both_do : Does (fused a b at) reads (spliced at ms bs) (us ++ ws) port i out new st (mine' ++ rest')
    both_do = record {
      gives = record { given = given };
      came = record {
        outs = splice at (length bs) first_does.came.outs second_does.came.outs;
        adds = beside (tabs a) first_does.came.adds second_does.came.adds;
        outs_are = outs_grew first_does.came.outs second_does.came.outs first_does.came.outs_are second_does.came.outs_are;
        adds_are = adds_grew first_does.came.adds second_does.came.adds first_does.came.adds_are second_does.came.adds_are;
        held = λ p. spliced_all IsHeldBy ms bs at p first_does.came.outs second_does.came.outs at_ms first_does.came.held second_does.came.held;
        wide = fused_wide a reads ms us ws first_does.came.adds second_does.came.adds fa first_does.came.wide second_does.came.wide;
        again = parts_fit a b at reads mine' rest' first_does.came.again
            (subst (λ (l : List QueueType). FitState b l rest') (sym mid_is) second_does.came.again);
      };
    }

  -- what two parts do, one behind the other, is what the fused kernel does
  pub fused_does : FiresAt (fused a b at) port i out new st (mine' ++ rest')
  fused_does = record {
    each = λ reads writes vars f fs hi.
        subst (λ (vs : List VarKind). Does (fused a b at) reads writes vs port i out new st (mine' ++ rest')) (sym f.9)
        (subst (λ (os : List QueueType). Does (fused a b at) reads os (f.3 ++ f.4) port i out new st (mine' ++ rest')) (sym f.8)
        (both_do reads f.0 f.1 f.2 f.3 f.4 f.5 f.6 f.7 (shaped (fused a b at) reads writes vars f) fs hi));
  }
