-- Two kernels as one, fired on the items of a list.
use Rattle.std.proofs.Common.{◌≡◌, ℕ, ℤ, ◌<◌, List, [], ◌∷◌, ◌++◌, length, take, drop, sym, ap, ◌∙◌, subst, arith}
use Rattle.std.specs.Prelude.{All, slice_get, Some}
use Rattle.std.proofs.lemmas.List.{take_at, drop_at}
use Rattle.river_base.specs.declared.item.Item as item
use Rattle.river_base.specs.declared.kind.QueueType.{QueueType}
use Rattle.river_base.specs.Held.{held, HasType}
use Rattle.river_base.specs.Places.{each_grew, list_at}
use Rattle.river_base.proofs.PlaceLemmas.{each_grew_cong}
use Rattle.river_kernels.specs.declared.types.VarKind.{VarKind}
use Rattle.river_kernels.specs.Fits.{Fits, spliced}
use Rattle.river_kernels.specs.Types.{types_of}
use Rattle.river_kernels.specs.Kern.{Kern, fused}
use Rattle.brooklet_model.specs.Firings.{Kept, Fired, Same, feed, splice, beside, fused_of}
use Rattle.brooklet_model.specs.Fire.{fire, outs, tabs, privates}
use Rattle.brooklet_model.specs.Shapes.{IsShaped, HasShape}
use Rattle.brooklet_model.specs.Typed.{IsOf, IsTyped, IsWordOf, IsStart, Holds, between}
use Rattle.brooklet_model.specs.Words.{Word, at_port, run, word_of}
use Rattle.brooklet_model.proofs.Feeds.{feed_word}
use Rattle.brooklet_model.proofs.Free.{at_port-word_same}
use Rattle.brooklet_model.proofs.FusedRun.{fused_runs}
use Rattle.brooklet_model.proofs.Ports.{shaped, counts}
use Rattle.brooklet_model.proofs.Spliced.{spliced_all}
use Rattle.brooklet_model.proofs.TypedPlan.{at_append, at_word as word_typed}
use Rattle.brooklet_model.proofs.Typing.{between_is}
use Rattle.brooklet_model.proofs.WideAdds.{fused_wide}
use Rattle.brooklet_step.specs.declared.emit.Emit.{Emit}
use Rattle.brooklet_step.specs.declared.state.State.{State}
use Rattle.brooklet_step.specs.Took.{HasLists, IsBlank}
use Rattle.brooklet_step.specs.Given.{held_by, held_at, IsHeldBy, IsHeldOf, FitState, ran_from, StandsAfter, TookHeld, DoesAll, FiresEach}
use Rattle.brooklet_step.proofs.Fires.{grown_list, blank_room}
use Rattle.brooklet_step.proofs.Fused.{splice_cong, beside_cong}
use Rattle.brooklet_step.proofs.GivenFires.{ran_feed}
use Rattle.brooklet_step.proofs.GivenLemmas.{all_right, word_append, ran_length, ran_typed, shape_ran, fit_length, parts_fit, parts_after}
use Rattle.brooklet_step.proofs.GivenParts.{came_room, fused_ran, splice_held}

-- what came is told by what is given alone
took_same : (writes : List QueueType) (before : Fired) (old new : Emit) (r s : Fired) → Same r s → TookHeld writes before old new r → TookHeld writes before old new s
took_same writes before old new r s e t = record {
  outs = t.outs
      ∙ each_grew_cong old.outs (λ p. held_at writes p (before.outs p) (r.outs p)) (λ p. held_at writes p (before.outs p) (s.outs p))
      (λ p lt. ap (held_at writes p (before.outs p)) (e.outs p));
  adds = t.adds ∙ each_grew_cong old.adds r.adds s.adds (λ p lt. e.adds p);
}

-- the firings of two kernels as one, on a list at the first port, are those of both
fused_feeds : (a b : Kern) (at : ℕ) (xs : List item.Item) (ss : List Kept) → IsShaped (fused a b at) → HasShape (fused a b at) ss
    → Same (fused_of at (outs b) (tabs a) (feed (fire a 0) xs (take (privates a) ss)) (λ ys. feed (fire b 0) ys (drop (privates a) ss)))
    (feed (fire (fused a b at) 0) xs ss)
fused_feeds a b at xs ss s h =
    let k = fused a b at in
    let e = fused_runs a b at (word_of 0 xs) ss s h in
    let f : Same (feed (fire k 0) xs ss)
    (fused_of at (outs b) (tabs a) (feed (fire a 0) xs (take (privates a) ss)) (λ ys. feed (fire b 0) ys (drop (privates a) ss))) =
    subst (λ (r : Fired). Same (feed (fire k 0) xs ss) (fused_of at (outs b) (tabs a) r (λ ys. feed (fire b 0) ys (drop (privates a) ss))))
    (feed_word (fire a) 0 xs (take (privates a) ss))
    (subst (λ (r : Fired). Same r (fused_of at (outs b) (tabs a) (run (fire a) (word_of 0 xs) (take (privates a) ss)) (λ ys. feed (fire b 0) ys (drop (privates a) ss))))
    (feed_word (fire k) 0 xs ss) e) in
    record { outs = λ p. sym (f.outs p); adds = λ t. sym (f.adds t); states = sym f.states }

module _ (a b : Kern) (at : ℕ) (is : List item.Item) (st mine' rest' : List State) (out new mid0 mid last0 last : Emit)
    (room : HasLists (fused a b at) out) (bm : IsBlank a mid0) (fm : FiresEach a is mid0 mid (take (privates a) st) mine') (bl : IsBlank b last0)
    (fl : FiresEach b (list_at mid.outs at) last0 last (drop (privates a) st) rest')
    (eo : new.outs ≡ each_grew out.outs (splice at (length last.outs) (list_at mid.outs) (list_at last.outs)))
    (ea : new.adds ≡ each_grew out.adds (beside (length mid.adds) (list_at mid.adds) (list_at last.adds))) where
  -- under each choice of types for the ports
  module _ (reads ms : List QueueType) (m : QueueType) (bs : List QueueType) (us ws : List VarKind) (fa : Fits a reads ms us) (g : slice_get ms at ≡ Some m)
      (fb : Fits b (m ∷ []) bs ws) (s : IsShaped (fused a b at)) (fs : FitState (fused a b at) reads st) (his : All (IsHeldOf reads 0) is) where
    at_ms : at < length ms
    at_ms = let e = (counts a reads ms us fa).outs in omega (arith, e, s.2)

    bs_many : length bs ≡ outs b
    bs_many = (counts b (m ∷ []) bs ws fb).outs

    -- what the first part does
    first_does : DoesAll a reads ms us is mid0 mid (take (privates a) st) mine'
    first_does = fm.each reads ms us fa fs.0 his

    mid_is : between at (types_of a reads) ≡ m ∷ []
    mid_is = between_is a reads ms m us at fa g

    -- what comes between the parts may be held there
    items_held : All (IsHeldOf (m ∷ []) 0) (list_at mid.outs at)
    items_held =
        subst (λ (l : List item.Item). All (IsHeldOf (m ∷ []) 0) l)
        (sym (grown_list (outs a) mid0.outs mid.outs first_does.came.outs at bm.outs first_does.came.outs_are s.2))
        (subst (λ o. All (IsHeldBy o) (first_does.came.outs at)) g (first_does.came.held at))

    -- what the second part does with it
    second_does : DoesAll b (m ∷ []) bs ws (list_at mid.outs at) last0 last (drop (privates a) st) rest'
    second_does = fl.each (m ∷ []) bs ws fb (subst (λ (l : List QueueType). FitState b l (drop (privates a) st)) mid_is fs.1) items_held

    mid_room : HasLists a mid
    mid_room = came_room a reads ms us mid0 mid mine' (blank_room a mid0 bm) first_does.came

    last_room : HasLists b last
    last_room = came_room b (m ∷ []) bs ws last0 last rest' (blank_room b last0 bl) second_does.came

    -- where the lists of the parts grew by these, those of the whole grew by both
    outs_grew : (ga gb : ℕ → List item.Item) → mid.outs ≡ each_grew mid0.outs ga → last.outs ≡ each_grew last0.outs gb
        → new.outs ≡ each_grew out.outs (splice at (length bs) ga gb)
    outs_grew ga gb ema emb =
        eo ∙ ap (λ n. each_grew out.outs (splice at n (list_at mid.outs) (list_at last.outs))) (last_room.outs ∙ sym bs_many)
        ∙ each_grew_cong out.outs (splice at (length bs) (list_at mid.outs) (list_at last.outs)) (splice at (length bs) ga gb)
        (λ p h. splice_cong at (length bs) (outs a) (list_at mid.outs) ga (list_at last.outs) gb p s.2
        (let e = room.outs in let e2 = bs_many in omega (arith, h, s.2, e, e2))
        (λ q hq. grown_list (outs a) mid0.outs mid.outs ga q bm.outs ema hq)
        (λ q hq. grown_list (outs b) last0.outs last.outs gb q bl.outs emb (let e2 = bs_many in omega (arith, hq, e2))))

    adds_grew : (ga gb : ℕ → List (List ℤ)) → mid.adds ≡ each_grew mid0.adds ga → last.adds ≡ each_grew last0.adds gb
        → new.adds ≡ each_grew out.adds (beside (tabs a) ga gb)
    adds_grew ga gb ema emb =
        ea ∙ ap (λ n. each_grew out.adds (beside n (list_at mid.adds) (list_at last.adds))) mid_room.adds
        ∙ each_grew_cong out.adds (beside (tabs a) (list_at mid.adds) (list_at last.adds)) (beside (tabs a) ga gb)
        (λ p h. beside_cong (tabs b) (tabs a) (list_at mid.adds) ga (list_at last.adds) gb p
        (let e = room.adds in omega (arith, h, e))
        (λ q hq. grown_list (tabs a) mid0.adds mid.adds ga q bm.adds ema hq)
        (λ q hq. grown_list (tabs b) last0.adds last.adds gb q bl.adds emb hq))

    -- wherever firings may begin, and whatever was received since
    module _ (start : List Kept) (w : Word) (xs : List item.Item) (is_start : IsStart (fused a b at) reads start) (tw : IsWordOf reads w)
        (txs : All (IsOf reads 0) xs) (sa : StandsAfter (fused a b at) reads start st w) (h : held_at reads 0 (at_port 0 w) xs ≡ is) where
      abbrev start_a : List Kept
      start_a = take (privates a) start

      abbrev start_b : List Kept
      start_b = drop (privates a) start

      -- the first part, after the word and with the items
      abbrev wa : Fired
      wa = ran_from a start_a w

      abbrev ra : Fired
      ra = feed (fire a 0) xs wa.states

      -- what came between the parts, before and now
      abbrev past : List item.Item
      past = wa.outs at

      abbrev ys : List item.Item
      ys = ra.outs at

      -- the second part, after that and with that
      abbrev wb : Fired
      wb = ran_from b start_b (word_of 0 past)

      abbrev rb : Fired
      rb = feed (fire b 0) ys wb.states

      -- the two as one
      abbrev whole : Fired
      whole = ran_from (fused a b at) start w

      abbrev both : Fired
      both = fused_of at (outs b) (tabs a) ra (λ l. feed (fire b 0) l wb.states)

      is_a : IsStart a reads start_a
      is_a = record { shape = is_start.shape.0; holds = is_start.holds.0 }

      is_b : IsStart b (m ∷ []) start_b
      is_b = record { shape = is_start.shape.1; holds = subst (λ (l : List QueueType). Holds b l start_b) mid_is is_start.holds.1 }

      -- what the first part gives
      one : TookHeld ms wa mid0 mid ra × StandsAfter a reads start_a mine' (w ++ word_of 0 xs)
      one = first_does.gives.given start_a w xs is_a tw txs sa.0 h

      typed_past : All (HasType m) past
      typed_past = subst (λ o. All (IsTyped o) past) g (ran_typed a reads ms us start_a w fa is_a tw at)

      more : Same (ran_from a start_a (w ++ word_of 0 xs)) (record { outs = λ p. wa.outs p ++ ra.outs p; adds = λ t. wa.adds t ++ ra.adds t; states = ra.states })
      more = ran_feed a start_a w xs

      typed_ys : All (HasType m) ys
      typed_ys = subst (λ o. All (IsTyped o) ys) g (all_right (IsOf ms at) past ys (subst (All (IsOf ms at)) (more.outs at)
          (ran_typed a reads ms us start_a (w ++ word_of 0 xs) fa is_a (at_append reads w (word_of 0 xs) tw (word_typed reads 0 xs txs)) at)))

      came : list_at mid.outs at ≡ held m past ys
      came = grown_list (outs a) mid0.outs mid.outs (λ p. held_at ms p (wa.outs p) (ra.outs p)) at bm.outs one.0.outs s.2 ∙ ap (λ o. held_by o past ys) g

      stands_b : StandsAfter b (m ∷ []) start_b (drop (privates a) st) (word_of 0 past)
      stands_b = subst (λ (l : List QueueType). StandsAfter b l start_b (drop (privates a) st) (word_of 0 past)) mid_is sa.1

      -- what the second part gives
      two : TookHeld bs wb last0 last rb × StandsAfter b (m ∷ []) start_b rest' (word_of 0 past ++ word_of 0 ys)
      two = second_does.gives.given start_b (word_of 0 past) ys is_b (word_typed (m ∷ []) 0 past typed_past) typed_ys stands_b
          (ap (λ l. held m l ys) (at_port-word_same 0 past) ∙ sym came)

      parts : Same whole (fused_of at (outs b) (tabs a) wa (λ zs. ran_from b start_b (word_of 0 zs)))
      parts = fused_ran a b at start w s is_start.shape

      -- the firings of the two as one are those of both
      feeds : Same both (feed (fire (fused a b at) 0) xs whole.states)
      feeds =
          let la : length wa.states ≡ privates a = ran_length a start_a w s.0 is_start.shape.0 in
          let ta : take (privates a) whole.states ≡ wa.states = ap (take (privates a)) parts.states ∙ take_at wa.states wb.states (privates a) la in
          let tb : drop (privates a) whole.states ≡ wb.states = ap (drop (privates a)) parts.states ∙ drop_at wa.states wb.states (privates a) la in
          subst (λ (us : List Kept). Same (fused_of at (outs b) (tabs a) (feed (fire a 0) xs us) (λ l. feed (fire b 0) l wb.states))
          (feed (fire (fused a b at) 0) xs whole.states)) ta
          (subst (λ (us : List Kept). Same (fused_of at (outs b) (tabs a) (feed (fire a 0) xs (take (privates a) whole.states)) (λ l. feed (fire b 0) l us))
          (feed (fire (fused a b at) 0) xs whole.states)) tb
          (fused_feeds a b at xs whole.states s (shape_ran (fused a b at) w start s is_start.shape)))

      -- so the lists of the whole grow by what queues hold for it
      took : TookHeld (spliced at ms bs) whole out new both
      took = record {
        outs = outs_grew (λ p. held_at ms p (wa.outs p) (ra.outs p)) (λ p. held_at bs p (wb.outs p) (rb.outs p)) one.0.outs two.0.outs
            ∙ each_grew_cong out.outs
            (splice at (length bs) (λ p. held_at ms p (wa.outs p) (ra.outs p)) (λ p. held_at bs p (wb.outs p) (rb.outs p)))
            (λ p. held_at (spliced at ms bs) p (whole.outs p) (splice at (outs b) ra.outs rb.outs p))
            (λ p lt. splice_held ms bs at p wa.outs ra.outs wb.outs rb.outs at_ms
            ∙ ap (λ n. held_at (spliced at ms bs) p (splice at n wa.outs wb.outs p) (splice at n ra.outs rb.outs p)) bs_many
            ∙ ap (λ l. held_at (spliced at ms bs) p l (splice at (outs b) ra.outs rb.outs p)) (sym (parts.outs p)));
        adds = adds_grew ra.adds rb.adds one.0.adds two.0.adds;
      }

      -- and the states of both stand for those of the whole
      given : TookHeld (spliced at ms bs) whole out new (feed (fire (fused a b at) 0) xs whole.states)
          × StandsAfter (fused a b at) reads start (mine' ++ rest') (w ++ word_of 0 xs)
      given =
          let wb' = word_of 0 ((ran_from a start_a (w ++ word_of 0 xs)).outs at) in (
            took_same (spliced at ms bs) whole out new both (feed (fire (fused a b at) 0) xs whole.states) feeds took,
            parts_after a b at reads start mine' rest' (w ++ word_of 0 xs) (fit_length a reads mine' first_does.came.again) one.1
                (subst (λ (l : List QueueType). StandsAfter b l start_b rest' wb') (sym mid_is)
                (subst (StandsAfter b (m ∷ []) start_b rest') (sym (word_append 0 past ys) ∙ ap (word_of 0) (sym (more.outs at))) two.1)),
          )

    -- what the two do under these types
    both_do : DoesAll (fused a b at) reads (spliced at ms bs) (us ++ ws) is out new st (mine' ++ rest')
    both_do = record {
      gives = record { given = given };
      came = record {
        outs = splice at (length bs) first_does.came.outs second_does.came.outs;
        adds = beside (tabs a) first_does.came.adds second_does.came.adds;
        outs_are = outs_grew first_does.came.outs second_does.came.outs first_does.came.outs_are second_does.came.outs_are;
        adds_are = adds_grew first_does.came.adds second_does.came.adds first_does.came.adds_are second_does.came.adds_are;
        held = λ p. spliced_all IsHeldBy ms bs at p first_does.came.outs second_does.came.outs at_ms first_does.came.held second_does.came.held;
        wide = fused_wide a reads ms us ws first_does.came.adds second_does.came.adds fa first_does.came.wide second_does.came.wide;
        again = parts_fit a b at reads mine' rest' first_does.came.again
            (subst (λ (l : List QueueType). FitState b l rest') (sym mid_is) second_does.came.again);
      };
    }

  -- what two parts do on a list, one behind the other, is what the fused kernel does on it
  pub fused_each : FiresEach (fused a b at) is out new st (mine' ++ rest')
  fused_each = record {
    each = λ reads writes vars f fs his.
        subst (λ (vs : List VarKind). DoesAll (fused a b at) reads writes vs is out new st (mine' ++ rest')) (sym f.9)
        (subst (λ (os : List QueueType). DoesAll (fused a b at) reads os (f.3 ++ f.4) is out new st (mine' ++ rest')) (sym f.8)
        (both_do reads f.0 f.1 f.2 f.3 f.4 f.5 f.6 f.7 (shaped (fused a b at) reads writes vars f) fs his));
  }
