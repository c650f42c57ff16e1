-- Firings of splitters, on items as they are and on changes.
use Rattle.std.proofs.Common.{◌≡◌, ℕ, ℤ, zero, suc, ◌<◌, Some, List, [], ◌∷◌, ◌++◌, length, replicate, refl, sym, ap, ◌∙◌, subst, arith, ⊎_elim}
use Rattle.std.specs.Prelude.{All, slice_get}
use Rattle.std.proofs.lemmas.Bool.{cases_eq}
use Rattle.std.proofs.lemmas.List.{length-replicate, length-map}
use Rattle.std.proofs.lemmas.List.Elements.{All-cons, All-nil}
use Rattle.std.proofs.lemmas.Option.{same_Some}
use Rattle.kern_changes.proofs.OwedLaws.{nothing_owed}
use Rattle.river_base.proofs.Lists.{alone_same}
use Rattle.river_base.specs.declared.item.Batch.{Batch}
use Rattle.river_base.specs.declared.item.Change.{Change}
use Rattle.river_base.specs.declared.item.Flat.TheVariants.{Batch as Batched, Change as Changed}
use Rattle.river_base.specs.declared.item.Item as item
use Rattle.river_base.specs.declared.item.Item.TheVariants.{Flat}
use Rattle.river_base.specs.declared.kind.FlatType.{FlatType}
use Rattle.river_base.specs.declared.kind.FlatType.TheVariants.{Rows, Stream, Relation}
use Rattle.river_base.specs.declared.kind.QueueType.{QueueType}
use Rattle.river_base.specs.declared.kind.QueueType.TheVariants.{Flat as FlatOf}
use Rattle.river_base.specs.Changes.{change_to, LeadsTo}
use Rattle.river_base.specs.Held.{held, content_from, HaveWidth, IsHeld, IsPlain, HasType}
use Rattle.river_base.specs.Number.{count_of}
use Rattle.river_base.specs.Places.{each_grew, only, none}
use Rattle.river_base.proofs.HeldLemmas.{held-nil, held-relation, held-plain, content-append}
use Rattle.river_base.proofs.PlaceLemmas.{each_grew_cong, only_same, only_other, if_eq, if_ne}
use Rattle.kern_rows.specs.Dealing.{Dealt, dealt_start}
use Rattle.kern_rows.specs.Needs.{HaveShares}
use Rattle.kern_rows.specs.Turns.{IsTurn, shares, next_port, next_had}
use Rattle.kern_changes.specs.declared.owed.Debt.{Debt}
use Rattle.kern_changes.specs.Owed.{AreOwed, OweLittle, AreDebtsOf, no_debt, debt_at, but_at, owed_start}
use Rattle.kern_changes.proofs.LawProofs.{nothing_holds}
use Rattle.river_kernels.specs.declared.types.VarKind.{VarKind}
use Rattle.river_kernels.specs.Fits.{relation}
use Rattle.river_kernels.specs.Kern.{deal}
use Rattle.brooklet_model.specs.Firings.{Kept, Fired, Turn, gives}
use Rattle.brooklet_model.specs.Fire.{fire, deal_one, first_kept}
use Rattle.brooklet_model.specs.Typed.{widths_in, IsWide}
use Rattle.brooklet_model.specs.Words.{Word, at_port}
use Rattle.brooklet_model.proofs.Ports.{shaped}
use Rattle.brooklet_model.proofs.Shapes.{next_turn, first_turn}
use Rattle.brooklet_step.specs.declared.emit.Emit.{Emit}
use Rattle.brooklet_step.specs.declared.state.State.{State}
use Rattle.brooklet_step.specs.declared.state.State.TheVariants as state
use Rattle.brooklet_step.specs.Dealing.{DealsAsChange, DealsItem}
use Rattle.brooklet_step.specs.Stands.{IsChange, StandsForTurn}
use Rattle.brooklet_step.specs.Took.{Took, HasLists}
use Rattle.brooklet_step.specs.Given.{held_by, held_at, IsHeldBy, IsHeldOf, columns_by, ran_from, FitState, FitTurn, DealStands, StandsAfter, TookHeld, Does, FiresAt, CanTake}
use Rattle.brooklet_step.proofs.GivenFires.{ArePlain}
use Rattle.brooklet_step.proofs.GivenLemmas.{at-plain, at_next, ran_more, not_both}
use Rattle.brooklet_step.proofs.OnePort.{relation_holds, change_held, relation_typed, came_content}
use Rattle.brooklet_step.proofs.RowFires.{got_many}

-- a queue of no relation may hold no change
pub plain_unchanged : (t : FlatType) (i : item.Item) → IsPlain (FlatOf t) → IsHeld (FlatOf t) i → IsChange i → ⊥
unfolding IsHeld
plain_unchanged (Rows w) i p h c = subst (IsHeld (FlatOf (Rows w))) c.is h
plain_unchanged (Stream w) i p h c = subst (IsHeld (FlatOf (Stream w))) c.is h
plain_unchanged (Relation w) i p h c = p

-- what is held of one more content
pub content_held : (n : ℕ) (past : List item.Item) (b : Batch) (c : Change) → c ≡ change_to (content_from [] past) b
    → held (relation n) past (Flat (Batched b) ∷ []) ≡ Flat (Changed c) ∷ []
content_held n past b c e = held-relation n past (Flat (Batched b) ∷ []) ∙ ap (λ d. Flat (Changed d) ∷ []) (sym e)

same_dealt : (a b : Dealt) → state.Deal a ≡ state.Deal b → a ≡ b
same_dealt a b h = cc

many_plain : (t : QueueType) (n : ℕ) → IsPlain t → ArePlain (replicate n t)
many_plain t zero h p = tt
many_plain t (suc n) h zero = h
many_plain t (suc n) h (suc p) = many_plain t n h p

-- one item at a place, and none elsewhere
held_only : (t : QueueType) (n place : ℕ) (g : item.Item) (p : ℕ) → place < n → IsHeld t g → All (IsHeldOf (replicate n t) p) (only place (g ∷ []) p)
held_only t n place g p lt h = ⊎_elim
    (λ e. subst (λ q. All (IsHeldOf (replicate n t) q) (only place (g ∷ []) q)) e
    (subst (All (IsHeldOf (replicate n t) place)) (sym (only_same place (g ∷ [])))
    (All-cons (IsHeldOf (replicate n t) place) g [] (subst (λ o. IsHeldBy o g) (sym (got_many t n place lt)) h) (All-nil (IsHeldOf (replicate n t) place)))))
    (λ ne. subst (All (IsHeldOf (replicate n t) p)) (sym (only_other place p (g ∷ []) (λ z. ne (sym z)))) (All-nil (IsHeldOf (replicate n t) p)))
    (cases_eq place p)

-- THE STATE

-- the state of a splitter, by what fits
pub fit_dealt : (ws : List ℤ) (reads : List QueueType) (s : State) (old : Dealt) → s ≡ state.Deal old → FitState (deal ws) reads (s ∷ [])
    → FitTurn (shares ws) reads (state.Deal old ∷ [])
fit_dealt ws reads s old e h = subst (λ (u : State). FitTurn (shares ws) reads (u ∷ [])) e h

dealt_turn : (ws : List ℤ) (reads : List QueueType) (old : Dealt) → FitTurn (shares ws) reads (state.Deal old ∷ [])
    → IsTurn (shares ws) old.turn.port old.turn.had
dealt_turn ws reads old f =
    subst (λ (d : Dealt). IsTurn (shares ws) d.turn.port d.turn.had) (sym (same_dealt old f.now (alone_same (state.Deal old) (state.Deal f.now) f.code))) f.turn

dealt_lists : (ws : List ℤ) (reads : List QueueType) (old : Dealt) → FitTurn (shares ws) reads (state.Deal old ∷ []) → length old.owed ≡ length (shares ws)
dealt_lists ws reads old f =
    subst (λ (d : Dealt). length d.owed ≡ length (shares ws)) (sym (same_dealt old f.now (alone_same (state.Deal old) (state.Deal f.now) f.code))) f.lists

dealt_few : (ws : List ℤ) (reads : List QueueType) (old : Dealt) → FitTurn (shares ws) reads (state.Deal old ∷ []) → OweLittle old.owed
dealt_few ws reads old f =
    subst (λ (d : Dealt). OweLittle d.owed) (sym (same_dealt old f.now (alone_same (state.Deal old) (state.Deal f.now) f.code))) f.few

dealt_wide : (ws : List ℤ) (reads : List QueueType) (old : Dealt) → FitTurn (shares ws) reads (state.Deal old ∷ []) → (n : ℕ)
    → columns_by (slice_get reads 0) ≡ Some n → AreDebtsOf n old.owed
dealt_wide ws reads old f n e =
    subst (λ (d : Dealt). AreDebtsOf n d.owed) (sym (same_dealt old f.now (alone_same (state.Deal old) (state.Deal f.now) f.code))) (f.wide n e)

-- what a splitter needs: its weights, its turn, and a place for what each list owes
pub deal_needs : (ws : List ℤ) (i : item.Item) (s : State) (old : Dealt) (out : Emit) → s ≡ state.Deal old → CanTake (deal ws) 0 i (s ∷ []) out
    → HaveShares (shares ws) × IsTurn (shares ws) old.turn.port old.turn.had × (length old.owed ≡ length ws) × (old.turn.port < length out.outs)
deal_needs ws i s old out e t =
    let f = fit_dealt ws t.reads s old e t.fitting.state in
    let turn = dealt_turn ws t.reads old f in
    let lists = dealt_lists ws t.reads old f in
    let many = length-map ws count_of in
    let room = t.room.outs in
    let below = turn.0 in
    (shaped (deal ws) t.reads t.fitting.writes t.fitting.vars t.fitting.fits, turn, lists ∙ many, omega (arith, below, room, many))

-- the change that a list is given
gave : {place : ℕ} {c : Change} {old new : List Debt} {g : item.Item} (h : DealsAsChange place c old new g) → g ≡ Flat (Changed h.deals.given)
gave h = h.is ∙ ap (λ f. Flat f) h.deals.is

-- where one list is given an item, each queue holds what came there
sent_held : (t : QueueType) (place : ℕ) (g : item.Item) (xs : List item.Item) (prev : ℕ → List item.Item) → held t (prev place) xs ≡ g ∷ [] → (p : ℕ)
    → only place (g ∷ []) p ≡ held t (prev p) (only place xs p)
sent_held t place g xs prev e p = ⊎_elim
    (λ q. subst (λ j. only place (g ∷ []) j ≡ held t (prev j) (only place xs j)) q
    (only_same place (g ∷ []) ∙ sym e ∙ ap (held t (prev place)) (sym (only_same place xs))))
    (λ q. only_other place p (g ∷ []) (λ z. q (sym z)) ∙ sym (held-nil t (prev p)) ∙ ap (held t (prev p)) (sym (only_other place p xs (λ z. q (sym z)))))
    (cases_eq place p)

-- where one list is given a batch, its content is that of the batch, and the others' are as they were
content_after : (place : ℕ) (b : Batch) (prev : ℕ → List item.Item) (p : ℕ)
    → content_from (content_from [] (prev p)) (only place (Flat (Batched b) ∷ []) p) ≡ but_at place b.rows (λ q. content_from [] (prev q)) p
content_after place b prev p =
    let last : ℕ → List (List ℤ) = λ q. content_from [] (prev q) in
    let xs : List item.Item = Flat (Batched b) ∷ [] in
    ⊎_elim
    (λ q. subst (λ j. content_from (last j) (only place xs j) ≡ but_at place b.rows last j) q
    (ap (content_from (last place)) (only_same place xs) ∙ sym (if_eq place place b.rows (last place) refl)))
    (λ q. ap (content_from (last p)) (only_other place p xs (λ z. q (sym z))) ∙ sym (if_ne place p b.rows (last p) q))
    (cases_eq place p)

-- A FIRING

module _ (ws : List ℤ) (i g : item.Item) (s s' : State) (old new : Dealt) (out out' : Emit) (room : HasLists (deal ws) out) (es : s ≡ state.Deal old)
    (es' : s' ≡ state.Deal new) (np : new.turn.port ≡ next_port (shares ws) old.turn.port old.turn.had)
    (nh : new.turn.had ≡ next_had (shares ws) old.turn.port old.turn.had)
    (took : Took out out' (gives old.turn.port (g ∷ []) [])) (dealt : DealsItem old.turn.port i old.owed new.owed g) where
  abbrev place : ℕ
  place = old.turn.port

  many : length out.outs ≡ length ws
  many = room.outs

  -- the state of the definition before the firing, and what it gives
  module _ (reads : List QueueType) (start : List Kept) (w : Word) (sa : DealStands ws reads start (s ∷ []) w) where
    same : old ≡ sa.stands.now
    same = same_dealt old sa.stands.now (sym es ∙ alone_same s (state.Deal sa.stands.now) sa.stands.code)

    states_are : (ran_from (deal ws) start w).states ≡ Turn place old.turn.had ∷ []
    states_are = sa.stands.defined ∙ ap (λ (d : Dealt). Turn d.turn.port d.turn.had ∷ []) (sym same)

    fired_is : (x : item.Item)
        → fire (deal ws) 0 x (ran_from (deal ws) start w).states
        ≡ gives place (x ∷ []) (Turn (next_port (shares ws) place old.turn.had) (next_had (shares ws) place old.turn.had) ∷ [])
    fired_is x = ap (deal_one (shares ws) x) states_are

    -- the next state
    next_stands : (x : item.Item) → HaveShares (shares ws) → length new.owed ≡ length old.owed
        → StandsForTurn (shares ws) (s' ∷ []) (ran_from (deal ws) start (w ++ (0, x) ∷ [])).states
    next_stands x some len = record {
      now = new;
      code = ap (λ (u : State). u ∷ []) es';
      defined = (ran_more (deal ws) start w 0 x).states ∙ ap (λ (r : Fired). r.states) (fired_is x)
          ∙ ap (λ n. Turn n (next_had (shares ws) place old.turn.had) ∷ []) (sym np) ∙ ap (λ n. Turn new.turn.port n ∷ []) (sym nh);
      turn = subst (λ n. IsTurn (shares ws) n new.turn.had) (sym np) (subst (λ n. IsTurn (shares ws) (next_port (shares ws) place old.turn.had) n) (sym nh)
          (next_turn (shares ws) place old.turn.had some (subst (λ (d : Dealt). IsTurn (shares ws) d.turn.port d.turn.had) (sym same) sa.stands.turn)));
      lists = len ∙ ap (λ (d : Dealt). length d.owed) same ∙ sa.stands.lists;
    }

  -- the state fits again
  next_fits : (reads : List QueueType) → HaveShares (shares ws) → FitTurn (shares ws) reads (state.Deal old ∷ []) → length new.owed ≡ length old.owed
      → OweLittle new.owed → ((n : ℕ) → columns_by (slice_get reads 0) ≡ Some n → AreDebtsOf n new.owed) → FitTurn (shares ws) reads (s' ∷ [])
  next_fits reads some f len few wide = record {
    now = new;
    code = ap (λ (u : State). u ∷ []) es';
    turn = subst (λ n. IsTurn (shares ws) n new.turn.had) (sym np) (subst (λ n. IsTurn (shares ws) (next_port (shares ws) place old.turn.had) n) (sym nh)
        (next_turn (shares ws) place old.turn.had some (dealt_turn ws reads old f)));
    lists = len ∙ dealt_lists ws reads old f;
    few = few;
    wide = wide;
  }

  -- on items as they are the item itself goes on
  plain : (t : FlatType) (vars : List VarKind) → IsPlain (FlatOf t) → HaveShares (shares ws) → FitTurn (shares ws) (FlatOf t ∷ []) (state.Deal old ∷ [])
      → IsHeld (FlatOf t) i → Does (deal ws) (FlatOf t ∷ []) (replicate (length ws) (FlatOf t)) vars 0 i out out' (s ∷ []) (s' ∷ [])
  plain t vars p some f hi =
      let T = FlatOf t in
      let one = dealt.plain (plain_unchanged t i p hi) in
      let len : length new.owed ≡ length old.owed = ap length one.1 in
      record {
        gives = record {
          given = λ start w x is_start tw tx sa h.
              let e : x ≡ i = alone_same x i (sym (held-plain T (at_port 0 w) (x ∷ []) p) ∙ h) in
              let before = ran_from (deal ws) start w in
              let r = fire (deal ws) 0 x before.states in
              let is : g ∷ [] ≡ x ∷ [] = ap (λ (y : item.Item). y ∷ []) (one.0 ∙ sym e) in (
                record {
                  outs = took.outs
                      ∙ each_grew_cong out.outs (only place (g ∷ [])) (λ q. held_at (replicate (length ws) T) q (before.outs q) (r.outs q))
                      (λ q lt. ap (λ l. only place l q) is ∙ ap (λ (u : Fired). u.outs q) (sym (fired_is (T ∷ []) start w sa x))
                      ∙ sym (at-plain (replicate (length ws) T) q (before.outs q) (r.outs q) (many_plain T (length ws) p q)));
                  adds = took.adds ∙ ap (λ (u : Fired). each_grew out.adds u.adds) (sym (fired_is (T ∷ []) start w sa x));
                },
                record { stands = next_stands (T ∷ []) start w sa x some len; owed = λ rel. absurd (not_both (Some T) p rel) },
              );
        };
        came = record {
          outs = only place (g ∷ []);
          adds = none;
          outs_are = took.outs;
          adds_are = took.adds;
          held = λ q. held_only T (length ws) place g q (let b = (dealt_turn ws (T ∷ []) old f).0 in let l = length-map ws count_of in omega (arith, b, l))
              (subst (IsHeld T) (sym one.0) hi);
          wide = λ j. All-nil (IsWide (slice_get (widths_in vars) j));
          again = next_fits (T ∷ []) some f len (subst OweLittle (sym one.1) (dealt_few ws (T ∷ []) old f))
              (λ n c. subst (AreDebtsOf n) (sym one.1) (dealt_wide ws (T ∷ []) old f n c));
        };
      }

  -- a change comes to all lists, and the one in turn gives what it owes
  relates : (n : ℕ) (vars : List VarKind) → HaveShares (shares ws) → FitTurn (shares ws) (relation n ∷ []) (state.Deal old ∷ [])
      → IsHeld (relation n) i → Does (deal ws) (relation n ∷ []) (replicate (length ws) (relation n)) vars 0 i out out' (s ∷ []) (s' ∷ [])
  unfolding next_stands
  relates n vars some f hi =
      let T = relation n in
      let ic = relation_holds n i hi in
      let c = ic.change in
      let like = dealt.change c ic.is in
      let one = like.deals in
      let d = one.given in
      let len = one.keeps.lists in
      let wide = one.keeps.wide n (dealt_wide ws (T ∷ []) old f n refl) ic.of.wide in
      record {
        gives = record {
          given = λ start w x is_start tw tx sa h. over start w x tx sa h;
        };
        came = record {
          outs = only place (g ∷ []);
          adds = none;
          outs_are = took.outs;
          adds_are = took.adds;
          held = λ q. held_only T (length ws) place g q (let b = (dealt_turn ws (T ∷ []) old f).0 in let l = length-map ws count_of in omega (arith, b, l))
              (subst (IsHeld T) (sym (gave like)) (change_held n d (record { normal = one.keeps.normal; wide = wide.0 })));
          wide = λ j. All-nil (IsWide (slice_get (widths_in vars) j));
          again = next_fits (T ∷ []) some f len (one.keeps.few (dealt_few ws (T ∷ []) old f))
              (λ m e. subst (λ k. AreDebtsOf k new.owed) (same_Some n m e) wide.1);
        };
      }
    where
      over : (start : List Kept) (w : Word) (x : item.Item) → HasType (relation n) x → DealStands ws (relation n ∷ []) start (s ∷ []) w
          → held (relation n) (at_port 0 w) (x ∷ []) ≡ i ∷ []
          → TookHeld (replicate (length ws) (relation n)) (ran_from (deal ws) start w) out out' (fire (deal ws) 0 x (ran_from (deal ws) start w).states)
          × DealStands ws (relation n ∷ []) start (s' ∷ []) (w ++ (0, x) ∷ [])
      over start w x tx sa h =
          let T = relation n in
          let ic = relation_holds n i hi in
          let c = ic.change in
          let like = dealt.change c ic.is in
          let one = like.deals in
          let d = one.given in
          let xb = relation_typed n x tx in
          let b = xb.batch in
          let before = ran_from (deal ws) start w in
          let prev = before.outs in
          let now = content_from [] (at_port 0 w) in
          let last : ℕ → List (List ℤ) = λ p. content_from [] (prev p) in
          let is : c ≡ change_to now b = came_content n (at_port 0 w) c b x xb.is (h ∙ ap (λ (y : item.Item). y ∷ []) ic.is) in
          let owed : AreOwed old.owed last (λ p. now) = subst (λ (e : Dealt). AreOwed e.owed last (λ p. now)) (sym (same (T ∷ []) start w sa)) (sa.owed tt) in
          let r = one.contents.each now last b owed is in
          let xs : List item.Item = Flat (Batched b) ∷ [] in
          let fired =
          fired_is (T ∷ []) start w sa x
          ∙ ap (λ (y : item.Item). gives place (y ∷ [])
          (Turn (next_port (shares ws) place old.turn.had) (next_had (shares ws) place old.turn.had) ∷ [])) xb.is in
          let at_is = sent_held T place g xs prev (content_held n (prev place) b d r.0 ∙ ap (λ (y : item.Item). y ∷ []) (sym (gave like))) in
          let more = ran_more (deal ws) start w 0 x in
          let after : (p : ℕ) → content_from [] ((ran_from (deal ws) start (w ++ (0, x) ∷ [])).outs p) ≡ but_at place b.rows last p = λ p.
          ap (content_from []) (more.outs p ∙ ap (λ (u : Fired). prev p ++ u.outs p) fired) ∙ content-append [] (prev p) (only place xs p)
          ∙ content_after place b prev p in
          let next : content_from [] (at_port 0 (w ++ (0, x) ∷ [])) ≡ b.rows =
          ap (content_from []) (at_next 0 w x ∙ ap (λ (y : item.Item). at_port 0 w ++ y ∷ []) xb.is) ∙ content-append [] (at_port 0 w) xs in (
            record {
              outs = took.outs
                  ∙ each_grew_cong out.outs (only place (g ∷ []))
                  (λ q. held_at (replicate (length ws) T) q (prev q) ((fire (deal ws) 0 x before.states).outs q))
                  (λ q lt. at_is q
                  ∙ ap (λ o. held_by o (prev q) (only place xs q)) (sym (got_many T (length ws) q (omega (arith, lt, many))))
                  ∙ ap (λ (u : Fired). held_at (replicate (length ws) T) q (prev q) (u.outs q)) (sym fired));
              adds = took.adds ∙ ap (λ (u : Fired). each_grew out.adds u.adds) (sym fired);
            },
            record {
              stands = next_stands (T ∷ []) start w sa x some one.keeps.lists;
              owed = λ rel p lt.
                  subst (λ l. LeadsTo l (content_from [] (at_port 0 (w ++ (0, x) ∷ []))) (debt_at new.owed p).plus (debt_at new.owed p).minus) (sym (after p))
                  (subst (λ l. LeadsTo (but_at place b.rows last p) l (debt_at new.owed p).plus (debt_at new.owed p).minus) (sym next) (r.1 p lt));
            },
          )

  -- under each type
  pub deal_does : HaveShares (shares ws) → FiresAt (deal ws) 0 i out out' (s ∷ []) (s' ∷ [])
  deal_does some = record {
    each = λ reads writes vars f fs hi.
        subst (λ (l : List QueueType). Does (deal ws) l writes vars 0 i out out' (s ∷ []) (s' ∷ [])) (sym f.1)
        (subst (λ (l : List QueueType). Does (deal ws) (FlatOf f.0 ∷ []) l vars 0 i out out' (s ∷ []) (s' ∷ [])) (sym f.2)
        (by f.0 vars (subst (λ (l : List QueueType). FitTurn (shares ws) l (state.Deal old ∷ [])) f.1 (fit_dealt ws reads s old es fs))
        (subst (λ (l : List QueueType). IsHeldOf l 0 i) f.1 hi)));
  }
    where
      by : (t : FlatType) (vars : List VarKind) → FitTurn (shares ws) (FlatOf t ∷ []) (state.Deal old ∷ []) → IsHeld (FlatOf t) i
          → Does (deal ws) (FlatOf t ∷ []) (replicate (length ws) (FlatOf t)) vars 0 i out out' (s ∷ []) (s' ∷ [])
      by (Rows n) vars f hi = plain (Rows n) vars tt some f hi
      by (Stream n) vars f hi = plain (Stream n) vars tt some f hi
      by (Relation n) vars f hi = relates n vars some f hi

-- BEFORE THE FIRST FIRING

-- rows of whatever width are those of nothing
pub start_wide : (n m : ℕ) → AreDebtsOf n (owed_start m)
start_wide n m = record {
  plus = λ p lt. subst (λ (d : Debt). HaveWidth n d.plus) (sym (nothing_owed m p)) (All-nil (λ (row : List ℤ). length row ≡ n));
  minus = λ p lt. subst (λ (d : Debt). HaveWidth n d.minus) (sym (nothing_owed m p)) (All-nil (λ (row : List ℤ). length row ≡ n));
}

-- the first state stands for the definition's
pub deal_first_after : (ws : List ℤ) (reads : List QueueType) → HaveShares (shares ws)
    → StandsAfter (deal ws) reads (first_kept (deal ws)) (state.Deal (dealt_start (length ws)) ∷ []) []
deal_first_after ws reads some = record {
  stands = record {
    now = dealt_start (length ws);
    code = refl;
    defined = refl;
    turn = first_turn (shares ws) some;
    lists = length-replicate (length ws) no_debt ∙ sym (length-map ws count_of);
  };
  owed = λ rel. nothing_holds.owed (length ws);
}

-- and fits
pub deal_first_fits : (ws : List ℤ) (reads : List QueueType) → HaveShares (shares ws) → FitState (deal ws) reads (state.Deal (dealt_start (length ws)) ∷ [])
deal_first_fits ws reads some = record {
  now = dealt_start (length ws);
  code = refl;
  turn = first_turn (shares ws) some;
  lists = length-replicate (length ws) no_debt ∙ sym (length-map ws count_of);
  few = nothing_holds.little (length ws);
  wide = λ n e. start_wide n (length ws);
}
