-- Firings of joiners, on items as they are and on changes.
use Rattle.std.proofs.Common.{◌≡◌, ◌≢◌, ℕ, ℤ, zero, suc, ◌<◌, ◌≤◌, Option, Some, None, List, [], ◌∷◌, ◌++◌, length, replicate}
use Rattle.std.proofs.Common.{refl, sym, ap, ◌∙◌, subst, arith, inl, inr, ⊎_elim}
use Rattle.std.specs.Prelude.{All, slice_get, ◌⊎◌}
use Rattle.std.proofs.lemmas.Bool.{cases_eq, cases_lt}
use Rattle.std.proofs.lemmas.List.{append-nil, length-replicate, length-map}
use Rattle.std.proofs.lemmas.List.Elements.{All-cons, All-nil, All-append, All-weaker}
use Rattle.std.proofs.lemmas.Option.{same_Some}
use Rattle.kern_rows.proofs.JoinLaws.{held_from-append}
use Rattle.river_base.proofs.Lists.{alone_same}
use Rattle.river_base.specs.declared.item.Flat as flat
use Rattle.river_base.specs.declared.item.Flat.TheVariants.{One, Batch as Batched, Change as Changed}
use Rattle.river_base.specs.declared.item.Item as item
use Rattle.river_base.specs.declared.item.Item.TheVariants.{Flat, Pack}
use Rattle.river_base.specs.declared.kind.FlatType.{FlatType}
use Rattle.river_base.specs.declared.kind.FlatType.TheVariants.{Rows, Stream, Relation}
use Rattle.river_base.specs.declared.kind.QueueType.{QueueType}
use Rattle.river_base.specs.declared.kind.QueueType.TheVariants.{Flat as FlatOf, Pack as PackOf}
use Rattle.river_base.specs.Held.{held, held_from, held_item, content_from, HasType, HasFlatType, IsHeld, IsPlain, IsRelation, items_of}
use Rattle.river_base.specs.Number.{count_of}
use Rattle.river_base.specs.Places.{each_grew, append_at, list_at, only, none}
use Rattle.river_base.proofs.HeldLemmas.{held-relation, held-packs, content-append}
use Rattle.river_base.proofs.PlaceLemmas.{each_grew_cong, length-append_at, list_past, append_here, append_else, blank_at}
use Rattle.kern_rows.specs.Joined as joined
use Rattle.kern_rows.specs.Joined.{JoinKept, join_start, put_item, HasJoinShape, IsUnchanged, PassesOpened, AreOpened, StandsForJoining, JoinedItems, JoinsItems}
use Rattle.kern_rows.specs.Joined.{JoinedPlainly, JoinsPlainly, flat_in, MayOwe, IsJoinOf, KeepsJoin}
use Rattle.kern_rows.specs.Needs.{HaveShares}
use Rattle.kern_rows.specs.Turns.{Turns, shares, ones, put, settled, itself}
use Rattle.kern_changes.specs.declared.owed.Debt.{Debt}
use Rattle.kern_changes.specs.Owed.{OweLittle, AreDebtsOf, no_debt}
use Rattle.kern_changes.proofs.LawProofs.{nothing_holds}
use Rattle.river_kernels.specs.declared.types.VarKind.{VarKind}
use Rattle.river_kernels.specs.Fits.{Fits}
use Rattle.river_kernels.specs.Kern.{Kern, collect, unpack}
use Rattle.brooklet_model.specs.Firings.{Kept, Fired, Joining, gives}
use Rattle.brooklet_model.specs.Fire.{fire, join_one, first_kept}
use Rattle.brooklet_model.specs.Shapes.{HasShape}
use Rattle.brooklet_model.specs.Typed.{IsTyped, IsOf, AreOf, AreWaiting, Holds, IsWordOf, IsStart, widths_in, IsWide}
use Rattle.brooklet_model.specs.Words.{Word, run, at_port}
use Rattle.brooklet_model.proofs.Free.{at_port-append}
use Rattle.brooklet_model.proofs.Ports.{shaped}
use Rattle.brooklet_model.proofs.Shapes.{fire_shape, first_turn}
use Rattle.brooklet_model.proofs.Swaps.{at_port_past}
use Rattle.brooklet_model.proofs.Typing.{fire_typed}
use Rattle.brooklet_step.specs.declared.emit.Emit.{Emit}
use Rattle.brooklet_step.specs.declared.state.State.{State}
use Rattle.brooklet_step.specs.declared.state.State.TheVariants as state
use Rattle.brooklet_step.specs.Stands.{IsPack}
use Rattle.brooklet_step.specs.Took.{Took}
use Rattle.brooklet_step.specs.Given.{held_by, held_at, IsHeldBy, IsHeldOf, AreHeldOf, IsPlainBy, IsRelationBy, columns_by, ran_from, FitState, FitJoiner}
use Rattle.brooklet_step.specs.Given.{ContentsWait, JoinStands, StandsAfter, TookHeld, Does, FiresAt, CanTake}
use Rattle.brooklet_step.proofs.DealFires.{start_wide}
use Rattle.brooklet_step.proofs.GivenLemmas.{at-plain, at_next, ran_more, not_both}
use Rattle.brooklet_step.proofs.RowFires.{got_many}

-- PORTS OF ONE TYPE

-- what holds of the type at a port holds of this type, and the port is one of them
at_alike : (t : QueueType) (P : Option QueueType → Type 0) (n p : ℕ) → (P None → ⊥) → P (slice_get (replicate n t) p) → (p < n) × P (Some t)
at_alike t P zero p no_port h = absurd (no_port h)
at_alike t P (suc n) zero no_port h = (omega arith, h)
at_alike t P (suc n) (suc p) no_port h = let r = at_alike t P n p no_port h in let lt = r.0 in (omega (arith, lt), r.1)

plain_alike : (t : QueueType) (n p : ℕ) → IsPlain t → IsPlainBy (slice_get (replicate n t) p)
plain_alike t zero p h = tt
plain_alike t (suc n) zero h = h
plain_alike t (suc n) (suc p) h = plain_alike t n p h

-- a queue holds items as they are, or changes
plain_or : (t : QueueType) → IsPlain t ⊎ IsRelation t
plain_or (FlatOf (Rows n)) = inl tt
plain_or (FlatOf (Stream n)) = inl tt
plain_or (FlatOf (Relation n)) = inr tt
plain_or (PackOf (Rows n)) = inl tt
plain_or (PackOf (Stream n)) = inl tt
plain_or (PackOf (Relation n)) = inr tt

-- so does a queue of what is in its packs
plain_in : (t : QueueType) → IsPlain t → IsPlain (FlatOf (flat_in t))
plain_in (FlatOf t) h = h
plain_in (PackOf (Rows n)) h = tt
plain_in (PackOf (Stream n)) h = tt
plain_in (PackOf (Relation n)) h = absurd h

relation_in : (t : QueueType) → IsRelation t → IsRelation (FlatOf (flat_in t))
relation_in (FlatOf t) h = h
relation_in (PackOf (Rows n)) h = absurd h
relation_in (PackOf (Stream n)) h = absurd h
relation_in (PackOf (Relation n)) h = tt

-- a relation, and packs of one, are held as the changes of their contents
held_changes : (t : QueueType) (past xs : List item.Item) → IsRelation t → held t past xs ≡ held_from (content_from [] past) xs
held_changes (FlatOf (Rows n)) past xs h = absurd h
held_changes (FlatOf (Stream n)) past xs h = absurd h
held_changes (FlatOf (Relation n)) past xs h = held-relation n past xs
held_changes (PackOf (Rows n)) past xs h = absurd h
held_changes (PackOf (Stream n)) past xs h = absurd h
held_changes (PackOf (Relation n)) past xs h = held-packs n past xs

-- what ports of a type may owe
may_owe : (t : QueueType) (s : List Debt) → ((n : ℕ) → columns_by (Some t) ≡ Some n → AreDebtsOf n s) → MayOwe (flat_in t) s
may_owe (FlatOf (Rows n)) s h = tt
may_owe (FlatOf (Stream n)) s h = tt
may_owe (FlatOf (Relation n)) s h = h n refl
may_owe (PackOf (Rows n)) s h = tt
may_owe (PackOf (Stream n)) s h = tt
may_owe (PackOf (Relation n)) s h = h n refl

no_columns : {A : Type 0} (n : ℕ) → None ≡ Some n → A
no_columns n e = absurd (cc e)

owe_columns : (t : QueueType) (s : List Debt) (n : ℕ) → columns_by (Some t) ≡ Some n → MayOwe (flat_in t) s → AreDebtsOf n s
owe_columns (FlatOf (Rows m)) s n e o = no_columns n e
owe_columns (FlatOf (Stream m)) s n e o = no_columns n e
owe_columns (FlatOf (Relation m)) s n e o = subst (λ k. AreDebtsOf k s) (same_Some m n e) o
owe_columns (PackOf (Rows m)) s n e o = no_columns n e
owe_columns (PackOf (Stream m)) s n e o = no_columns n e
owe_columns (PackOf (Relation m)) s n e o = subst (λ k. AreDebtsOf k s) (same_Some m n e) o

-- TYPED ITEMS

typed_unchanged : (t : FlatType) (f : flat.Flat) → HasFlatType t f → IsUnchanged f
typed_unchanged t (One row) h = tt
typed_unchanged t (Batched b) h = tt
typed_unchanged (Rows n) (Changed c) h = absurd h
typed_unchanged (Stream n) (Changed c) h = absurd h
typed_unchanged (Relation n) (Changed c) h = absurd h

-- typed items pass as they are, or opened where they are packs
alone_opens : (t : FlatType) (x : item.Item) → HasType (FlatOf t) x → PassesOpened itself x
alone_opens t (Flat f) h = record { opened = refl; same = typed_unchanged t f h }
alone_opens t (Pack fs) h = absurd h

pack_opens : (t : FlatType) (x : item.Item) → HasType (PackOf t) x → PassesOpened items_of x
pack_opens t (Flat f) h = absurd h
pack_opens t (Pack fs) h = record { opened = refl; same = All-weaker (HasFlatType t) IsUnchanged (typed_unchanged t) fs h }

-- what a joiner keeps after a word is of its ports' types
run_holds : (k : Kern) (is os : List QueueType) (vs : List VarKind) (w : Word) (ss : List Kept) → Fits k is os vs → HasShape k ss → Holds k is ss
    → IsWordOf is w
    → Holds k is (run (fire k) w ss).states
run_holds k is os vs [] ss f h t a = t
run_holds k is os vs (e ∷ es) ss f h t a =
    let one = fire_typed k is os vs e.0 e.1 ss f h t a.0 in
    run_holds k is os vs es (fire k e.0 e.1 ss).states f (fire_shape k e.0 e.1 ss (shaped k is os vs f) h) one.1 a.1

-- LISTS AT PLACES

-- one more item is in a line
all_put : (P : item.Item → Type 0) (ls : List (List item.Item)) (n : ℕ) (x : item.Item) → ((p : ℕ) → All P (list_at ls p)) → P x → (p : ℕ)
    → All P (list_at (append_at ls n (x ∷ [])) p)
all_put P [] n x h px p = h p
all_put P (l ∷ ls) zero x h px zero = All-append P l (x ∷ []) (h 0) (All-cons P x [] px (All-nil P))
all_put P (l ∷ ls) zero x h px (suc p) = h (suc p)
all_put P (l ∷ ls) (suc n) x h px zero = h 0
all_put P (l ∷ ls) (suc n) x h px (suc p) = all_put P ls n x (λ q. h (suc q)) px p

-- the items at another port than that of the last firing
at_other : (p q : ℕ) (w : Word) (x : item.Item) → p ≢ q → at_port q (w ++ (p, x) ∷ []) ≡ at_port q w
at_other p q w x ne = at_port-append q w ((p, x) ∷ []) ∙ ap (λ l. at_port q w ++ l) (at_port_past q (p, x) [] ne) ∙ append-nil (at_port q w)

same_join : (a b : JoinKept) → state.Join a ≡ state.Join b → a ≡ b
same_join a b h = cc

-- what is given at the only port is what its queue holds
first_is : (t : QueueType) (items given : List item.Item) (before : ℕ → List item.Item) (q : ℕ) → items ≡ held t (before 0) given
    → only 0 items q ≡ held_at (t ∷ []) q (before q) (only 0 given q)
first_is t items given before zero e = e
first_is t items given before (suc q) e = refl

only_all : (t : QueueType) (items : List item.Item) (q : ℕ) → All (IsHeld t) items → All (IsHeldOf (t ∷ []) q) (only 0 items q)
only_all t items zero h = h
only_all t items (suc q) h = All-nil (IsHeldOf (t ∷ []) (suc q))

-- A FIRING

module _ (k : Kern) (wl : List ℕ) (give : item.Item → List item.Item) (m : ℕ) (t : QueueType) (many : m ≡ length wl) (some : HaveShares wl)
    (fires : (p : ℕ) (x : item.Item) (ss : List Kept) → fire k p x ss ≡ join_one give wl p x ss)
    (waits : (ss : List Kept) → Holds k (replicate m t) ss → AreWaiting (replicate m t) ss)
    (opens : (x : item.Item) → HasType t x → PassesOpened give x)
    (i : item.Item) (port : ℕ) (s s' : State) (old new : JoinKept) (items : List item.Item) (out out' : Emit) (es : s ≡ state.Join old)
    (es' : s' ≡ state.Join new)
    (took : Took out out' (gives 0 items [])) (contents : JoinsItems wl (put_item port i old) new [] items)
    (plain : JoinsPlainly wl (put_item port i old) new [] items) (keeps : KeepsJoin wl (put_item port i old) new [] items) where
  abbrev types : List QueueType
  types = replicate m t

  abbrev given : QueueType
  given = FlatOf (flat_in t)

  some_port : 0 < m
  some_port = subst (λ n. 0 < n) (sym many) some.0

  first_read : slice_get types 0 ≡ Some t
  first_read = got_many t m 0 some_port

  of_type : (p : ℕ) (x : item.Item) → IsOf types p x → (p < m) × HasType t x
  of_type p x h = at_alike t (λ o. IsTyped o x) m p (λ z. z) h

  of_held : (p : ℕ) (x : item.Item) → IsHeldOf types p x → (p < m) × IsHeld t x
  of_held p x h = at_alike t (λ o. IsHeldBy o x) m p (λ z. z) h

  -- what waits by the definition, with one more item
  put_opens : (turns : Turns) (x : item.Item) → AreOf types (list_at turns.lists) → IsOf types port x → AreOpened give (put port x turns)
  put_opens turns x h tx =
      all_put (PassesOpened give) turns.lists port x
      (λ p. All-weaker (IsOf types p) (PassesOpened give) (λ y g. opens y (of_type p y g).1) (list_at turns.lists p) (h p))
      (opens x (of_type port x tx).1)

  module _ (vars : List VarKind) (fits : Fits k types (given ∷ []) vars) (start : List Kept) (w : Word) (x : item.Item) (is_start : IsStart k types start)
      (tw : IsWordOf types w) (tx : IsOf types port x) (sa : JoinStands k wl types start (s ∷ []) w)
      (h : held_at types port (at_port port w) (x ∷ []) ≡ i ∷ []) where
    abbrev before : Fired
    before = ran_from k start w

    same : old ≡ sa.now
    same = same_join old sa.now (sym es ∙ alone_same s (state.Join sa.now) sa.code)

    shape_is : HasJoinShape wl old
    shape_is = subst (HasJoinShape wl) (sym same) sa.shape

    waiting_are : (turns : Turns) → before.states ≡ Joining turns ∷ [] → AreOf types (list_at turns.lists)
    waiting_are turns e =
        subst (AreWaiting types) e (waits before.states (run_holds k types (given ∷ []) vars w start fits is_start.shape is_start.holds tw))

    fired_is : (turns : Turns) → before.states ≡ Joining turns ∷ []
        → fire k port x before.states ≡ gives 0 (settled give wl (put port x turns)).0 (Joining (settled give wl (put port x turns)).1 ∷ [])
    fired_is turns e = fires port x before.states ∙ ap (join_one give wl port x) e

    port_below : port < m
    port_below = (of_type port x tx).0

    -- items as they are
    plain_given : IsPlain t → TookHeld (given ∷ []) before out out' (fire k port x before.states) × JoinStands k wl types start (s' ∷ []) (w ++ (port, x) ∷ [])
    plain_given p =
        let pr : IsPlainBy (slice_get types 0) = plain_alike t m 0 p in
        let states_are : before.states ≡ Joining old.turns ∷ [] = sa.plain pr ∙ ap (λ (n : JoinKept). Joining n.turns ∷ []) (sym same) in
        let e : x ≡ i = alone_same x i (sym (at-plain types port (at_port port w) (x ∷ []) (plain_alike t m port p)) ∙ h) in
        let fired : fire k port x before.states ≡ gives 0 (settled give wl (put port i old.turns)).0 (Joining (settled give wl (put port i old.turns)).1 ∷ []) =
        fired_is old.turns states_are
        ∙ ap (λ (y : item.Item). gives 0 (settled give wl (put port y old.turns)).0 (Joining (settled give wl (put port y old.turns)).1 ∷ [])) e in
        let r : JoinedPlainly give wl (put_item port i old) new [] items =
        plain.each give (put_opens old.turns i (waiting_are old.turns states_are) (subst (IsOf types port) e tx)) in
        let gave : items ≡ (settled give wl (put port i old.turns)).0 = r.gave in (
          record {
            outs = took.outs
                ∙ each_grew_cong out.outs (only 0 items) (λ q. held_at (given ∷ []) q (before.outs q) ((fire k port x before.states).outs q))
                (λ q lt. ap (λ l. only 0 l q) gave ∙ ap (λ (u : Fired). u.outs q) (sym fired)
                ∙ sym (at-plain (given ∷ []) q (before.outs q) ((fire k port x before.states).outs q) (plain_alike given 1 q (plain_in t p))));
            adds = took.adds ∙ ap (λ (u : Fired). each_grew out.adds u.adds) (sym fired);
          },
          record {
            now = new;
            code = ap (λ (u : State). u ∷ []) es';
            shape = keeps.shape;
            plain = λ z. (ran_more k start w port x).states ∙ ap (λ (u : Fired). u.states) fired ∙ ap (λ (u : Turns). Joining u ∷ []) (sym r.turns);
            relation = λ rel. absurd (not_both (slice_get types 0) pr rel);
          },
        )

    -- contents, of which changes came
    module _ (rel : IsRelation t) (ja : ContentsWait k start old w) where
      abbrev c : joined.Joining
      c = ja.contents

      here : port < length c.turns.lists
      here = subst (λ n. port < n) (many ∙ sym shape_is.joined.lists ∙ ja.stands.lists) port_below

      abbrev line : List item.Item
      line = list_at c.turns.lists port

      item_is : i ≡ held_item (content_from [] (at_port port w)) x
      item_is = sym (alone_same (held_item (content_from [] (at_port port w)) x) i (sym (held_changes t (at_port port w) (x ∷ []) rel)
          ∙ ap (λ o. held_by o (at_port port w) (x ∷ [])) (sym (got_many t m port port_below)) ∙ h))

      content_is : content_from (c.now port) line ≡ content_from [] (at_port port w)
      content_is = ja.received port here

      abbrev waiting_now : joined.Joining
      waiting_now = record { turns = put port x c.turns; last = c.last; now = c.now }

      line_is : list_at (append_at old.turns.lists port (i ∷ [])) port ≡ held_from (c.now port) (list_at (append_at c.turns.lists port (x ∷ [])) port)
      line_is =
          append_here old.turns.lists port (i ∷ []) (subst (λ n. port < n) (many ∙ sym shape_is.joined.lists) port_below)
          ∙ ap (λ l. l ++ i ∷ []) (ja.stands.lines port here)
          ∙ ap (λ (y : item.Item). held_from (c.now port) line ++ y ∷ []) (item_is ∙ ap (λ b. held_item b x) (sym content_is))
          ∙ sym (held_from-append (c.now port) line (x ∷ []))
          ∙ ap (held_from (c.now port)) (sym (append_here c.turns.lists port (x ∷ []) here))

      stands_now : StandsForJoining (put_item port i old) waiting_now
      stands_now = record {
        port = ja.stands.port;
        had = ja.stands.had;
        lists = length-append_at old.turns.lists port (i ∷ []) ∙ ja.stands.lists ∙ sym (length-append_at c.turns.lists port (x ∷ []));
        lines = λ p lt.
            ⊎_elim
            (λ e. subst (λ q. list_at (append_at old.turns.lists port (i ∷ [])) q ≡ held_from (c.now q)
            (list_at (append_at c.turns.lists port (x ∷ [])) q)) e line_is)
            (λ ne. append_else old.turns.lists port p (i ∷ []) ne ∙ ja.stands.lines p (subst (λ n. p < n) (length-append_at c.turns.lists port (x ∷ [])) lt)
            ∙ ap (held_from (c.now p)) (sym (append_else c.turns.lists port p (x ∷ []) ne)))
            (cases_eq port p);
        owed = ja.stands.owed;
      }

      result : JoinedItems give wl waiting_now new [] items
      result = contents.each give waiting_now (put_opens c.turns x (waiting_are c.turns ja.defined) tx) stands_now

      abbrev passed : List item.Item
      passed = (settled give wl (put port x c.turns)).0

      abbrev left : Turns
      left = (settled give wl (put port x c.turns)).1

      fired : fire k port x before.states ≡ gives 0 passed (Joining left ∷ [])
      fired = fired_is c.turns ja.defined

      gave : items ≡ held given (before.outs 0) passed
      gave = result.gave ∙ ap (λ b. held_from b passed) ja.given ∙ sym (held_changes given (before.outs 0) passed (relation_in t rel))

      received_is : (p : ℕ) → p < length c.turns.lists
          → content_from (c.now p) (list_at (append_at c.turns.lists port (x ∷ [])) p) ≡ content_from [] (at_port p (w ++ (port, x) ∷ []))
      received_is p lt =
          ⊎_elim
          (λ e. subst (λ q. content_from (c.now q) (list_at (append_at c.turns.lists port (x ∷ [])) q) ≡ content_from [] (at_port q (w ++ (port, x) ∷ []))) e
          (ap (content_from (c.now port)) (append_here c.turns.lists port (x ∷ []) here) ∙ content-append (c.now port) line (x ∷ [])
          ∙ ap (λ b. content_from b (x ∷ [])) content_is ∙ sym (content-append [] (at_port port w) (x ∷ [])) ∙ ap (content_from []) (sym (at_next port w x))))
          (λ ne. ap (content_from (c.now p)) (append_else c.turns.lists port p (x ∷ []) ne) ∙ ja.received p lt
          ∙ ap (content_from []) (sym (at_other port p w x ne)))
          (cases_eq port p)

      next_below : (p : ℕ) → p < length left.lists → p < length c.turns.lists
      next_below p lt = subst (λ n. p < n) (sym result.stands.lists ∙ keeps.shape.joined.lists ∙ sym shape_is.joined.lists ∙ ja.stands.lists) lt

      next_joins : ContentsWait k start new (w ++ (port, x) ∷ [])
      next_joins = record {
        contents = record { turns = left; last = content_from c.last passed; now = result.now };
        defined = (ran_more k start w port x).states ∙ ap (λ (u : Fired). u.states) fired;
        stands = result.stands;
        given =
            ap (λ b. content_from b passed) ja.given ∙ sym (content-append [] (before.outs 0) passed)
            ∙ ap (content_from []) (ap (λ (u : Fired). before.outs 0 ++ u.outs 0) (sym fired) ∙ sym ((ran_more k start w port x).outs 0));
        received = λ p lt. result.ends p (subst (λ n. p < n) (sym (length-append_at c.turns.lists port (x ∷ []))) (next_below p lt))
            ∙ received_is p (next_below p lt);
      }

      changes_given : TookHeld (given ∷ []) before out out' (fire k port x before.states)
      changes_given = record {
        outs = took.outs
            ∙ each_grew_cong out.outs (only 0 items) (λ q. held_at (given ∷ []) q (before.outs q) ((fire k port x before.states).outs q))
            (λ q lt. first_is given items passed before.outs q gave ∙ ap (λ (u : Fired). held_at (given ∷ []) q (before.outs q) (u.outs q)) (sym fired));
        adds = took.adds ∙ ap (λ (u : Fired). each_grew out.adds u.adds) (sym fired);
      }

    related : IsRelation t → IsRelationBy (slice_get types 0)
    related rel = subst IsRelationBy (sym first_read) rel

    joins_after : IsRelation t → ContentsWait k start old w
    joins_after rel = subst (λ (n : JoinKept). ContentsWait k start n w) (sym same) (sa.relation (related rel))

    joined_after : IsRelation t → JoinStands k wl types start (s' ∷ []) (w ++ (port, x) ∷ [])
    joined_after rel = record {
      now = new;
      code = ap (λ (u : State). u ∷ []) es';
      shape = keeps.shape;
      plain = λ p. absurd (not_both (slice_get types 0) p (related rel));
      relation = λ z. next_joins rel (joins_after rel);
    }

    -- either
    join_given : TookHeld (given ∷ []) before out out' (fire k port x before.states) × JoinStands k wl types start (s' ∷ []) (w ++ (port, x) ∷ [])
    join_given = ⊎_elim (λ p. plain_given p) (λ rel. (changes_given rel (joins_after rel), joined_after rel)) (plain_or t)

  -- whatever was received: what came may be held, and the state fits again
  module _ (f : FitJoiner wl types (s ∷ [])) (hi : IsHeldOf types port i) where
    fit_same : f.now ≡ old
    fit_same = sym (same_join old f.now (sym es ∙ alone_same s (state.Join f.now) f.code))

    fit_items : AreHeldOf types (list_at old.turns.lists)
    fit_items = subst (λ (n : JoinKept). AreHeldOf types (list_at n.turns.lists)) fit_same f.items

    fit_few : OweLittle old.owed
    fit_few = subst (λ (n : JoinKept). OweLittle n.owed) fit_same f.few

    fit_wide : (n : ℕ) → columns_by (Some t) ≡ Some n → AreDebtsOf n old.owed
    fit_wide n e = subst (λ (j : JoinKept). AreDebtsOf n j.owed) fit_same (f.wide n (ap columns_by first_read ∙ e))

    join_of : IsJoinOf t (put_item port i old)
    join_of = record {
      lines =
          all_put (IsHeld t) old.turns.lists port i
          (λ p. All-weaker (IsHeldOf types p) (IsHeld t) (λ y g. (of_held p y g).1) (list_at old.turns.lists p) (fit_items p))
          (of_held port i hi).1;
      owed = may_owe t old.owed fit_wide;
    }

    next_of : IsJoinOf t new
    next_of = (keeps.wide t join_of).1

    items_held : All (IsHeld given) items
    items_held = let g = (keeps.wide t join_of).0 in subst (All (IsHeld given)) (sym g.grew) g.each

    lines_held : (p : ℕ) → All (IsHeldOf types p) (list_at new.turns.lists p)
    lines_held p =
        ⊎_elim
        (λ lt. All-weaker (IsHeld t) (IsHeldOf types p) (λ y g. subst (λ o. IsHeldBy o y) (sym (got_many t m p lt)) g) (list_at new.turns.lists p)
        (next_of.lines p))
        (λ ge. subst (All (IsHeldOf types p)) (sym (list_past new.turns.lists p (subst (λ n. n ≤ p) (many ∙ sym keeps.shape.joined.lists) ge)))
        (All-nil (IsHeldOf types p)))
        (cases_lt p m)

    fit_again : FitJoiner wl types (s' ∷ [])
    fit_again = record {
      now = new;
      code = ap (λ (u : State). u ∷ []) es';
      joined = keeps.shape;
      items = lines_held;
      few = keeps.few fit_few;
      wide = λ n e. owe_columns t new.owed n (ap columns_by (sym first_read) ∙ e) next_of.owed;
    }

-- a joiner fires, under each type
pub collect_does : (ws : List ℤ) (i : item.Item) (port : ℕ) (s s' : State) (old new : JoinKept) (items : List item.Item) (out out' : Emit)
    → HaveShares (shares ws)
    → s ≡ state.Join old → s' ≡ state.Join new → Took out out' (gives 0 items []) → JoinsItems (shares ws) (put_item port i old) new [] items
    → JoinsPlainly (shares ws) (put_item port i old) new [] items → KeepsJoin (shares ws) (put_item port i old) new [] items
    → FiresAt (collect ws) port i out out' (s ∷ []) (s' ∷ [])
collect_does ws i port s s' old new items out out' some es es' took contents plain keeps = record {
  each = λ reads writes vars f fs hi.
      subst (λ (l : List QueueType). Does (collect ws) l writes vars port i out out' (s ∷ []) (s' ∷ [])) (sym f.1)
      (subst (λ (l : List QueueType). Does (collect ws) (replicate (length ws) (FlatOf f.0)) l vars port i out out' (s ∷ []) (s' ∷ [])) (sym f.2)
      (by f.0 vars (f.0, refl, refl, f.3, f.4) (subst (λ (l : List QueueType). FitJoiner (shares ws) l (s ∷ [])) f.1 fs)
      (subst (λ (l : List QueueType). IsHeldOf l port i) f.1 hi)));
}
  where
    many : length ws ≡ length (shares ws)
    many = sym (length-map ws count_of)

    by : (t : FlatType) (vars : List VarKind) → Fits (collect ws) (replicate (length ws) (FlatOf t)) (FlatOf t ∷ []) vars
        → FitJoiner (shares ws) (replicate (length ws) (FlatOf t)) (s ∷ []) → IsHeldOf (replicate (length ws) (FlatOf t)) port i
        → Does (collect ws) (replicate (length ws) (FlatOf t)) (FlatOf t ∷ []) vars port i out out' (s ∷ []) (s' ∷ [])
    by t vars fits f hi = record {
      gives = record {
        given = λ start w x is_start tw tx sa h.
            join_given (collect ws) (shares ws) itself (length ws) (FlatOf t) many some (λ p y ss. refl) (λ ss g. g) (alone_opens t)
            i port s s' old new items out out' es es' took contents plain keeps vars fits start w x is_start tw tx sa h;
      };
      came = record {
        outs = only 0 items;
        adds = none;
        outs_are = took.outs;
        adds_are = took.adds;
        held = λ q. only_all (FlatOf t) items q
            (items_held (collect ws) (shares ws) itself (length ws) (FlatOf t) many some (λ p y ss. refl) (λ ss g. g) (alone_opens t)
            i port s s' old new items out out' es es' took contents plain keeps f hi);
        wide = λ j. All-nil (IsWide (slice_get (widths_in vars) j));
        again = fit_again (collect ws) (shares ws) itself (length ws) (FlatOf t) many some (λ p y ss. refl) (λ ss g. g)
            (alone_opens t) i port s s' old new items out out'
            es es' took contents plain keeps f hi;
      };
    }

-- so does a joiner of packs
pub unpack_does : (n : ℕ) (i : item.Item) (port : ℕ) (s s' : State) (old new : JoinKept) (items : List item.Item) (out out' : Emit) → HaveShares (ones n)
    → s ≡ state.Join old → s' ≡ state.Join new → Took out out' (gives 0 items []) → JoinsItems (ones n) (put_item port i old) new [] items
    → JoinsPlainly (ones n) (put_item port i old) new [] items → KeepsJoin (ones n) (put_item port i old) new [] items
    → FiresAt (unpack n) port i out out' (s ∷ []) (s' ∷ [])
unpack_does n i port s s' old new items out out' some es es' took contents plain keeps = record {
  each = λ reads writes vars f fs hi.
      subst (λ (l : List QueueType). Does (unpack n) l writes vars port i out out' (s ∷ []) (s' ∷ [])) (sym f.1)
      (subst (λ (l : List QueueType). Does (unpack n) (replicate n (PackOf f.0)) l vars port i out out' (s ∷ []) (s' ∷ [])) (sym f.2)
      (by f.0 vars (f.0, refl, refl, f.3, f.4) (subst (λ (l : List QueueType). FitJoiner (ones n) l (s ∷ [])) f.1 fs)
      (subst (λ (l : List QueueType). IsHeldOf l port i) f.1 hi)));
}
  where
    many : n ≡ length (ones n)
    many = sym (length-replicate n 1)

    by : (t : FlatType) (vars : List VarKind) → Fits (unpack n) (replicate n (PackOf t)) (FlatOf t ∷ []) vars
        → FitJoiner (ones n) (replicate n (PackOf t)) (s ∷ [])
        → IsHeldOf (replicate n (PackOf t)) port i → Does (unpack n) (replicate n (PackOf t)) (FlatOf t ∷ []) vars port i out out' (s ∷ []) (s' ∷ [])
    by t vars fits f hi = record {
      gives = record {
        given = λ start w x is_start tw tx sa h.
            join_given (unpack n) (ones n) items_of n (PackOf t) many some (λ p y ss. refl) (λ ss g. g) (pack_opens t) i port s s' old new items out out' es es'
            took contents plain keeps vars fits start w x is_start tw tx sa h;
      };
      came = record {
        outs = only 0 items;
        adds = none;
        outs_are = took.outs;
        adds_are = took.adds;
        held = λ q. only_all (FlatOf t) items q (items_held (unpack n) (ones n) items_of n (PackOf t) many some (λ p y ss. refl) (λ ss g. g) (pack_opens t)
            i port s s' old new items out out' es es' took contents plain keeps f hi);
        wide = λ j. All-nil (IsWide (slice_get (widths_in vars) j));
        again = fit_again (unpack n) (ones n) items_of n (PackOf t) many some (λ p y ss. refl) (λ ss g. g) (pack_opens t) i port s s' old new items out out'
            es es' took contents plain keeps f hi;
      };
    }

-- WHAT A FIRING NEEDS

-- the shape of a joiner, its port, and a list for what it gives
pub collect_needs : (ws : List ℤ) (i : item.Item) (port : ℕ) (s : State) (old : JoinKept) (out : Emit) → s ≡ state.Join old
    → CanTake (collect ws) port i (s ∷ []) out
    → HaveShares (shares ws) × HasJoinShape (shares ws) old × (port < length ws) × (0 < length out.outs)
collect_needs ws i port s old out e t =
    let f = t.fitting.fits in
    let j : FitJoiner (shares ws) t.reads (s ∷ []) = t.fitting.state in
    let room = t.room.outs in
    let held : IsHeldOf (replicate (length ws) (FlatOf f.0)) port i = subst (λ (l : List QueueType). IsHeldOf l port i) f.1 t.item in (
      shaped (collect ws) t.reads t.fitting.writes t.fitting.vars f,
      subst (HasJoinShape (shares ws)) (sym (same_join old j.now (sym e ∙ alone_same s (state.Join j.now) j.code))) j.joined,
      (at_alike (FlatOf f.0) (λ o. IsHeldBy o i) (length ws) port (λ z. z) held).0,
      omega (arith, room),
    )

held_pack : (u : FlatType) (x : item.Item) → IsHeld (PackOf u) x → IsPack x
unfolding IsHeld
held_pack u (Flat g) h = absurd h
held_pack u (Pack fs) h = record { flats = fs; is = refl }

-- what a joiner of packs takes is a pack
pub unpack_pack : (n : ℕ) (i : item.Item) (port : ℕ) (st : List State) (out : Emit) → CanTake (unpack n) port i st out → IsPack i
unpack_pack n i port st out t =
    let f = t.fitting.fits in
    let held : IsHeldOf (replicate n (PackOf f.0)) port i = subst (λ (l : List QueueType). IsHeldOf l port i) f.1 t.item in
    held_pack f.0 i (at_alike (PackOf f.0) (λ o. IsHeldBy o i) n port (λ z. z) held).1

-- and its shape, its port and its list are as well
pub unpack_needs : (n : ℕ) (i : item.Item) (port : ℕ) (s : State) (old : JoinKept) (out : Emit) → s ≡ state.Join old → CanTake (unpack n) port i (s ∷ []) out
    → HaveShares (ones n) × HasJoinShape (ones n) old × (port < n) × (0 < length out.outs)
unpack_needs n i port s old out e t =
    let f = t.fitting.fits in
    let j : FitJoiner (ones n) t.reads (s ∷ []) = t.fitting.state in
    let room = t.room.outs in
    let held : IsHeldOf (replicate n (PackOf f.0)) port i = subst (λ (l : List QueueType). IsHeldOf l port i) f.1 t.item in (
      shaped (unpack n) t.reads t.fitting.writes t.fitting.vars f,
      subst (HasJoinShape (ones n)) (sym (same_join old j.now (sym e ∙ alone_same s (state.Join j.now) j.code))) j.joined,
      (at_alike (PackOf f.0) (λ o. IsHeldBy o i) n port (λ z. z) held).0,
      omega (arith, room),
    )

-- BEFORE THE FIRST FIRING

-- what is kept before the first item stands for empty contents, of which none waits
start_empty : (n : ℕ) → StandsForJoining (join_start n) (record { turns = (join_start n).turns; last = []; now = λ p. [] })
start_empty n = record {
  port = refl;
  had = refl;
  lists = refl;
  lines = λ p lt. blank_at n p ∙ ap (held_from []) (sym (blank_at n p));
  owed = nothing_holds.owed n;
}

start_shape : (wl : List ℕ) → HaveShares wl → HasJoinShape wl (join_start (length wl))
start_shape wl some = record {
  joined = record { turn = first_turn wl some; lists = length-replicate (length wl) [] };
  owed = length-replicate (length wl) no_debt;
}

start_stands : (k : Kern) (n : ℕ) → first_kept k ≡ Joining (join_start n).turns ∷ [] → ContentsWait k (first_kept k) (join_start n) []
start_stands k n e = record {
  contents = record { turns = (join_start n).turns; last = []; now = λ p. [] };
  defined = e;
  stands = start_empty n;
  given = refl;
  received = λ p lt. ap (content_from []) (blank_at n p);
}

start_fits : (wl : List ℕ) (n : ℕ) (reads : List QueueType) → n ≡ length wl → HaveShares wl → FitJoiner wl reads (state.Join (join_start n) ∷ [])
start_fits wl n reads e some = record {
  now = join_start n;
  code = refl;
  joined = subst (λ (l : ℕ). HasJoinShape wl (join_start l)) (sym e) (start_shape wl some);
  items = λ p. subst (All (IsHeldOf reads p)) (sym (blank_at n p)) (All-nil (IsHeldOf reads p));
  few = nothing_holds.little n;
  wide = λ m z. start_wide m n;
}

-- the first state of a joiner stands for the definition's
pub collect_first_after : (ws : List ℤ) (reads : List QueueType) → HaveShares (shares ws)
    → StandsAfter (collect ws) reads (first_kept (collect ws)) (state.Join (join_start (length ws)) ∷ []) []
collect_first_after ws reads some = record {
  now = join_start (length ws);
  code = refl;
  shape = subst (λ (l : ℕ). HasJoinShape (shares ws) (join_start l)) (length-map ws count_of) (start_shape (shares ws) some);
  plain = λ p. refl;
  relation = λ rel. start_stands (collect ws) (length ws) refl;
}

-- and fits
pub collect_first_fits : (ws : List ℤ) (reads : List QueueType) → HaveShares (shares ws)
    → FitState (collect ws) reads (state.Join (join_start (length ws)) ∷ [])
collect_first_fits ws reads some = start_fits (shares ws) (length ws) reads (sym (length-map ws count_of)) some

-- so does that of a joiner of packs
pub unpack_first_after : (n : ℕ) (reads : List QueueType) → HaveShares (ones n)
    → StandsAfter (unpack n) reads (first_kept (unpack n)) (state.Join (join_start n) ∷ []) []
unpack_first_after n reads some = record {
  now = join_start n;
  code = refl;
  shape = subst (λ (l : ℕ). HasJoinShape (ones n) (join_start l)) (length-replicate n 1) (start_shape (ones n) some);
  plain = λ p. refl;
  relation = λ rel. start_stands (unpack n) n refl;
}

-- and fits
pub unpack_first_fits : (n : ℕ) (reads : List QueueType) → HaveShares (ones n) → FitState (unpack n) reads (state.Join (join_start n) ∷ [])
unpack_first_fits n reads some = start_fits (ones n) n reads (sym (length-replicate n 1)) some
