-- Items pass a joiner, one after another.
use Rattle.std.proofs.Common.{◌≡◌, ◌≢◌, ◌<◌, ℕ, zero, suc, ℤ, Some, None, List, [], ◌∷◌, ◌++◌, length, take, refl, sym, ap, ◌∙◌, subst, append_assoc, ⊎_elim}
use Rattle.std.specs.Prelude.{All, slice_index_or}
use Rattle.std.proofs.lemmas.Bool.{cases_eq}
use Rattle.std.proofs.lemmas.List.{append-nil}
use Rattle.std.proofs.lemmas.List.Elements.{All-head, All-tail, All-cons, All-nil, All-append, All-take}
use Rattle.river_base.specs.declared.item.Batch.{Batch}
use Rattle.river_base.specs.declared.item.Change.{Change}
use Rattle.river_base.specs.declared.item.Flat as flat
use Rattle.river_base.specs.declared.item.Flat.TheVariants.{One, Batch as Batched, Change as Changed}
use Rattle.river_base.specs.declared.item.Item as item
use Rattle.river_base.specs.declared.item.Item.TheVariants.{Flat, Pack}
use Rattle.river_base.specs.declared.kind.FlatType as flat_type
use Rattle.river_base.specs.declared.kind.FlatType.TheVariants.{Rows, Stream, Relation}
use Rattle.river_base.specs.declared.kind.QueueType as queue_type
use Rattle.river_base.specs.declared.kind.QueueType.TheVariants.{Flat as FlatOf, Pack as PackOf}
use Rattle.river_base.specs.Grew.{GrewByPrefix}
use Rattle.river_base.specs.Held.{MayHold, IsHeld, after_flat, after_flats, after_item, content_from, held_flat, held_flats, held_item, held_from, flats_as_items, items_of}
use Rattle.river_base.specs.Places.{list_at}
use Rattle.river_base.proofs.HeldLemmas.{content-append}
use Rattle.river_base.proofs.LoopLemmas.{grew_by_map}
use Rattle.kern_rows.specs.Needs.{HaveShares, IsJoiner}
use Rattle.kern_rows.specs.Passing.{PassesFront, IsStuck, passed_by, port_after, had_after}
use Rattle.kern_rows.proofs.Passed.{SoFar}
use Rattle.kern_rows.specs.Turns.{Turns, front_at, rest_at, rest_in, waiting, passed, settled, itself}
use Rattle.kern_rows.proofs.Passed.{front_is, front_none, length-rest_at, joined_put, so_far_start, so_far_step, so_far_next, so_far_less, so_far_end}
use Rattle.kern_rows.proofs.Passed.{grew_by_none, grew_on}
use Rattle.kern_changes.specs.declared.owed.Debt.{Debt}
use Rattle.kern_changes.specs.Owed.{AreOwed, but_at, JoinsOwed, KeepsOwed}
use Rattle.kern_rows.specs.Joined.{JoinKept, put_item, HasJoinShape, IsUnchanged, HasNoChange, PassesOpened, AreOpened, Joining}
use Rattle.kern_rows.specs.Joined.{StandsForJoining, JoinedItems, JoinsItems}
use Rattle.kern_rows.specs.Joined.{JoinsPlainly, flat_in, MayOwe, GaveHeld, KeepsJoin, JoinsPart, TakesItem, FlatJoined, FlatsJoined, ItemJoined}
use Rattle.kern_rows.specs.Joined.{JoinsFlat, JoinsFlats, JoinsItem, JoinsFlatsPart, JoinsItemPart}
use Rattle.kern_changes.proofs.OwedLaws.{but_same, but_other}

-- CONTENTS

-- a list is held part by part
pub held_from-append : (before : List (List ℤ)) (xs ys : List item.Item)
    → held_from before (xs ++ ys) ≡ held_from before xs ++ held_from (content_from before xs) ys
held_from-append before [] ys = refl
held_from-append before (x ∷ xs) ys = ap (λ l. held_item before x ∷ l) (held_from-append (after_item before x) xs ys)

-- the items of a pack are held as the pack is
pub held-as_items : (before : List (List ℤ)) (fs : List flat.Flat) → held_from before (flats_as_items fs) ≡ flats_as_items (held_flats before fs)
held-as_items before [] = refl
held-as_items before (f ∷ fs) = ap (λ l. Flat (held_flat before f) ∷ l) (held-as_items (after_flat before f) fs)

-- and have its content
pub content-as_items : (before : List (List ℤ)) (fs : List flat.Flat) → content_from before (flats_as_items fs) ≡ after_flats before fs
content-as_items before [] = refl
content-as_items before (f ∷ fs) = content-as_items (after_flat before f) fs

-- so it is with any item
pub content-items_of : (before : List (List ℤ)) (x : item.Item) → content_from before (items_of x) ≡ after_item before x
content-items_of before (Flat f) = refl
content-items_of before (Pack fs) = content-as_items before fs

held-take : (n : ℕ) (before : List (List ℤ)) (fs : List flat.Flat) → held_flats before (take n fs) ≡ take n (held_flats before fs)
held-take zero before fs = refl
held-take (suc n) before [] = refl
held-take (suc n) before (f ∷ fs) = ap (λ l. held_flat before f ∷ l) (held-take n (after_flat before f) fs)

after-more : (before : List (List ℤ)) (fs : List flat.Flat) (f : flat.Flat) → after_flats before (fs ++ f ∷ []) ≡ after_flat (after_flats before fs) f
after-more before [] f = refl
after-more before (g ∷ fs) f = after-more (after_flat before g) fs f

held-more : (before : List (List ℤ)) (fs : List flat.Flat) (f : flat.Flat)
    → flats_as_items (held_flats before (fs ++ f ∷ [])) ≡ flats_as_items (held_flats before fs) ++ Flat (held_flat (after_flats before fs) f) ∷ []
held-more before [] f = refl
held-more before (g ∷ fs) f = ap (λ l. Flat (held_flat before g) ∷ l) (held-more (after_flat before g) fs f)

items-more : (fs : List flat.Flat) (f : flat.Flat) → flats_as_items (fs ++ f ∷ []) ≡ flats_as_items fs ++ Flat f ∷ []
items-more [] f = refl
items-more (g ∷ fs) f = ap (λ l. Flat g ∷ l) (items-more fs f)

-- a list of items that are held, but for the last of them
record HeldLast (fs : List flat.Flat) (f : flat.Flat) (before : List (List ℤ)) (gs : List flat.Flat) : Type 0 where
  front : List flat.Flat
  g : flat.Flat
  is : gs ≡ front ++ g ∷ []
  rest : fs ≡ held_flats before front
  end : f ≡ held_flat (after_flats before front) g

held_last_on : (fs : List flat.Flat) (f x : flat.Flat) (before : List (List ℤ)) (g : flat.Flat) (gs : List flat.Flat) → x ≡ held_flat before g
    → HeldLast fs f (after_flat before g) gs → HeldLast (x ∷ fs) f before (g ∷ gs)
held_last_on fs f x before g gs first l = record { front = g ∷ l.front; g = l.g; is = λ i. g ∷ l.is i; rest = λ i. first i ∷ l.rest i; end = l.end }

held_last : (fs : List flat.Flat) (f : flat.Flat) (before : List (List ℤ)) (gs : List flat.Flat) → fs ++ f ∷ [] ≡ held_flats before gs → HeldLast fs f before gs
held_last [] f before [] e = absurd (cc e)
held_last [] f before (g ∷ []) e = record { front = []; g = g; is = refl; rest = refl; end = cc e }
held_last [] f before (g ∷ h ∷ gs) e = absurd (cc e)
held_last (x ∷ fs) f before [] e = absurd (cc e)
held_last (x ∷ fs) f before (g ∷ gs) e =
    let first : x ≡ held_flat before g = cc e in
    held_last_on fs f x before g gs first (held_last fs f (after_flat before g) gs (cc e))

-- PARTS OF LISTS

all_front : {A : Type 0} (P : A → Type 0) (xs : List A) (x : A) → All P (xs ++ x ∷ []) → All P xs
all_front P [] x h = All-nil P
all_front P (y ∷ xs) x h = All-cons P y xs (All-head P y (xs ++ x ∷ []) h) (all_front P xs x (All-tail P y (xs ++ x ∷ []) h))

all_last : {A : Type 0} (P : A → Type 0) (xs : List A) (x : A) → All P (xs ++ x ∷ []) → P x
all_last P [] x h = All-head P x [] h
all_last P (y ∷ xs) x h = all_last P xs x (All-tail P y (xs ++ x ∷ []) h)

all_rest_in : (P : item.Item → Type 0) (xs : List item.Item) → All P xs → All P (rest_in xs)
all_rest_in P [] h = h
all_rest_in P (x ∷ xs) h = All-tail P x xs h

-- what holds of all that waits holds of what is left
pub all_rest : (P : item.Item → Type 0) (ls : List (List item.Item)) (n : ℕ) → ((p : ℕ) → All P (list_at ls p)) → (p : ℕ) → All P (list_at (rest_at ls n) p)
all_rest P [] n h p = h p
all_rest P (l ∷ ls) zero h zero = all_rest_in P l (h 0)
all_rest P (l ∷ ls) zero h (suc p) = h (suc p)
all_rest P (l ∷ ls) (suc n) h zero = h 0
all_rest P (l ∷ ls) (suc n) h (suc p) = all_rest P ls n (λ q. h (suc q)) p

rest_here : (ls : List (List item.Item)) (p : ℕ) (x : item.Item) (xs : List item.Item) → list_at ls p ≡ x ∷ xs → list_at (rest_at ls p) p ≡ xs
rest_here [] p x xs e = absurd (cc e)
rest_here (l ∷ ls) zero x xs e = ap rest_in e
rest_here (l ∷ ls) (suc p) x xs e = rest_here ls p x xs e

rest_else : (ls : List (List item.Item)) (p q : ℕ) → p ≢ q → list_at (rest_at ls p) q ≡ list_at ls q
rest_else [] p q ne = refl
rest_else (l ∷ ls) zero zero ne = absurd (ne refl)
rest_else (l ∷ ls) zero (suc q) ne = refl
rest_else (l ∷ ls) (suc p) zero ne = refl
rest_else (l ∷ ls) (suc p) (suc q) ne = rest_else ls p q (λ e. ne (ap suc e))

-- the item in front of a line
record InFront (ls : List (List item.Item)) (p : ℕ) (x : item.Item) : Type 0 where
  rest : List item.Item
  is : list_at ls p ≡ x ∷ rest

in_front : (ls : List (List item.Item)) (p : ℕ) (x : item.Item) → front_at itself ls p ≡ Some (x ∷ []) → InFront ls p x
in_front [] p x e = absurd (cc e)
in_front ([] ∷ ls) zero x e = absurd (cc e)
in_front ((y ∷ ys) ∷ ls) zero x e = let same : y ≡ x = cc e in record { rest = ys; is = ap (λ z. z ∷ ys) same }
in_front (l ∷ ls) (suc p) x e = let f = in_front ls p x e in record { rest = f.rest; is = f.is }

no_front : (ls : List (List item.Item)) (p : ℕ) → front_at itself ls p ≡ None → list_at ls p ≡ []
no_front [] p e = refl
no_front ([] ∷ ls) zero e = refl
no_front ((y ∷ ys) ∷ ls) zero e = absurd (cc e)
no_front (l ∷ ls) (suc p) e = no_front ls p e

-- what was given may be held: nothing was
pub held_none : (t : flat_type.FlatType) (out : List item.Item) → GaveHeld t out out
held_none t out = record { given = []; grew = sym (append-nil out); each = All-nil (IsHeld (FlatOf t)) }

-- more was
pub held_on : (t : flat_type.FlatType) (out out' out'' : List item.Item) → GaveHeld t out out' → GaveHeld t out' out'' → GaveHeld t out out''
held_on t out out' out'' g h = record {
  given = g.given ++ h.given;
  grew = h.grew ∙ ap (λ l. l ++ h.given) g.grew ∙ append_assoc out g.given h.given;
  each = All-append (IsHeld (FlatOf t)) g.given h.given g.each h.each;
}

-- one item was
held_one : (t : flat_type.FlatType) (out out' : List item.Item) (f : flat.Flat) → out' ≡ out ++ Flat f ∷ [] → MayHold t f → GaveHeld t out out'
unfolding IsHeld
held_one t out out' f e h = record {
  given = Flat f ∷ [];
  grew = e;
  each = All-cons (IsHeld (FlatOf t)) (Flat f) [] h (All-nil (IsHeld (FlatOf t)));
}

-- ONE ITEM THAT IS NO PACK

row_joined : (place : ℕ) (row : List ℤ) (s : List Debt) (last : List (List ℤ)) (now : ℕ → List (List ℤ)) (g : flat.Flat) → IsUnchanged g
    → AreOwed s (λ p. last) now
    → One row ≡ held_flat (now place) g → FlatJoined place last now g s (One row)
row_joined place row s last now (One r) same owed is = record { next = now; here = refl; others = λ q ne. refl; owed = owed; gave = is }
row_joined place row s last now (Batched b) same owed is = absurd (cc is)
row_joined place row s last now (Changed c) same owed is = absurd same

-- a row passes as it is
pub row_passes : (place : ℕ) (row : List ℤ) (s : List Debt) → JoinsFlat place (One row) s s (One row)
row_passes place row s = record {
  each = λ last now g same owed is. row_joined place row s last now g same owed is;
  plain = λ h. (refl, refl);
  lists = refl;
  few = λ h. h;
  wide = λ t h o. (h, o);
}

batch_joined : (place : ℕ) (b : Batch) (s : List Debt) (last : List (List ℤ)) (now : ℕ → List (List ℤ)) (g : flat.Flat) → IsUnchanged g
    → Batched b ≡ held_flat (now place) g → FlatJoined place last now g s (Batched b)
batch_joined place b s last now (One r) same is = absurd (cc is)
batch_joined place b s last now (Batched c) same is = absurd (cc is)
batch_joined place b s last now (Changed c) same is = absurd same

-- so does a batch
pub batch_passes : (place : ℕ) (b : Batch) (s : List Debt) → JoinsFlat place (Batched b) s s (Batched b)
batch_passes place b s = record {
  each = λ last now g same owed is. batch_joined place b s last now g same is;
  plain = λ h. (refl, refl);
  lists = refl;
  few = λ h. h;
  wide = λ t h o. (h, o);
}

change_joined : (place : ℕ) (c given : Change) (s s' : List Debt) → JoinsOwed place c s s' given
    → (last : List (List ℤ)) (now : ℕ → List (List ℤ)) (g : flat.Flat)
    → IsUnchanged g → AreOwed s (λ p. last) now → Changed c ≡ held_flat (now place) g → FlatJoined place last now g s' (Changed given)
change_joined place c given s s' j last now (One r) same owed is = absurd (cc is)
change_joined place c given s s' j last now (Changed d) same owed is = absurd same
change_joined place c given s s' j last now (Batched b) same owed is =
    let r = j.each last now b owed (cc is) in
    record {
      next = but_at place b.rows now;
      here = but_same place b.rows now;
      others = λ q ne. but_other place q b.rows now ne;
      owed = r.1;
      gave = ap (λ d. Changed d) r.0;
    }

change_wide : (c given : Change) (s s' : List Debt) → KeepsOwed c s s' given → (t : flat_type.FlatType) → MayHold t (Changed c) → MayOwe t s
    → MayHold t (Changed given) × MayOwe t s'
change_wide c given s s' k (Rows n) h o = absurd h
change_wide c given s s' k (Stream n) h o = absurd h
change_wide c given s s' k (Relation n) h o = let r = k.wide n o h.wide in (record { normal = k.normal; wide = r.0 }, r.1)

-- a change passes with what its port owes
pub change_passes : (place : ℕ) (c given : Change) (s s' : List Debt) → JoinsOwed place c s s' given → KeepsOwed c s s' given
    → JoinsFlat place (Changed c) s s' (Changed given)
change_passes place c given s s' j k = record {
  each = λ last now g same owed is. change_joined place c given s s' j last now g same owed is;
  plain = λ h. absurd h;
  lists = k.lists;
  few = k.few;
  wide = λ t h o. change_wide c given s s' k t h o;
}

-- THE ITEMS OF A PACK

none_joined : (place : ℕ) (s : List Debt) (out : List item.Item) (last : List (List ℤ)) (now : ℕ → List (List ℤ)) (gs : List flat.Flat)
    → AreOwed s (λ p. last) now
    → [] ≡ held_flats (now place) gs → FlatsJoined place last now gs s out out
none_joined place s out last now [] owed is = record { next = now; here = refl; others = λ q ne. refl; owed = owed; gave = sym (append-nil out) }
none_joined place s out last now (g ∷ gs) owed is = absurd (cc is)

-- none has passed
pub flats_start : (place : ℕ) (s : List Debt) (out : List item.Item) → JoinsFlats place [] s s out out
flats_start place s out = record {
  each = λ last now gs same owed is. none_joined place s out last now gs owed is;
  plain = λ h. (sym (append-nil out), refl);
  lists = refl;
  few = λ h. h;
  wide = λ t h o. (held_none t out, o);
}

-- one more has
pub flats_step : (place : ℕ) (fs : List flat.Flat) (f given : flat.Flat) (start s s' : List Debt) (out out' out'' : List item.Item)
    → JoinsFlats place fs start s out out'
    → JoinsFlat place f s s' given → out'' ≡ out' ++ Flat given ∷ [] → JoinsFlats place (fs ++ f ∷ []) start s' out out''
flats_step place fs f given start s s' out out' out'' j k e = record {
  each = λ last now gs same owed is. step last now gs same owed (held_last fs f (now place) gs is);
  plain = λ h.
      let a = j.plain (all_front IsUnchanged fs f h) in
      let b = k.plain (all_last IsUnchanged fs f h) in
      (e ∙ (λ i. a.0 i ++ Flat (b.0 i) ∷ []) ∙ append_assoc out (flats_as_items fs) (Flat f ∷ []) ∙ ap (λ l. out ++ l) (sym (items-more fs f)), b.1 ∙ a.1);
  lists = k.lists ∙ j.lists;
  few = λ h. k.few (j.few h);
  wide = λ t h o.
      let a = j.wide t (all_front (MayHold t) fs f h) o in
      let b = k.wide t (all_last (MayHold t) fs f h) a.1 in
      (held_on t out out' out'' a.0 (held_one t out' out'' given e b.0), b.1);
}
  where
    step : (last : List (List ℤ)) (now : ℕ → List (List ℤ)) (gs : List flat.Flat) → All IsUnchanged gs → AreOwed start (λ p. last) now
        → HeldLast fs f (now place) gs
        → FlatsJoined place last now gs s' out out''
    step last now gs same owed l =
        let all : All IsUnchanged (l.front ++ l.g ∷ []) = subst (All IsUnchanged) l.is same in
        let p = j.each last now l.front (all_front IsUnchanged l.front l.g all) owed l.rest in
        let q = k.each (after_flats last l.front) p.next l.g (all_last IsUnchanged l.front l.g all) p.owed (l.end ∙ ap (λ b. held_flat b l.g) (sym p.here)) in
        subst (λ xs. FlatsJoined place last now xs s' out out'') (sym l.is) (record {
          next = q.next;
          here = q.here ∙ ap (λ b. after_flat b l.g) p.here ∙ sym (after-more (now place) l.front l.g);
          others = λ r ne. q.others r ne ∙ p.others r ne;
          owed = subst (λ b. AreOwed s' (λ r. b) q.next) (sym (after-more last l.front l.g)) q.owed;
          gave =
              e ∙ (λ i. p.gave i ++ Flat (q.gave i) ∷ [])
              ∙ append_assoc out (flats_as_items (held_flats last l.front)) (Flat (held_flat (after_flats last l.front) l.g) ∷ [])
              ∙ ap (λ r. out ++ r) (sym (held-more last l.front l.g));
        })

-- there was no memory for more
pub flats_part : (place n : ℕ) (done fs : List flat.Flat) (s s' : List Debt) (out out' out'' : List item.Item) → JoinsFlats place done s s' out out'
    → done ≡ take n fs
    → out'' ≡ out' → JoinsFlatsPart place fs s out out''
flats_part place n done fs s s' out out' out'' j e f = record {
  each = λ last now gs same owed is.
      let h : done ≡ held_flats (now place) (take n gs) = e ∙ ap (take n) is ∙ sym (held-take n (now place) gs) in
      let g = j.each last now (take n gs) (All-take IsUnchanged n gs same) owed h in
      grew_by_map (λ x. Flat x) out out'' (held_flats last gs) n (f ∙ g.gave ∙ ap (λ l. out ++ flats_as_items l) (held-take n last gs));
  plain = λ h.
      let g = j.plain (subst (All IsUnchanged) (sym e) (All-take IsUnchanged n fs h)) in
      grew_by_map (λ x. Flat x) out out'' fs n (f ∙ g.0 ∙ ap (λ l. out ++ flats_as_items l) e);
}

-- ONE ITEM

-- nothing of an item was given
pub item_none : (place : ℕ) (x : item.Item) (s : List Debt) (out out' : List item.Item) → out' ≡ out → JoinsItemPart place x s out out'
item_none place x s out out' e = record {
  each = λ last now y same owed is. grew_by_none out out' (held_from last (items_of y)) e;
  plain = λ h. grew_by_none out out' (items_of x) e;
}

pack_part : (place : ℕ) (fs : List flat.Flat) (s : List Debt) (out out' : List item.Item) → JoinsFlatsPart place fs s out out'
    → (last : List (List ℤ)) (now : ℕ → List (List ℤ)) (y : item.Item) → HasNoChange y → AreOwed s (λ p. last) now → Pack fs ≡ held_item (now place) y
    → GrewByPrefix out (held_from last (items_of y)) out'
pack_part place fs s out out' j last now (Flat g) same owed is = absurd (cc is)
pack_part place fs s out out' j last now (Pack gs) same owed is =
    subst (λ l. GrewByPrefix out l out') (sym (held-as_items last gs)) (j.each last now gs same owed (cc is))

-- a part of a pack was
pub item_part : (place : ℕ) (fs : List flat.Flat) (s : List Debt) (out out' : List item.Item) → JoinsFlatsPart place fs s out out'
    → JoinsItemPart place (Pack fs) s out out'
item_part place fs s out out' j = record { each = λ last now y same owed is. pack_part place fs s out out' j last now y same owed is; plain = j.plain }

flat_joined : (place : ℕ) (f given : flat.Flat) (s s' : List Debt) (out out' : List item.Item) → JoinsFlat place f s s' given → out' ≡ out ++ Flat given ∷ []
    → (last : List (List ℤ)) (now : ℕ → List (List ℤ)) (y : item.Item) → HasNoChange y → AreOwed s (λ p. last) now → Flat f ≡ held_item (now place) y
    → ItemJoined place last now y s' out out'
flat_joined place f given s s' out out' j e last now (Pack gs) same owed is = absurd (cc is)
flat_joined place f given s s' out out' j e last now (Flat g) same owed is =
    let p = j.each last now g same owed (cc is) in
    record { next = p.next; here = p.here; others = p.others; owed = p.owed; gave = e ∙ ap (λ h. out ++ Flat h ∷ []) p.gave }

flat_wide : (place : ℕ) (f given : flat.Flat) (s s' : List Debt) (out out' : List item.Item) → JoinsFlat place f s s' given → out' ≡ out ++ Flat given ∷ []
    → (t : queue_type.QueueType) → IsHeld t (Flat f) → MayOwe (flat_in t) s → GaveHeld (flat_in t) out out' × MayOwe (flat_in t) s'
unfolding IsHeld
flat_wide place f given s s' out out' j e (FlatOf t) h o = let r = j.wide t h o in (held_one t out out' given e r.0, r.1)
flat_wide place f given s s' out out' j e (PackOf t) h o = absurd h

-- an item that is no pack has passed
pub item_alone : (place : ℕ) (f given : flat.Flat) (s s' : List Debt) (out out' : List item.Item) → JoinsFlat place f s s' given → out' ≡ out ++ Flat given ∷ []
    → JoinsItem place (Flat f) s s' out out'
item_alone place f given s s' out out' j e = record {
  each = λ last now y same owed is. flat_joined place f given s s' out out' j e last now y same owed is;
  plain = λ h. let a = j.plain h in (e ∙ ap (λ g. out ++ Flat g ∷ []) a.0, a.1);
  lists = j.lists;
  few = j.few;
  wide = λ t h o. flat_wide place f given s s' out out' j e t h o;
}

pack_joined : (place : ℕ) (fs : List flat.Flat) (s s' : List Debt) (out out' : List item.Item) → JoinsFlats place fs s s' out out'
    → (last : List (List ℤ)) (now : ℕ → List (List ℤ)) (y : item.Item) → HasNoChange y → AreOwed s (λ p. last) now → Pack fs ≡ held_item (now place) y
    → ItemJoined place last now y s' out out'
pack_joined place fs s s' out out' j last now (Flat g) same owed is = absurd (cc is)
pack_joined place fs s s' out out' j last now (Pack gs) same owed is =
    let p = j.each last now gs same owed (cc is) in
    record { next = p.next; here = p.here; others = p.others; owed = p.owed; gave = p.gave ∙ ap (λ l. out ++ l) (sym (held-as_items last gs)) }

pack_wide : (place : ℕ) (fs : List flat.Flat) (s s' : List Debt) (out out' : List item.Item) → JoinsFlats place fs s s' out out' → (t : queue_type.QueueType)
    → IsHeld t (Pack fs) → MayOwe (flat_in t) s → GaveHeld (flat_in t) out out' × MayOwe (flat_in t) s'
unfolding IsHeld
pack_wide place fs s s' out out' j (FlatOf t) h o = absurd h
pack_wide place fs s s' out out' j (PackOf t) h o = j.wide t h o

-- a pack has
pub item_pack : (place : ℕ) (fs : List flat.Flat) (s s' : List Debt) (out out' : List item.Item) → JoinsFlats place fs s s' out out'
    → JoinsItem place (Pack fs) s s' out out'
item_pack place fs s s' out out' j = record {
  each = λ last now y same owed is. pack_joined place fs s s' out out' j last now y same owed is;
  plain = j.plain;
  lists = j.lists;
  few = j.few;
  wide = λ t h o. pack_wide place fs s s' out out' j t h o;
}

-- THE ITEMS OF A PORT

record HeldFront (before : List (List ℤ)) (x : item.Item) (xs items : List item.Item) : Type 0 where
  y : item.Item
  ys : List item.Item
  is : items ≡ y ∷ ys
  front : x ≡ held_item before y
  rest : xs ≡ held_from (after_item before y) ys

held_front : (before : List (List ℤ)) (x : item.Item) (xs items : List item.Item) → x ∷ xs ≡ held_from before items → HeldFront before x xs items
held_front before x xs [] e = absurd (cc e)
held_front before x xs (y ∷ ys) e = record { y = y; ys = ys; is = refl; front = cc e; rest = cc e }

no_item : (before : List (List ℤ)) (items : List item.Item) → [] ≡ held_from before items → items ≡ []
no_item before [] e = refl
no_item before (x ∷ xs) e = absurd (cc e)

-- ALL ITEMS

-- some items have passed: they were given, with changes in place of contents, and what is kept stands for the others
pub record JoinedIn (give : item.Item → List item.Item) (ws : List ℕ) (m : Joining) (s : JoinKept) (out out' : List item.Item) : Type 0 where
  pub next : Joining
  pub stands : StandsForJoining s next
  pub left : AreOpened give next.turns
  pub items : List item.Item
  pub passed : SoFar give ws m.turns next.turns [] items
  pub gave : out' ≡ out ++ held_from m.last items
  pub last : content_from m.last items ≡ next.last
  pub ends : (p : ℕ) → p < length m.turns.lists → content_from (next.now p) (list_at next.turns.lists p) ≡ content_from (m.now p) (list_at m.turns.lists p)

-- they were given as they are
pub record PlainIn (give : item.Item → List item.Item) (ws : List ℕ) (start s : JoinKept) (out out' : List item.Item) : Type 0 where
  pub left : AreOpened give s.turns
  pub passed : SoFar give ws start.turns s.turns out out'
  pub owed : s.owed ≡ start.owed

-- the same for whatever contents there were, and where there are none, and what was given fits
pub record JoinedSoFar (ws : List ℕ) (start now : JoinKept) (out out' : List item.Item) : Type 0 where
  pub each : (give : item.Item → List item.Item) (m : Joining) → AreOpened give m.turns → StandsForJoining start m → JoinedIn give ws m now out out'
  pub plain : (give : item.Item → List item.Item) → AreOpened give start.turns → PlainIn give ws start now out out'
  pub keeps : KeepsJoin ws start now out out'

joiner_of : (ws : List ℕ) (s : JoinKept) (m : Joining) → StandsForJoining s m → IsJoiner ws s.turns → IsJoiner ws m.turns
joiner_of ws s m h j = record {
  turn = (
    subst (λ p. p < length ws) h.port j.turn.0,
    subst (λ n. n < slice_index_or ws m.turns.port 0) h.had
        (subst (λ p. s.turns.had < slice_index_or ws p 0) h.port j.turn.1),
  );
  lists = sym h.lists ∙ j.lists;
}

-- no item has
pub joined_start : (ws : List ℕ) (s : JoinKept) (out : List item.Item) → HasJoinShape ws s → JoinedSoFar ws s s out out
joined_start ws s out j = record {
  each = λ give m opened h. record {
    next = m;
    stands = h;
    left = opened;
    items = [];
    passed = so_far_start give ws m.turns [] (joiner_of ws s m h j.joined);
    gave = sym (append-nil out);
    last = refl;
    ends = λ p lt. refl;
  };
  plain = λ give opened. record { left = opened; passed = so_far_start give ws s.turns out j.joined; owed = refl };
  keeps = record { shape = j; few = λ h. h; wide = λ t h. (held_none (flat_in t) out, h) };
}

-- an item was taken of the port in turn
pub record Took (ws : List ℕ) (s s' : JoinKept) (place : ℕ) (x : item.Item) : Type 0 where
  pub port : place ≡ s.turns.port
  pub passes : PassesFront (slice_index_or ws s.turns.port 0) s.turns s'.turns x
  pub owed : s'.owed ≡ s.owed

-- an item that was put to the list of its port is taken
pub took : (ws : List ℕ) (share place : ℕ) (x : item.Item) (s s' : JoinKept) → share ≡ slice_index_or ws s.turns.port 0
    → TakesItem share s.turns s'.turns (place, x)
    → s'.owed ≡ s.owed → Took ws s s' place x
took ws share place x s s' e h owed = record { port = h.port; passes = subst (λ n. PassesFront n s.turns s'.turns x) e h.passes; owed = owed }

-- one that passes does not wait any more
pub fewer_wait : (ws : List ℕ) (s s' : JoinKept) (place : ℕ) (x : item.Item) → IsJoiner ws s.turns → Took ws s s' place x
    → waiting s'.turns.lists < waiting s.turns.lists
fewer_wait ws s s' place x j t = so_far_less itself ws s.turns s.turns s'.turns [] [] x (so_far_start itself ws s.turns [] j) t.passes

module _ (ws : List ℕ) (s s' : JoinKept) (x : item.Item) (t : PassesFront (slice_index_or ws s.turns.port 0) s.turns s'.turns x) where
  abbrev port : ℕ
  port = s.turns.port

  front : InFront s.turns.lists port x
  front = in_front s.turns.lists port x (t.front itself)

  lists_are : s'.turns.lists ≡ rest_at s.turns.lists port
  lists_are = ap (λ (u : Turns). u.lists) t.after

  line_here : list_at s'.turns.lists port ≡ front.rest
  line_here = ap (λ ls. list_at ls port) lists_are ∙ rest_here s.turns.lists port x front.rest front.is

  line_else : (q : ℕ) → port ≢ q → list_at s'.turns.lists q ≡ list_at s.turns.lists q
  line_else q ne = ap (λ ls. list_at ls q) lists_are ∙ rest_else s.turns.lists port q ne

  all_left : (P : item.Item → Type 0) → ((p : ℕ) → All P (list_at s.turns.lists p)) → (p : ℕ) → All P (list_at s'.turns.lists p)
  all_left P h p = subst (λ ls. All P (list_at ls p)) (sym lists_are) (all_rest P s.turns.lists port h p)

  of_front : (P : item.Item → Type 0) → ((p : ℕ) → All P (list_at s.turns.lists p)) → P x
  of_front P h = All-head P x front.rest (subst (All P) front.is (h port))

  module _ (give : item.Item → List item.Item) (n : Joining) (h : StandsForJoining s n) (left : AreOpened give n.turns) (joiner : IsJoiner ws n.turns) where
    abbrev q : ℕ
    q = n.turns.port

    lt : q < length n.turns.lists
    lt = subst (λ i. q < i) (sym joiner.lists) joiner.turn.0

    held : HeldFront (n.now q) x front.rest (list_at n.turns.lists q)
    held = held_front (n.now q) x front.rest (list_at n.turns.lists q) (sym front.is ∙ ap (λ p. list_at s.turns.lists p) h.port ∙ h.lines q lt)

    opens : PassesOpened give held.y
    opens = All-head (PassesOpened give) held.y held.ys (subst (All (PassesOpened give)) held.is (left q))

    passes : PassesFront (slice_index_or ws q 0) n.turns (passed_by (slice_index_or ws q 0) n.turns) held.y
    passes = record { front = λ g. front_is g n.turns.lists q held.y held.ys lt held.is; after = refl }

    rest_front : list_at (rest_at n.turns.lists q) q ≡ held.ys
    rest_front = rest_here n.turns.lists q held.y held.ys held.is

    module _ (out' out'' : List item.Item) (j : JoinsItem port x s.owed s'.owed out' out'') where
      joined : ItemJoined q n.last n.now held.y s'.owed out' out''
      joined = (subst (λ p. JoinsItem p x s.owed s'.owed out' out'') h.port j).each n.last n.now held.y opens.same h.owed held.front

      abbrev after : Joining
      after = record { turns = passed_by (slice_index_or ws q 0) n.turns; last = after_item n.last held.y; now = joined.next }

      stands_after : StandsForJoining s' after
      stands_after = record {
        port = ap (λ (u : Turns). u.port) t.after ∙ (λ i. port_after (slice_index_or ws (h.port i) 0) (h.lists i) (h.port i) (h.had i));
        had = ap (λ (u : Turns). u.had) t.after ∙ (λ i. had_after (slice_index_or ws (h.port i) 0) (h.had i));
        lists = ap length lists_are ∙ length-rest_at s.turns.lists port ∙ h.lists ∙ sym (length-rest_at n.turns.lists q);
        lines = λ p l.
            let l' : p < length n.turns.lists = subst (λ i. p < i) (length-rest_at n.turns.lists q) l in
            ⊎_elim
            (λ e. subst (λ r. list_at s'.turns.lists r ≡ held_from (joined.next r) (list_at (rest_at n.turns.lists q) r)) e
            (ap (λ r. list_at s'.turns.lists r) (sym h.port) ∙ line_here ∙ held.rest ∙ (λ i. held_from (sym joined.here i) (sym rest_front i))))
            (λ ne. line_else p (λ e. ne (sym h.port ∙ e)) ∙ h.lines p l'
            ∙ (λ i. held_from (sym (joined.others p ne) i) (sym (rest_else n.turns.lists q p ne) i)))
            (cases_eq q p);
        owed = joined.owed;
      }

      ends_after : (p : ℕ) → content_from (joined.next p) (list_at (rest_at n.turns.lists q) p) ≡ content_from (n.now p) (list_at n.turns.lists p)
      ends_after p =
          ⊎_elim
          (λ e. subst (λ r. content_from (joined.next r) (list_at (rest_at n.turns.lists q) r) ≡ content_from (n.now r) (list_at n.turns.lists r)) e
          ((λ i. content_from (joined.here i) (rest_front i)) ∙ ap (content_from (n.now q)) (sym held.is)))
          (λ ne. (λ i. content_from (joined.others p ne i) (rest_else n.turns.lists q p ne i)))
          (cases_eq q p)

  -- there was no memory for what it gives
  pub joined_part : (start : JoinKept) (out out' out'' : List item.Item) → JoinedSoFar ws start s out out' → JoinsItemPart port x s.owed out' out''
      → JoinsPart ws start out out''
  joined_part start out out' out'' f part = record {
    contents = λ give m opened h. contents give m (f.each give m opened h);
    plain = λ give opened. plain give (f.plain give opened);
  } where
    contents : (give : item.Item → List item.Item) (m : Joining) → JoinedIn give ws m s out out'
        → GrewByPrefix out (held_from m.last (settled give ws m.turns).0) out''
    contents give m g =
        let n = g.next in
        let jn : IsJoiner ws n.turns = g.passed.joined in
        let h = held give n g.stands g.left jn in
        let o : PassesOpened give h.y = opens give n g.stands g.left jn in
        let more : List item.Item = (settled give ws (passed ws n.turns)).0 in
        let all : (settled give ws m.turns).0 ≡ g.items ++ (items_of h.y ++ more) =
        sym (so_far_next give ws m.turns n.turns (passed_by (slice_index_or ws n.turns.port 0) n.turns) [] g.items h.y g.passed
        (passes give n g.stands g.left jn))
        ∙ (λ i. sym g.passed.grew i ++ (o.opened i ++ more)) in
        let p = (subst (λ q. JoinsItemPart q x s.owed out' out'') g.stands.port part).each n.last n.now h.y o.same g.stands.owed h.front in
        grew_on out (held_from m.last g.items) (held_from n.last (items_of h.y)) (held_from (content_from n.last (items_of h.y)) more)
        (held_from m.last (settled give ws m.turns).0) out' out'' g.gave
        (ap (held_from m.last) all ∙ held_from-append m.last g.items (items_of h.y ++ more)
        ∙ ap (λ l. held_from m.last g.items ++ l) (ap (λ c. held_from c (items_of h.y ++ more)) g.last ∙ held_from-append n.last (items_of h.y) more)) p

    plain : (give : item.Item → List item.Item) → PlainIn give ws start s out out' → GrewByPrefix out (settled give ws start.turns).0 out''
    plain give g =
        let o : PassesOpened give x = of_front (PassesOpened give) g.left in
        let more : List item.Item = (settled give ws (passed ws s.turns)).0 in
        grew_on out g.passed.given (give x) more (settled give ws start.turns).0 out' out'' g.passed.grew
        (sym (so_far_next give ws start.turns s.turns s'.turns out out' x g.passed t))
        (subst (λ l. GrewByPrefix out' l out'') (sym o.opened) (part.plain o.same))

  module _ (start : JoinKept) (out out' out'' : List item.Item) (shares : HaveShares ws) (j : JoinsItem port x s.owed s'.owed out' out'') where
    next_shape : HasJoinShape ws s → HasJoinShape ws s'
    next_shape h = record {
      joined = (so_far_step itself ws s.turns s.turns s'.turns [] [] (x ∷ []) x shares (so_far_start itself ws s.turns [] h.joined) t refl).joined;
      owed = j.lists ∙ h.owed;
    }

    next_keeps : KeepsJoin ws start s out out' → KeepsJoin ws start s' out out''
    next_keeps f = record {
      shape = next_shape f.shape;
      few = λ h. j.few (f.few h);
      wide = λ q h.
          let g = f.wide q h in
          let r = j.wide q (of_front (IsHeld q) (g.1).lines) (g.1).owed in
          (held_on (flat_in q) out out' out'' g.0 r.0, record { lines = all_left (IsHeld q) (g.1).lines; owed = r.1 });
    }

    next_plain : (give : item.Item → List item.Item) → PlainIn give ws start s out out' → PlainIn give ws start s' out out''
    next_plain give f =
        let o : PassesOpened give x = of_front (PassesOpened give) f.left in
        let b = j.plain o.same in
        record {
          left = all_left (PassesOpened give) f.left;
          passed = so_far_step give ws start.turns s.turns s'.turns out out' out'' x shares f.passed t (b.0 ∙ ap (λ l. out' ++ l) (sym o.opened));
          owed = b.1 ∙ f.owed;
        }

    next_in : (give : item.Item → List item.Item) (m : Joining) → JoinedIn give ws m s out out' → JoinedIn give ws m s' out out''
    next_in give m g =
        let n = g.next in
        let jn : IsJoiner ws n.turns = g.passed.joined in
        let y = (held give n g.stands g.left jn).y in
        let o : PassesOpened give y = opens give n g.stands g.left jn in
        let p = joined give n g.stands g.left jn out' out'' j in
        record {
          next = after give n g.stands g.left jn out' out'' j;
          stands = stands_after give n g.stands g.left jn out' out'' j;
          left = λ r. all_rest (PassesOpened give) n.turns.lists n.turns.port g.left r;
          items = g.items ++ give y;
          passed = so_far_step give ws m.turns n.turns (passed_by (slice_index_or ws n.turns.port 0) n.turns) [] g.items (g.items ++ give y) y shares g.passed
              (passes give n g.stands g.left jn) refl;
          gave =
              p.gave ∙ ap (λ l. l ++ held_from n.last (items_of y)) g.gave ∙ append_assoc out (held_from m.last g.items) (held_from n.last (items_of y))
              ∙ ap (λ l. out ++ (held_from m.last g.items ++ held_from l (items_of y))) (sym g.last)
              ∙ ap (λ l. out ++ l) (sym (held_from-append m.last g.items (items_of y)) ∙ ap (λ l. held_from m.last (g.items ++ l)) (sym o.opened));
          last =
              ap (λ l. content_from m.last (g.items ++ l)) o.opened ∙ content-append m.last g.items (items_of y) ∙ ap (λ l. content_from l (items_of y)) g.last
              ∙ content-items_of n.last y;
          ends = λ r l. ends_after give n g.stands g.left jn out' out'' j r ∙ g.ends r l;
        }

    -- one more has
    pub joined_step : JoinedSoFar ws start s out out' → JoinedSoFar ws start s' out out''
    joined_step f = record {
      each = λ give m opened h. next_in give m (f.each give m opened h);
      plain = λ give opened. next_plain give (f.plain give opened);
      keeps = next_keeps f.keeps;
    }

-- the item that was taken is given
pub given_step : (ws : List ℕ) (start s u s' : JoinKept) (place : ℕ) (x : item.Item) (out out' out'' : List item.Item) → HaveShares ws
    → JoinedSoFar ws start s out out'
    → Took ws s u place x → s'.turns ≡ u.turns → JoinsItem place x u.owed s'.owed out' out'' → JoinedSoFar ws start s' out out''
given_step ws start s u s' place x out out' out'' shares f t e j =
    joined_step ws s s' x (subst (λ v. PassesFront (slice_index_or ws s.turns.port 0) s.turns v x) (sym e) t.passes) start out out' out'' shares
    (subst (λ p. JoinsItem p x s.owed s'.owed out' out'') t.port (subst (λ d. JoinsItem place x d s'.owed out' out'') t.owed j)) f

-- a part of it is
pub given_part : (ws : List ℕ) (start s u : JoinKept) (place : ℕ) (x : item.Item) (out out' out'' : List item.Item) → JoinedSoFar ws start s out out'
    → Took ws s u place x → JoinsItemPart place x u.owed out' out'' → JoinsPart ws start out out''
given_part ws start s u place x out out' out'' f t p =
    joined_part ws s u x t.passes start out out' out'' f
    (subst (λ q. JoinsItemPart q x s.owed out' out'') t.port (subst (λ d. JoinsItemPart place x d out' out'') t.owed p))

-- nothing is
pub part_none : (ws : List ℕ) (s : JoinKept) (out : List item.Item) → JoinsPart ws s out out
part_none ws s out = record {
  contents = λ give m opened h. grew_by_none out out (held_from m.last (settled give ws m.turns).0) refl;
  plain = λ give opened. grew_by_none out out (settled give ws s.turns).0 refl;
}

same_kept : (s s' : JoinKept) → s'.turns ≡ s.turns → s'.owed ≡ s.owed → s ≡ s'
same_kept s s' e f i = record { turns = sym e i; owed = sym f i }

-- no more can pass
pub joined_end : (ws : List ℕ) (start s s' : JoinKept) (out out' : List item.Item) → JoinedSoFar ws start s out out' → IsStuck s.turns s'.turns
    → s'.owed ≡ s.owed
    → JoinsItems ws start s' out out'
joined_end ws start s s' out out' f gone same = record { each = λ give m opened h. step give m (f.each give m opened h) } where
  step : (give : item.Item → List item.Item) (m : Joining) → JoinedIn give ws m s out out' → JoinedItems give ws m s' out out'
  step give m g =
      let n = g.next in
      let jn : IsJoiner ws n.turns = g.passed.joined in
      let lt : n.turns.port < length n.turns.lists = subst (λ i. n.turns.port < i) (sym jn.lists) jn.turn.0 in
      let none : list_at n.turns.lists n.turns.port ≡ [] =
      no_item (n.now n.turns.port) (list_at n.turns.lists n.turns.port) (sym (no_front s.turns.lists s.turns.port (gone.front itself))
      ∙ ap (λ p. list_at s.turns.lists p) g.stands.port ∙ g.stands.lines n.turns.port lt) in
      let stop : IsStuck n.turns n.turns = record { front = λ gv. front_none gv n.turns.lists n.turns.port none; same = refl } in
      let e = so_far_end give ws m.turns n.turns n.turns [] g.items g.passed stop in
      let last : n.last ≡ content_from m.last (settled give ws m.turns).0 = sym g.last ∙ ap (content_from m.last) e.0 in
      record {
        now = n.now;
        gave = g.gave ∙ ap (λ l. out ++ held_from m.last l) e.0;
        stands = subst (λ k. StandsForJoining k
            (record { turns = (settled give ws m.turns).1; last = content_from m.last (settled give ws m.turns).0; now = n.now }))
            (same_kept s s' gone.same same)
            (subst (StandsForJoining s) (λ i. record { turns = e.1 i; last = last i; now = n.now }) g.stands);
        ends = λ p l. ap (λ (u : Turns). content_from (n.now p) (list_at u.lists p)) (sym e.1) ∙ g.ends p l;
      }

-- where no change waited, all passed as it is
pub plain_end : (ws : List ℕ) (start s s' : JoinKept) (out out' : List item.Item) → JoinedSoFar ws start s out out' → IsStuck s.turns s'.turns
    → s'.owed ≡ s.owed
    → JoinsPlainly ws start s' out out'
plain_end ws start s s' out out' f gone same = record {
  each = λ give opened.
      let g = f.plain give opened in
      let e = so_far_end give ws start.turns s.turns s'.turns out out' g.passed gone in
      record { gave = e.0; turns = e.1; owed = same ∙ g.owed };
}

-- a joiner that an item comes to keeps its shape
pub put_shape : (ws : List ℕ) (p : ℕ) (x : item.Item) (s : JoinKept) → HasJoinShape ws s → HasJoinShape ws (put_item p x s)
put_shape ws p x s j = record { joined = joined_put ws p x s.turns j.joined; owed = j.owed }
