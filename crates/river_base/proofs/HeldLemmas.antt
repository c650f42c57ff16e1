-- The laws of what a queue holds. Nothing else is used of it.
use Rattle.std.specs.Prelude.{All}
use Rattle.std.proofs.lemmas.List.Elements.{All-head, All-tail, All-cons, All-nil}
use Rattle.std.proofs.Common.{◌≡◌, ℕ, ℤ, suc, List, [], ◌∷◌, ◌++◌, length, refl, sym, ap, ◌∙◌}
use Rattle.river_base.specs.declared.item.Flat as flat
use Rattle.river_base.specs.declared.item.Item as item
use Rattle.river_base.specs.declared.item.Item.TheVariants.{Flat, Pack}
use Rattle.river_base.specs.declared.kind.FlatType as flat_type
use Rattle.river_base.specs.declared.kind.FlatType.TheVariants.{Rows, Stream, Relation}
use Rattle.river_base.specs.declared.kind.QueueType as queue_type
use Rattle.river_base.specs.declared.kind.QueueType.TheVariants.{Flat as FlatOf, Pack as PackOf}
use Rattle.river_base.specs.Held.{held, held_by_type, held_from, held_item, held_flat, held_flats, content_from, after_item, after_flat, after_flats, MayHold}
use Rattle.river_base.specs.Held.{IsHeld, IsPlain, flats_as_items, items_of, flats}

from-append : (before : List (List ℤ)) (xs ys : List item.Item) → held_from before (xs ++ ys) ≡ held_from before xs ++ held_from (content_from before xs) ys
from-append before [] ys = refl
from-append before (x ∷ xs) ys = ap (λ l. held_item before x ∷ l) (from-append (after_item before x) xs ys)

-- the content after two lists of items, one behind the other
pub content-append : (before : List (List ℤ)) (xs ys : List item.Item) → content_from before (xs ++ ys) ≡ content_from (content_from before xs) ys
content-append before [] ys = refl
content-append before (x ∷ xs) ys = content-append (after_item before x) xs ys

length-from : (before : List (List ℤ)) (xs : List item.Item) → length (held_from before xs) ≡ length xs
length-from before [] = refl
length-from before (x ∷ xs) = ap suc (length-from (after_item before x) xs)

type-nil : (t : flat_type.FlatType) (past : List item.Item) → held_by_type t past [] ≡ []
type-nil (Relation w) past = refl
type-nil (Rows w) past = refl
type-nil (Stream w) past = refl

type-append : (t : flat_type.FlatType) (past xs ys : List item.Item) → held_by_type t past (xs ++ ys) ≡ held_by_type t past xs ++ held_by_type t (past ++ xs) ys
type-append (Relation w) past xs ys = from-append (content_from [] past) xs ys
    ∙ ap (λ c. held_from (content_from [] past) xs ++ held_from c ys) (sym (content-append [] past xs))
type-append (Rows w) past xs ys = refl
type-append (Stream w) past xs ys = refl

type-length : (t : flat_type.FlatType) (past xs : List item.Item) → length (held_by_type t past xs) ≡ length xs
type-length (Relation w) past xs = length-from (content_from [] past) xs
type-length (Rows w) past xs = refl
type-length (Stream w) past xs = refl

-- for nothing it holds nothing
pub held-nil : (t : queue_type.QueueType) (past : List item.Item) → held t past [] ≡ []
unfolding held
held-nil (FlatOf t) past = type-nil t past
held-nil (PackOf t) past = type-nil t past

-- a list is held part by part, the second after the first
pub held-append : (t : queue_type.QueueType) (past xs ys : List item.Item) → held t past (xs ++ ys) ≡ held t past xs ++ held t (past ++ xs) ys
unfolding held
held-append (FlatOf t) past xs ys = type-append t past xs ys
held-append (PackOf t) past xs ys = type-append t past xs ys

-- one for each
pub length-held : (t : queue_type.QueueType) (past xs : List item.Item) → length (held t past xs) ≡ length xs
unfolding held
length-held (FlatOf t) past xs = type-length t past xs
length-held (PackOf t) past xs = type-length t past xs

-- what is no relation is held as it is
pub held-plain : (t : queue_type.QueueType) (past xs : List item.Item) → IsPlain t → held t past xs ≡ xs
unfolding held
held-plain (FlatOf (Relation w)) past xs h = absurd h
held-plain (FlatOf (Rows w)) past xs h = refl
held-plain (FlatOf (Stream w)) past xs h = refl
held-plain (PackOf (Relation w)) past xs h = absurd h
held-plain (PackOf (Rows w)) past xs h = refl
held-plain (PackOf (Stream w)) past xs h = refl

-- a relation is held as the changes of its contents
pub held-relation : (w : ℕ) (past xs : List item.Item) → held (FlatOf (Relation w)) past xs ≡ held_from (content_from [] past) xs
unfolding held
held-relation w past xs = refl

-- packs of a relation hold the packs of the changes of its contents
pub held-packs : (w : ℕ) (past xs : List item.Item) → held (PackOf (Relation w)) past xs ≡ held_from (content_from [] past) xs
unfolding held
held-packs w past xs = refl

pub flats-as_items : (fs : List flat.Flat) → flats (flats_as_items fs) ≡ fs
flats-as_items [] = refl
flats-as_items (f ∷ fs) = ap (λ l. f ∷ l) (flats-as_items fs)

flats_from : (before : List (List ℤ)) (fs : List flat.Flat) → flats (held_from before (flats_as_items fs)) ≡ held_flats before fs
flats_from before [] = refl
flats_from before (f ∷ fs) = ap (λ l. held_flat before f ∷ l) (flats_from (after_flat before f) fs)

content_pack : (before : List (List ℤ)) (fs : List flat.Flat) (is : List item.Item)
    → content_from before (flats_as_items fs ++ is) ≡ content_from (after_flats before fs) is
content_pack before [] is = refl
content_pack before (f ∷ fs) is = content_pack (after_flat before f) fs is

-- the items of a list of packs, joined
abbrev pub opened : List item.Item → List item.Item
opened [] = []
opened (i ∷ is) = items_of i ++ opened is

-- packs joined have the content of the packs
pub content_opened : (before : List (List ℤ)) (ps : List item.Item) → content_from before (opened ps) ≡ content_from before ps
content_opened before [] = refl
content_opened before (Flat f ∷ ps) = content_opened (after_flat before f) ps
content_opened before (Pack fs ∷ ps) = content_pack before fs (opened ps) ∙ content_opened (after_flats before fs) ps

-- a pack holds what a queue of its items would
pub held-pack : (t : flat_type.FlatType) (past : List item.Item) (fs : List flat.Flat)
    → held (PackOf t) past (Pack fs ∷ []) ≡ Pack (flats (held (FlatOf t) (opened past) (flats_as_items fs))) ∷ []
unfolding held
held-pack (Relation w) past fs =
    ap (λ l. Pack l ∷ []) (sym (ap (λ b. flats (held_from b (flats_as_items fs))) (content_opened [] past) ∙ flats_from (content_from [] past) fs))
held-pack (Rows w) past fs = ap (λ l. Pack l ∷ []) (sym (flats-as_items fs))
held-pack (Stream w) past fs = ap (λ l. Pack l ∷ []) (sym (flats-as_items fs))

-- a pack of what a queue may hold is what a queue of packs may hold
pub is_held-pack : (t : flat_type.FlatType) (fs : List flat.Flat) → All (λ f. IsHeld (FlatOf t) (Flat f)) fs → IsHeld (PackOf t) (Pack fs)
unfolding IsHeld
is_held-pack t [] h = All-nil (MayHold t)
is_held-pack t (f ∷ fs) h =
    All-cons (MayHold t) f fs (All-head (λ g. IsHeld (FlatOf t) (Flat g)) f fs h) (is_held-pack t fs (All-tail (λ g. IsHeld (FlatOf t) (Flat g)) f fs h))
