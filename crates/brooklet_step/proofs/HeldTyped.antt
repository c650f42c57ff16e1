-- What a queue holds for typed items is what it may hold.
use Rattle.std.proofs.Common.{◌≡◌, ℕ, ℤ, List, [], ◌∷◌, length, sym, subst}
use Rattle.std.specs.Prelude.{All}
use Rattle.std.proofs.lemmas.List.Elements.{All-head, All-tail, All-cons, All-nil, All-weaker}
use Rattle.river_base.specs.declared.item.Item as item
use Rattle.river_base.specs.declared.item.Item.TheVariants.{Flat, Pack}
use Rattle.river_base.specs.declared.item.Flat as flat
use Rattle.river_base.specs.declared.item.Flat.TheVariants.{One, Batch as Batched, Change as Changed}
use Rattle.river_base.specs.declared.kind.FlatType.TheVariants.{Rows, Stream, Relation}
use Rattle.river_base.specs.declared.kind.QueueType.{QueueType}
use Rattle.river_base.specs.declared.kind.QueueType.TheVariants.{Flat as FlatOf, Pack as PackOf}
use Rattle.river_base.specs.Held.{held, held_flat, held_flats, held_item, held_from, after_flat, after_flats, after_item, content_from}
use Rattle.river_base.specs.Held.{HasFlatType, HasType, MayHold, IsHeld, IsPlain, HaveWidth}
use Rattle.river_base.proofs.HeldLemmas.{held-plain, held-relation, held-packs}
use Rattle.kern_changes.proofs.Widths.{cancelled_of}
use Rattle.brooklet_step.proofs.HeldLaws.{plain_law}

abbrev Bag : Type 0
Bag = List (List ℤ)

wide_flat : (w : ℕ) (before : Bag) (f : flat.Flat) → HaveWidth w before → HasFlatType (Relation w) f → HaveWidth w (after_flat before f)
wide_flat w before (One row) h t = absurd t
wide_flat w before (Batched b) h t = t.0
wide_flat w before (Changed c) h t = absurd t

wide_flats : (w : ℕ) (before : Bag) (fs : List flat.Flat) → HaveWidth w before → All (HasFlatType (Relation w)) fs → HaveWidth w (after_flats before fs)
wide_flats w before [] h t = h
wide_flats w before (f ∷ fs) h t =
    wide_flats w (after_flat before f) fs (wide_flat w before f h (All-head (HasFlatType (Relation w)) f fs t)) (All-tail (HasFlatType (Relation w)) f fs t)

wide_item : (w : ℕ) (before : Bag) (x : item.Item) → HaveWidth w before → HasType (FlatOf (Relation w)) x → HaveWidth w (after_item before x)
wide_item w before (Flat f) h t = wide_flat w before f h t
wide_item w before (Pack fs) h t = absurd t

wide_pack : (w : ℕ) (before : Bag) (x : item.Item) → HaveWidth w before → HasType (PackOf (Relation w)) x → HaveWidth w (after_item before x)
wide_pack w before (Flat f) h t = absurd t
wide_pack w before (Pack fs) h t = wide_flats w before fs h t

-- the content after typed items is as wide
wide_items : (t : QueueType) (w : ℕ) → ((b : Bag) (x : item.Item) → HaveWidth w b → HasType t x → HaveWidth w (after_item b x)) → (before : Bag)
    (xs : List item.Item) → HaveWidth w before → All (HasType t) xs → HaveWidth w (content_from before xs)
wide_items t w one before [] h a = h
wide_items t w one before (x ∷ xs) h a =
    wide_items t w one (after_item before x) xs (one before x h (All-head (HasType t) x xs a)) (All-tail (HasType t) x xs a)

may_flat : (w : ℕ) (before : Bag) (f : flat.Flat) → HaveWidth w before → HasFlatType (Relation w) f → MayHold (Relation w) (held_flat before f)
may_flat w before (One row) h t = absurd t
may_flat w before (Batched b) h t = cancelled_of w b.at b.rows before t.0 h
may_flat w before (Changed c) h t = absurd t

may_flats : (w : ℕ) (before : Bag) (fs : List flat.Flat) → HaveWidth w before → All (HasFlatType (Relation w)) fs
    → All (MayHold (Relation w)) (held_flats before fs)
may_flats w before [] h t = All-nil (MayHold (Relation w))
may_flats w before (f ∷ fs) h t =
    let head = All-head (HasFlatType (Relation w)) f fs t in
    All-cons (MayHold (Relation w)) (held_flat before f) (held_flats (after_flat before f) fs) (may_flat w before f h head)
    (may_flats w (after_flat before f) fs (wide_flat w before f h head) (All-tail (HasFlatType (Relation w)) f fs t))

may_item : (w : ℕ) (before : Bag) (x : item.Item) → HaveWidth w before → HasType (FlatOf (Relation w)) x → IsHeld (FlatOf (Relation w)) (held_item before x)
unfolding IsHeld
may_item w before (Flat f) h t = may_flat w before f h t
may_item w before (Pack fs) h t = absurd t

may_pack : (w : ℕ) (before : Bag) (x : item.Item) → HaveWidth w before → HasType (PackOf (Relation w)) x → IsHeld (PackOf (Relation w)) (held_item before x)
unfolding IsHeld
may_pack w before (Flat f) h t = absurd t
may_pack w before (Pack fs) h t = may_flats w before fs h t

may_items : (t : QueueType) (w : ℕ) → ((b : Bag) (x : item.Item) → HaveWidth w b → HasType t x → HaveWidth w (after_item b x))
    → ((b : Bag) (x : item.Item) → HaveWidth w b → HasType t x → IsHeld t (held_item b x)) → (before : Bag) (xs : List item.Item) → HaveWidth w before
    → All (HasType t) xs → All (IsHeld t) (held_from before xs)
may_items t w wide may before [] h a = All-nil (IsHeld t)
may_items t w wide may before (x ∷ xs) h a =
    let head = All-head (HasType t) x xs a in
    All-cons (IsHeld t) (held_item before x) (held_from (after_item before x) xs) (may before x h head)
    (may_items t w wide may (after_item before x) xs (wide before x h head) (All-tail (HasType t) x xs a))

plain_all : (t : QueueType) (past xs : List item.Item) → IsPlain t → All (HasType t) xs → All (IsHeld t) (held t past xs)
plain_all t past xs p h = subst (All (IsHeld t)) (sym (held-plain t past xs p)) (All-weaker (HasType t) (IsHeld t) (λ x k. (plain_law t x p).1 k) xs h)

-- what a queue holds for typed items after typed items is what it may hold
pub all_held_typed : (t : QueueType) (past xs : List item.Item) → All (HasType t) past → All (HasType t) xs → All (IsHeld t) (held t past xs)
all_held_typed (FlatOf (Rows w)) past xs a h = plain_all (FlatOf (Rows w)) past xs tt h
all_held_typed (FlatOf (Stream w)) past xs a h = plain_all (FlatOf (Stream w)) past xs tt h
all_held_typed (PackOf (Rows w)) past xs a h = plain_all (PackOf (Rows w)) past xs tt h
all_held_typed (PackOf (Stream w)) past xs a h = plain_all (PackOf (Stream w)) past xs tt h
all_held_typed (FlatOf (Relation w)) past xs a h =
    let t = FlatOf (Relation w) in
    subst (All (IsHeld t)) (sym (held-relation w past xs))
    (may_items t w (wide_item w) (may_item w) (content_from [] past) xs (wide_items t w (wide_item w) [] past (All-nil (λ row. length row ≡ w)) a) h)
all_held_typed (PackOf (Relation w)) past xs a h =
    let t = PackOf (Relation w) in
    subst (All (IsHeld t)) (sym (held-packs w past xs))
    (may_items t w (wide_pack w) (may_pack w) (content_from [] past) xs (wide_items t w (wide_pack w) [] past (All-nil (λ row. length row ≡ w)) a) h)
