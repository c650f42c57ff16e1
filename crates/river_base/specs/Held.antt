-- The items of a queue's type, and what a queue holds for a list of them.
use Rattle.std.specs.Prelude.{◌≡◌, ℤ, List, [], ◌∷◌, All, length, map}
use Rattle.river_base.specs.declared.item.Batch.{Batch}
use Rattle.river_base.specs.declared.item.Flat as flat
use Rattle.river_base.specs.declared.item.Item as item
use Rattle.river_base.specs.declared.item.Flat.TheVariants.{One, Batch as Batched, Change as Changed}
use Rattle.river_base.specs.declared.item.Item.TheVariants.{Flat, Pack}
use Rattle.river_base.specs.declared.kind.FlatType as flat_type
use Rattle.river_base.specs.declared.kind.QueueType as queue_type
use Rattle.river_base.specs.declared.kind.FlatType.TheVariants.{Rows, Stream, Relation}
use Rattle.river_base.specs.declared.kind.QueueType.TheVariants.{Flat as FlatOf, Pack as PackOf}
use Rattle.river_base.specs.Changes.{change_to, IsChangeOf}
pub use Rattle.river_base.specs.Row.{HaveWidth, IsAscending}

abbrev pub HasFlatType : flat_type.FlatType → flat.Flat → Type 0
HasFlatType (Rows w) (One row) = length row ≡ w
HasFlatType (Rows w) (Batched b) = ⊥
HasFlatType (Rows w) (Changed c) = ⊥
HasFlatType (Stream w) (One row) = ⊥
HasFlatType (Stream w) (Batched b) = HaveWidth w b.rows
HasFlatType (Stream w) (Changed c) = ⊥
HasFlatType (Relation w) (One row) = ⊥
HasFlatType (Relation w) (Batched b) = HaveWidth w b.rows × IsAscending b.rows
HasFlatType (Relation w) (Changed c) = ⊥

-- the item is one of this type. A relation's item is its whole content at an instant
abbrev pub HasType : queue_type.QueueType → item.Item → Type 0
HasType (FlatOf t) (Flat f) = HasFlatType t f
HasType (FlatOf t) (Pack fs) = ⊥
HasType (PackOf t) (Flat f) = ⊥
HasType (PackOf t) (Pack fs) = All (HasFlatType t) fs

-- the content after an item, and after the items of a list
abbrev pub after_flat : List (List ℤ) → flat.Flat → List (List ℤ)
after_flat before (Batched b) = b.rows
after_flat before (One row) = before
after_flat before (Changed c) = before

abbrev pub after_flats : List (List ℤ) → List flat.Flat → List (List ℤ)
after_flats before [] = before
after_flats before (f ∷ fs) = after_flats (after_flat before f) fs

abbrev pub after_item : List (List ℤ) → item.Item → List (List ℤ)
after_item before (Flat f) = after_flat before f
after_item before (Pack fs) = after_flats before fs

abbrev pub content_from : List (List ℤ) → List item.Item → List (List ℤ)
content_from before [] = before
content_from before (x ∷ xs) = content_from (after_item before x) xs

-- the change of a content after the content before it
abbrev pub held_flat : List (List ℤ) → flat.Flat → flat.Flat
held_flat before (Batched b) = Changed (change_to before b)
held_flat before (One row) = One row
held_flat before (Changed c) = Changed c

abbrev pub held_flats : List (List ℤ) → List flat.Flat → List flat.Flat
held_flats before [] = []
held_flats before (f ∷ fs) = held_flat before f ∷ held_flats (after_flat before f) fs

abbrev pub held_item : List (List ℤ) → item.Item → item.Item
held_item before (Flat f) = Flat (held_flat before f)
held_item before (Pack fs) = Pack (held_flats before fs)

abbrev pub held_from : List (List ℤ) → List item.Item → List item.Item
held_from before [] = []
held_from before (x ∷ xs) = held_item before x ∷ held_from (after_item before x) xs

abbrev pub held_by_type : flat_type.FlatType → List item.Item → List item.Item → List item.Item
held_by_type (Relation w) past xs = held_from (content_from [] past) xs
held_by_type (Rows w) past xs = xs
held_by_type (Stream w) past xs = xs

-- what a queue of type t holds for the items xs, after those that came before in it: of a relation, and of packs of one, changes
unfoldable pub held : queue_type.QueueType → List item.Item → List item.Item → List item.Item
held (FlatOf t) past xs = held_by_type t past xs
held (PackOf t) past xs = held_by_type t past xs

-- a normalised change of so many columns, or what is of the type
abbrev pub MayHold : flat_type.FlatType → flat.Flat → Type 0
MayHold (Relation w) (Changed c) = IsChangeOf w c
MayHold (Relation w) (One row) = ⊥
MayHold (Relation w) (Batched b) = ⊥
MayHold (Rows w) f = HasFlatType (Rows w) f
MayHold (Stream w) f = HasFlatType (Stream w) f

-- the item is what a queue of this type may hold
unfoldable pub IsHeld : queue_type.QueueType → item.Item → Type 0
IsHeld (FlatOf t) (Flat f) = MayHold t f
IsHeld (FlatOf t) (Pack fs) = ⊥
IsHeld (PackOf t) (Flat f) = ⊥
IsHeld (PackOf t) (Pack fs) = All (MayHold t) fs

-- no relation, and no packs of one
abbrev pub IsPlain : queue_type.QueueType → Type 0
IsPlain (FlatOf (Relation w)) = ⊥
IsPlain (PackOf (Relation w)) = ⊥
IsPlain t = Unit {0}

-- a relation, or packs of one
abbrev pub IsRelation : queue_type.QueueType → Type 0
IsRelation (FlatOf (Relation w)) = Unit {0}
IsRelation (PackOf (Relation w)) = Unit {0}
IsRelation t = ⊥

-- the items of a pack
abbrev pub flats_as_items : List flat.Flat → List item.Item
flats_as_items fs = map (λ f. Flat f) fs

abbrev pub items_of : item.Item → List item.Item
items_of (Flat f) = Flat f ∷ []
items_of (Pack fs) = flats_as_items fs

-- the items that are no packs
abbrev pub flats : List item.Item → List flat.Flat
flats [] = []
flats (Flat f ∷ is) = f ∷ flats is
flats (Pack fs ∷ is) = flats is

-- a batch with these rows, at the instant of the batch x; nothing for other items
abbrev pub with_rows : (Batch → List (List ℤ)) → item.Item → List item.Item
with_rows f (Flat (Batched b)) = Flat (Batched (record { at = b.at; rows = f b })) ∷ []
with_rows f (Flat (One row)) = []
with_rows f (Flat (Changed c)) = []
with_rows f (Pack fs) = []

-- the batches among the items
abbrev pub batches : List item.Item → List Batch
batches [] = []
batches (Flat (Batched b) ∷ is) = b ∷ batches is
batches (Flat (One row) ∷ is) = batches is
batches (Flat (Changed c) ∷ is) = batches is
batches (Pack fs ∷ is) = batches is
