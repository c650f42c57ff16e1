-- A product and a selection behind it, as one step that makes no pair which the selection does not keep.
use Rattle.std.specs.Prelude.{◌≡◌, ◌<◌, ◌≤◌, ◌+◌, ◌-◌, ℕ, ℤ, true, ◌⊎◌, Option, Some, List, [], ◌∷◌, ◌++◌, map, flat_map, All}
use Rattle.river_base.specs.Changes.{all_pairs, cancelled, changes, IsWideChange}
use Rattle.river_base.specs.Grew.{GrewByPrefix}
use Rattle.river_base.specs.Held.{HaveWidth}
use Rattle.river_base.specs.Row.{in_order}
use Rattle.river_base.specs.declared.item.Batch.{Batch}
use Rattle.river_base.specs.declared.item.Change.{Change}
use Rattle.river_base.specs.declared.item.Flat as flat
use Rattle.river_base.specs.declared.item.Flat.TheVariants.{Change as Changed}
use Rattle.river_base.specs.declared.item.Item as item
use Rattle.work_code.specs.declared.expr.BinOp.TheVariants as op
use Rattle.work_code.specs.Term.{Term, Bin, Input}
use Rattle.work_code.specs.Value.{val, is_true, IsWithin}
use Rattle.kern_changes.specs.Counted as counted
use Rattle.kern_changes.specs.Keyed.{at_place, rows_with}
use Rattle.kern_bags.specs.Contents.{selected, product}
use Rattle.kern_bags.specs.Following.{stamped_as, as_changes, CrossKept, CrossSteps, IsCrossOf, Crossing, StandsForCrossing, passed_pairs, put_change}

-- WHAT IS KEPT

-- the change with the rows of both parts for which the expression is not 0
abbrev pub kept_of : Term → Change → Change
kept_of t c = record { at = c.at; plus = selected t c.plus; minus = selected t c.minus }

-- the batch with such rows
abbrev pub kept_batch : Term → Batch → Batch
kept_batch t b = stamped_as b (selected t b.rows)

-- COLUMNS THAT A CONDITION HOLDS EQUAL

-- wherever the expression is not 0, a row has one value at both places, of which the first is below `left` and the second is not; and the
-- expression reads the second
pub record HoldsEqual (left : ℕ) (t : Term) (i j : ℕ) : Type 0 where
  pub first : i < left
  pub second : left ≤ j
  pub same : (row : List ℤ) → is_true (val t row []) ≡ true → at_place i row ≡ at_place j row
  pub reads : (n s : ℕ) → IsWithin n s t → j < n

-- two places, the lower first, of which one is below `left` and the other is not
pub record IsAcross (a b : Option ℕ) (left : ℕ) (places : ℕ × ℕ) : Type 0 where
  pub first : places.0 < left
  pub second : left ≤ places.1
  pub are : ((a ≡ Some places.0) × (b ≡ Some places.1)) ⊎ ((a ≡ Some places.1) × (b ≡ Some places.0))

-- the expression is a test for equality of two places, of which one is below `left` and the other is not
pub record ComparesAcross (left : ℕ) (t : Term) : Type 0 where
  pub first : ℕ
  pub second : ℕ
  pub below : first < left
  pub not_below : left ≤ second
  pub is : (t ≡ Bin op.Eq (Input first) (Input second)) ⊎ (t ≡ Bin op.Eq (Input second) (Input first))

-- the parts of a condition that `&&` joins
abbrev pub conjuncts : Term → List Term
conjuncts (Bin op.And a b) = conjuncts a ++ conjuncts b
conjuncts t = t ∷ []

-- none of them is such a test
abbrev pub NoneComparesAcross : ℕ → Term → Type 0
NoneComparesAcross left t = All (λ part. ComparesAcross left part → ⊥) (conjuncts t)

-- each row joined with those that have at the one place what it has at the other
abbrev pub pairs_by : ℕ → ℕ → List (List ℤ) → List (List ℤ) → List (List ℤ)
pairs_by i k xs ys = flat_map (λ x. map (λ y. x ++ y) (rows_with k (at_place i x) ys)) xs

-- WHAT THE STEPS NEED

-- rows of two widths, which have at most 16 values together, and of which the expression reads no further
pub record CanPair (t : Term) (xs ys : List (List ℤ)) : Type 0 where
  pub left : ℕ
  pub right : ℕ
  pub few : left + right ≤ 16
  pub reads : IsWithin (left + right) 0 t
  pub lefts : HaveWidth left xs
  pub rights : HaveWidth right ys

-- the same, where the rows of the left are so wide
pub record CanPairOf (left : ℕ) (t : Term) (xs ys : List (List ℤ)) : Type 0 where
  pub right : ℕ
  pub few : left + right ≤ 16
  pub reads : IsWithin (left + right) 0 t
  pub lefts : HaveWidth left xs
  pub rights : HaveWidth right ys

-- of the rows, joined by f, those were found that can pass
abbrev pub Finds : Term → (List ℤ → List ℤ) → List (List ℤ) → List (List ℤ) → Type 0
Finds t f found rows = counted.AreSame (selected t (map f found)) (selected t (map f rows))

-- both parts of a change can be paired with a side at the right, or at the left
pub record CanPairRight (t : Term) (c : Change) (side : List (List ℤ)) : Type 0 where
  pub plus : CanPair t c.plus side
  pub minus : CanPair t c.minus side

pub record CanPairLeft (t : Term) (side : List (List ℤ)) (c : Change) : Type 0 where
  pub plus : CanPair t side c.plus
  pub minus : CanPair t side c.minus

-- these two can be made, and the expression reads the rows of both sides
pub record CanMakeWhere (t : Term) (c d : Change) (s : CrossKept) : Type 0 where
  pub left : ℕ
  pub right : ℕ
  pub few : left + right ≤ 16
  pub reads : IsWithin (left + right) 0 t
  pub lefts : HaveWidth left s.lefts
  pub rights : HaveWidth right s.rights
  pub first : IsWideChange left c
  pub second : IsWideChange right d

-- what waits and what is kept can be joined, and the expression reads the rows of both sides
pub record CanJoinChanges (t : Term) (s : CrossKept) : Type 0 where
  pub left : ℕ
  pub right : ℕ
  pub wide : IsCrossOf left right s
  pub reads : IsWithin (left + right) 0 t

-- an item that is a change can come to a port
abbrev pub CanJoinFlat : Term → ℕ → flat.Flat → CrossKept → Type 0
CanJoinFlat t port (Changed c) s = CanJoinChanges t (put_change port c s)
CanJoinFlat t port x s = ⊥

-- THE LAWS

-- a selection of a product: the pairs that pass, in order
abbrev pub SelectionsOfProducts : Type 0
SelectionsOfProducts = (t : Term) (xs ys : List (List ℤ)) → selected t (product xs ys) ≡ in_order (selected t (all_pairs xs ys))

-- a selection of the change that rows make which come and go is the change that those make which it keeps
abbrev pub SelectionsCancel : Type 0
SelectionsCancel = (t : Term) (at : ℤ) (plus minus : List (List ℤ)) → kept_of t (cancelled at plus minus) ≡ cancelled at (selected t plus) (selected t minus)

-- a selection behind a list of changes gives the changes of what it keeps of the contents
abbrev pub SelectionsOfChanges : Type 0
SelectionsOfChanges = (t : Term) (before : List (List ℤ)) (bs : List Batch)
    → map (kept_of t) (changes before bs) ≡ changes (selected t before) (map (kept_batch t) bs)

-- where the condition holds two places equal, all pairs that pass are among those that agree there
abbrev pub PairsAreFound : Type 0
PairsAreFound = (l : ℕ) (t : Term) (i j : ℕ) (xs ys : List (List ℤ)) → HoldsEqual l t i j → HaveWidth l xs
    → selected t (all_pairs xs ys) ≡ selected t (pairs_by i (j - l) xs ys)

-- all four
pub record JoinsAre : Type 0 where
  pub contents : SelectionsOfProducts
  pub changes_cancel : SelectionsCancel
  pub changes_follow : SelectionsOfChanges
  pub found : PairsAreFound

-- ONE STEP

-- two changes were made, and what the condition keeps of the change of the product came
pub record JoinsWhere (t : Term) (c d : Change) (old new : CrossKept) (out out' : List Change) : Type 0 where
  pub left : new.left ≡ old.left
  pub right : new.right ≡ old.right
  pub lefts : counted.Changed c old.lefts new.lefts
  pub rights : counted.Changed d old.rights new.rights
  pub gave : out' ≡ out ++ kept_of t (cancelled c.at (all_pairs c.plus old.rights ++ all_pairs new.lefts d.plus)
      (all_pairs c.minus old.rights ++ all_pairs new.lefts d.minus)) ∷ []

-- a change came to a port of a product: of each change that the product gives, what the condition keeps was given
pub record JoinsChange (t : Term) (port : ℕ) (c : Change) (old new : CrossKept) (out out' : List item.Item) : Type 0 where
  pub whole : List Change
  pub grew : out' ≡ out ++ as_changes (map (kept_of t) whole)
  pub is : CrossSteps (put_change port c old) new whole

-- an item that is a change came to a port
pub record JoinsFlat (t : Term) (port : ℕ) (x : flat.Flat) (old new : CrossKept) (out out' : List item.Item) : Type 0 where
  pub each : (c : Change) → x ≡ Changed c → JoinsChange t port c old new out out'

-- changes passed a product as long as both ports had one, and of each change that it gives, what the condition keeps was given
pub record JoinsPairs (t : Term) (old new : CrossKept) (out out' : List Change) : Type 0 where
  pub whole : List Change
  pub grew : out' ≡ out ++ map (kept_of t) whole
  pub is : CrossSteps old new whole

-- there was no memory: whatever contents the changes stand for, a part of the changes of what the condition keeps of the products was given
pub record JoinsPart (t : Term) (port : ℕ) (x : flat.Flat) (old : CrossKept) (out out' : List item.Item) : Type 0 where
  pub each : (c : Change) → x ≡ Changed c → (m : Crossing) → StandsForCrossing (put_change port c old) m
      → GrewByPrefix out (as_changes (changes (selected t (product m.lefts m.rights)) (map (kept_batch t) (passed_pairs m).0))) out'
