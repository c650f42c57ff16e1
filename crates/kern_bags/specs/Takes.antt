-- What steps on changes need, and how a pair of them passes.
use Rattle.std.specs.Prelude.{◌≡◌, ◌≤◌, ◌+◌, ◌⊎◌, ℕ, ℤ, List, [], ◌∷◌, ◌++◌}
use Rattle.river_base.specs.Held.{HaveWidth}
use Rattle.work_code.specs.Term.{Term}
use Rattle.kern_bags.specs.Needs.{CanRead, CanProject, CanJoin}
use Rattle.river_base.specs.declared.item.Change.{Change}
use Rattle.river_base.specs.declared.item.Flat as flat
use Rattle.river_base.specs.declared.item.Flat.TheVariants.{One, Batch as Batched, Change as Changed}
use Rattle.river_base.specs.Changes.{cancelled, all_pairs, IsWideChange}
use Rattle.kern_changes.specs.Counted as counted
use Rattle.kern_bags.specs.Following.{CrossKept, IsCrossOf, put_change}

-- the expression reads only fields that each row has
pub record CanReadBoth (t : Term) (c : Change) : Type 0 where
  pub plus : CanRead t c.plus
  pub minus : CanRead t c.minus

-- the same of an item
abbrev pub CanReadFlat : Term → flat.Flat → Type 0
CanReadFlat t (One row) = Unit {0}
CanReadFlat t (Batched b) = CanRead t b.rows
CanReadFlat t (Changed c) = CanReadBoth t c

-- so do 1 to 16 expressions
pub record CanProjectBoth (ts : List Term) (c : Change) : Type 0 where
  pub plus : CanProject ts c.plus
  pub minus : CanProject ts c.minus

-- the same of an item that is a change
abbrev pub CanProjectFlat : List Term → flat.Flat → Type 0
CanProjectFlat ts (Changed c) = CanProjectBoth ts c
CanProjectFlat ts x = ⊥

-- rows at the one port can be joined with rows at the other, those that wait and those that are kept
pub record CanCrossChanges (s : CrossKept) : Type 0 where
  pub left : ℕ
  pub right : ℕ
  pub wide : IsCrossOf left right s

-- an item that is a change can come to a port
abbrev pub CanCrossFlat : ℕ → flat.Flat → CrossKept → Type 0
CanCrossFlat port (Changed c) s = CanCrossChanges (put_change port c s)
CanCrossFlat port x s = ⊥

-- these two can be made
pub record CanMake (c d : Change) (s : CrossKept) : Type 0 where
  pub left : ℕ
  pub right : ℕ
  pub few : left + right ≤ 16
  pub lefts : HaveWidth left s.lefts
  pub rights : HaveWidth right s.rights
  pub first : IsWideChange left c
  pub second : IsWideChange right d

-- both parts of a change can be joined with a side
pub record CanJoinBoth (side : List (List ℤ)) (c : Change) : Type 0 where
  pub plus : CanJoin side c.plus
  pub minus : CanJoin side c.minus

-- the first can be made on a left side, and the second can meet it then
pub record CanMeet (c d : Change) (side : List (List ℤ)) : Type 0 where
  pub left : ℕ
  pub right : ℕ
  pub few : left + right ≤ 16
  pub lefts : HaveWidth left side
  pub first : IsWideChange left c
  pub second : IsWideChange right d

-- both ports had a change, and these two left
pub record TakesChanges (old new : CrossKept) (c d : Change) : Type 0 where
  pub left : old.left ≡ c ∷ new.left
  pub right : old.right ≡ d ∷ new.right
  pub lefts : new.lefts ≡ old.lefts
  pub rights : new.rights ≡ old.rights

-- a port had none
pub record HasNoChanges (old new : CrossKept) : Type 0 where
  pub none : (old.left ≡ []) ⊎ (old.right ≡ [])
  pub same : new ≡ old

-- the two were made, and the change of the product came
pub record JoinsChanges (c d : Change) (old new : CrossKept) (out out' : List Change) : Type 0 where
  pub left : new.left ≡ old.left
  pub right : new.right ≡ old.right
  pub lefts : counted.Changed c old.lefts new.lefts
  pub rights : counted.Changed d old.rights new.rights
  pub gave : out' ≡ out ++ cancelled c.at (all_pairs c.plus old.rights ++ all_pairs new.lefts d.plus)
      (all_pairs c.minus old.rights ++ all_pairs new.lefts d.minus) ∷ []
