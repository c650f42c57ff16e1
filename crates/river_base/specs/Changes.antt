-- Bag differences, changes of a relation, and the contents that they stand for.
use Rattle.std.specs.Prelude.{◌≡◌, ◌≤◌, ◌+◌, ℕ, ℤ, List, [], ◌∷◌, ◌++◌, ◌⊎◌, sum_by, map, flat_map, All, if◌then◌else◌}
use Rattle.river_base.specs.Row.{row_eq, copies, in_order, HaveWidth, IsAscending}
use Rattle.river_base.specs.declared.item.Batch.{Batch}
use Rattle.river_base.specs.declared.item.Change.{Change}
use Rattle.river_base.specs.declared.item.Flat as flat
use Rattle.river_base.specs.declared.item.Flat.TheVariants.{Change as Changed}

-- the bag difference: each row of the second bag takes one such row away, where there is one
abbrev pub take_out : List ℤ → List (List ℤ) → List (List ℤ)
take_out y [] = []
take_out y (x ∷ xs) = if row_eq x y then xs else x ∷ take_out y xs

abbrev pub without : List (List ℤ) → List (List ℤ) → List (List ℤ)
without xs [] = xs
without xs (y ∷ ys) = without (take_out y xs) ys

abbrev pub difference : List (List ℤ) → List (List ℤ) → List (List ℤ)
difference xs ys = in_order (without xs ys)

-- WHAT A CHANGE MAKES OF A CONTENT

-- every row of xs is in ys, and as often
pub record IsBagWithin (xs ys : List (List ℤ)) : Type 0 where
  pub each : (row : List ℤ) → copies row xs ≤ copies row ys

-- the content with what goes taken out and what comes put in
abbrev pub content_after : List (List ℤ) → Change → List (List ℤ)
content_after before c = in_order (without before c.minus ++ c.plus)

-- a change makes the content `before` into that of the batch
pub record ChangesInto (before : List (List ℤ)) (c : Change) (b : Batch) : Type 0 where
  pub at : c.at ≡ b.at
  pub within : IsBagWithin c.minus before
  pub rows : b.rows ≡ content_after before c

-- a list of changes stands for a list of contents, of which the first comes after `before`
abbrev pub StandForContents : List (List ℤ) → List Change → List Batch → Type 0
StandForContents before [] [] = Unit {0}
StandForContents before [] (b ∷ bs) = ⊥
StandForContents before (c ∷ cs) [] = ⊥
StandForContents before (c ∷ cs) (b ∷ bs) = ChangesInto before c b × StandForContents b.rows cs bs

-- NORMALISED CHANGES

-- what comes and what goes are in ascending order, and have no row in common
pub record IsNormal (c : Change) : Type 0 where
  pub plus : IsAscending c.plus
  pub minus : IsAscending c.minus
  pub apart : (row : List ℤ) → (copies row c.plus ≡ 0) ⊎ (copies row c.minus ≡ 0)

-- all changes are normalised
abbrev pub AllNormal : List Change → Type 0
AllNormal [] = Unit {0}
AllNormal (c ∷ cs) = IsNormal c × AllNormal cs

-- the rows of both parts are so wide
pub record IsWideChange (width : ℕ) (c : Change) : Type 0 where
  pub plus : HaveWidth width c.plus
  pub minus : HaveWidth width c.minus

-- a normalised change of rows so wide: what a queue of a relation may hold, whether or not there is a content that it changes
pub record IsChangeOf (width : ℕ) (c : Change) : Type 0 where
  pub normal : IsNormal c
  pub wide : IsWideChange width c

-- normalised changes so wide were given
pub record GaveChanges (width : ℕ) (out out' : List Change) : Type 0 where
  pub given : List Change
  pub grew : out' ≡ out ++ given
  pub each : All (IsChangeOf width) given

-- the contents ascend
abbrev pub AllAscending : List Batch → Type 0
AllAscending [] = Unit {0}
AllAscending (b ∷ bs) = IsAscending b.rows × AllAscending bs

-- the normalised change from one content to another: there is just one
abbrev pub change_to : List (List ℤ) → Batch → Change
change_to before b = record { at = b.at; plus = difference b.rows before; minus = difference before b.rows }

-- the changes between contents, of which the first comes after `before`
abbrev pub changes : List (List ℤ) → List Batch → List Change
changes before [] = []
changes before (b ∷ bs) = change_to before b ∷ changes b.rows bs

-- the last of these contents; the one before where there is none
abbrev pub last_content : List (List ℤ) → List Batch → List (List ℤ)
last_content before [] = before
last_content before (b ∷ bs) = last_content b.rows bs

-- ROWS THAT COME AND GO, IN ANY ORDER

-- rows that come and rows that go, without those that do both
abbrev pub cancelled : ℤ → List (List ℤ) → List (List ℤ) → Change
cancelled at plus minus = record { at = at; plus = difference plus minus; minus = difference minus plus }

-- plus and minus lead from the bag `before` to the bag `after`: nothing is said of rows in both
pub record LeadsTo (before after plus minus : List (List ℤ)) : Type 0 where
  pub each : (f : List ℤ → ℕ) → sum_by f after + sum_by f minus ≡ sum_by f before + sum_by f plus

-- all pairs of rows, joined
abbrev pub all_pairs : List (List ℤ) → List (List ℤ) → List (List ℤ)
all_pairs xs ys = flat_map (λ x. map (λ y. x ++ y) ys) xs

-- an item that is a change
pub record IsChanged (x : flat.Flat) : Type 0 where
  pub change : Change
  pub is : x ≡ Changed change
