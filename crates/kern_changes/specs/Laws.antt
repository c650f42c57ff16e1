-- Laws of changes: statements over the definitions alone.
use Rattle.std.specs.Prelude.{◌≡◌, ℕ, ℤ, List, []}
use Rattle.river_base.specs.declared.item.Batch.{Batch}
use Rattle.river_base.specs.declared.item.Change.{Change}
use Rattle.river_base.specs.Changes.{StandForContents, AllNormal, AllAscending, changes}
use Rattle.kern_changes.specs.Owed.{owed_start, AreOwed, OweLittle}

-- the changes between these contents stand for them and are normalised, and no other list of changes does and is
pub record AreChanges (before : List (List ℤ)) (bs : List Batch) : Type 0 where
  pub stand : StandForContents before (changes before bs) bs
  pub normal : AllNormal (changes before bs)
  pub only : (cs : List Change) → StandForContents before cs bs → AllNormal cs → cs ≡ changes before bs

-- so it is with all contents that ascend
abbrev pub ChangesAre : Type 0
ChangesAre = (before : List (List ℤ)) (bs : List Batch) → AllAscending bs → AreChanges before bs

-- a list of changes stands for one list of contents at most
abbrev pub StandForOne : Type 0
StandForOne = (before : List (List ℤ)) (cs : List Change) (bs bs' : List Batch) → StandForContents before cs bs → StandForContents before cs bs' → bs ≡ bs'

-- what lists owe before the first change leads from empty contents to empty contents, and is little
pub record NothingIsOwed : Type 0 where
  pub owed : (n : ℕ) → AreOwed (owed_start n) (λ p. []) (λ p. [])
  pub little : (n : ℕ) → OweLittle (owed_start n)
