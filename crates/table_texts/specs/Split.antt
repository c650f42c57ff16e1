-- What a run prints of tables is split at the lines of their names.
use Rattle.std.specs.Prelude.{◌≡◌, ⊤, ℕ, ◌==◌, true, false, List, [], ◌∷◌, ◌++◌}
use Rattle.river_plan.specs.Forms.{Name}
use Rattle.csv_streams.specs.Outcome.{under_name}
use Rattle.table_texts.specs.declared.split.NoSplit.{NoSplit}
use Rattle.table_texts.specs.declared.split.NoSplit.TheVariants as fault

-- the texts of tables, each behind the line of its name
abbrev pub under_names : List Name → List (List ℕ) → List ℕ
under_names [] sections = []
under_names (name ∷ names) [] = []
under_names (name ∷ names) (s ∷ ss) = under_name name s ++ under_names names ss

-- no byte of it is a #
abbrev pub HasNoName : List ℕ → Type 0
HasNoName [] = ⊤
HasNoName (c ∷ cs) = (c == 35 ≡ false) × HasNoName cs

-- one text for each name, in none of which a # stands
abbrev pub AreSections : List Name → List (List ℕ) → Type 0
AreSections [] [] = ⊤
AreSections [] (s ∷ ss) = ⊥
AreSections (name ∷ names) [] = ⊥
AreSections (name ∷ names) (s ∷ ss) = HasNoName s × AreSections names ss

-- what is printed is split at the lines of names
pub record IsSplit (names : List Name) (out : List ℕ) (sections : List (List ℕ)) : Type 0 where
  pub is : out ≡ under_names names sections
  pub are : AreSections names sections

abbrev pub AreSplit : List Name → List (List ℕ) → List (List (List ℕ)) → Type 0
AreSplit names [] [] = ⊤
AreSplit names [] (x ∷ xs) = ⊥
AreSplit names (o ∷ os) [] = ⊥
AreSplit names (o ∷ os) (x ∷ xs) = IsSplit names o x × AreSplit names os xs

-- nothing, or a text that begins with a #
abbrev pub StartsName : List ℕ → Type 0
StartsName [] = ⊤
StartsName (c ∷ cs) = c == 35 ≡ true

-- WHERE THERE IS NO SPLIT

-- why a text is not split: it has no split, or memory was wanting
abbrev pub SaysNoSplit : List Name → List ℕ → NoSplit → Type 0
SaysNoSplit names out fault.Other = (sections : List (List ℕ)) → IsSplit names out sections → ⊥
SaysNoSplit names out fault.NoMemory = ⊤

-- why no text of a table is split off: the line of its name does not stand there, or memory was wanting
abbrev pub SaysNoLine : Name → List ℕ → NoSplit → Type 0
SaysNoLine name bytes fault.Other = (behind : List ℕ) → bytes ≡ under_name name behind → ⊥
SaysNoLine name bytes fault.NoMemory = ⊤

-- ONE TEXT MORE

-- one text more, which stands behind the line of the name
pub record IsNext (name : Name) (before behind : List ℕ) (old new : List (List ℕ)) : Type 0 where
  pub text : List ℕ
  pub is : before ≡ under_name name text ++ behind
  pub free : HasNoName text
  pub ends : StartsName behind
  pub grown : new ≡ old ++ text ∷ []
