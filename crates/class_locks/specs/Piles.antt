-- Several classes that a seat holds at once, with their cells.
use Rattle.std.specs.Prelude.{◌≡◌, ℕ, ◌<◌, All, Some, List, [], ◌∷◌, ◌++◌, length, map, drop, reverse, slice_get}
use Rattle.class_locks.specs.declared.log.LogEntry.{LogEntry}
use Rattle.class_locks.specs.declared.view.View.{View}
use Rattle.class_locks.specs.declared.view.Held.{Held}
use Rattle.class_locks.specs.declared.view.Claim.{Claim}
use Rattle.class_locks.specs.declared.view.Tried.{Tried}
use Rattle.class_locks.specs.Logs.{Holding}
use Rattle.class_locks.specs.Views.{Belong, claims_of}
use Rattle.class_locks.specs.Rule.{IsLogged}

-- a cell with its class
abbrev pub Piled : Type 0
Piled = ℕ × Holding

-- the cell is the one taken, with entries more that belong to parts of the seat
pub record HasGained (n : ℕ) (parts : List ℕ) (taken cell : Holding) : Type 0 where
  pub more : List LogEntry
  pub kinds : cell.kinds ≡ taken.kinds
  pub log : cell.log ≡ taken.log ++ more
  pub belong : Belong n parts more

-- the classes descend, and the first is below m
abbrev pub AllBelow : ℕ → List Held → Type 0
AllBelow m [] = Unit {0}
AllBelow m (h ∷ hs) = (h.class < m) × AllBelow h.class hs

-- the cells, the last taken first, are of the classes that are held, and each has gained what belongs to the seat
abbrev pub Matches : ℕ → List ℕ → List Piled → List Held → Type 0
Matches n parts [] [] = Unit {0}
Matches n parts [] (h ∷ hs) = ⊥
Matches n parts (p ∷ ps) [] = ⊥
Matches n parts (p ∷ ps) (h ∷ hs) = (h.class ≡ p.0) × HasGained n parts h.taken p.1 × Matches n parts ps hs

-- these cells, the last taken at the end, are all that the seat holds
pub record IsPile (v : View) (items : List Piled) : Type 0 where
  pub matches : Matches v.seats v.parts (reverse items) v.held
  pub descend : AllBelow (length v.starts) v.held

-- what is claimed where the cells are put, the last taken first
abbrev pub gained : List Piled → List Held → List Claim
gained [] hs = []
gained (p ∷ ps) [] = []
gained (p ∷ ps) (h ∷ hs) = claims_of p.0 (drop (length h.taken.log) p.1.log) ++ gained ps hs

-- nothing but the list of takes and what is held may differ
pub record HasLooked (v w : View) : Type 0 where
  pub seats : w.seats ≡ v.seats
  pub starts : w.starts ≡ v.starts
  pub parts : w.parts ≡ v.parts
  pub claims : w.claims ≡ v.claims

-- these classes were taken, and each cell is as the seat knows it
pub record HasTaken (classes : List ℕ) (v w : View) (items : List Piled) : Type 0 where
  pub looked : HasLooked v w
  pub pile : IsPile w items
  pub named : map (λ p. p.0) items ≡ classes
  pub as_taken : gained (reverse items) w.held ≡ []
  pub logged : All (λ p. IsLogged v p.0 p.1) items

-- every class that was held was put, and what the cells had gained is claimed
pub record HasPut (v w : View) (items : List Piled) : Type 0 where
  pub seats : w.seats ≡ v.seats
  pub starts : w.starts ≡ v.starts
  pub parts : w.parts ≡ v.parts
  pub rests : w.held ≡ []
  pub claims : w.claims ≡ v.claims ++ gained (reverse items) v.held

-- the list of takes has more tries
pub record HasMoreTries (v w : View) : Type 0 where
  pub more : List Tried
  pub takes : w.takes ≡ v.takes ++ more

-- since the view v a try found one of these classes taken
pub record FoundTaken (classes : List ℕ) (v w : View) : Type 0 where
  pub more : List Tried
  pub takes : w.takes ≡ v.takes ++ more
  pub class : ℕ
  pub place : ℕ
  pub wanted : slice_get classes place ≡ Some class
  pub at : ℕ
  pub found : slice_get more at ≡ Some (record { class = class; found = 1 })
