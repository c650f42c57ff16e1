-- The faults of a program: which place has which, by the text before it, and which is told.
use Rattle.std.specs.Prelude.{◌≡◌, ◌↔◌, ◌⊎◌, ℕ, ◌+◌, ◌<◌, List, [], ◌∷◌, ◌++◌, length, Ok, Err}
use Rattle.std.specs.List.{AllByRecursion}
use Rattle.work_code.specs.Steps.{Steps}
use Rattle.kern_tables.specs.declared.kind.TableKind.{TableKind}
use Rattle.kern_tables.specs.declared.kind.TableKind.TheVariants.{Sum, Collection, Maximum}
use Rattle.saw_model.specs.declared.fault.Fault.{Fault}
use Rattle.saw_model.specs.declared.fault.Fault.TheVariants.{UnknownName, NameTwice, Shape, Limit}
use Rattle.saw_model.specs.declared.fault.Refusal.{Refusal}
use Rattle.saw_model.specs.Elaborate.{At, keys_in}
use Rattle.saw_model.specs.Judged.{judged}
use Rattle.saw_model.specs.Places.{Spot, Begins, Names, Reads, Declares, Sets, Emits, Index, Indexed, Weighted, Unweighted, Tables, What}
use Rattle.saw_model.specs.Places.{ALocal, ATable}
use Rattle.saw_model.specs.Places.{IsKnownAs, is_statement, is_local, is_table, how_many, unit_spots, program_spots, Place, places_behind, places_of}
use Rattle.saw_text.specs.Tree.{UnitForm, Program}

-- a value's name or a name that is set is no known local, or the name behind emit is no table that is declared above
abbrev pub IsUnknown : List Spot → Spot → Type 0
IsUnknown before (Names n) = IsKnownAs before n ALocal → ⊥
IsUnknown before (Sets n) = IsKnownAs before n ALocal → ⊥
IsUnknown before (Emits n) = (k : TableKind) → IsKnownAs before n (ATable k) → ⊥
IsUnknown before m = ⊥

-- a name that is known there is declared again
abbrev pub IsTwice : List Spot → Spot → Type 0
IsTwice before (Declares n) = (w : What) × IsKnownAs before n w
IsTwice before (Tables n k) = (w : What) × IsKnownAs before n w
IsTwice before m = ⊥

abbrev pub IsMaximum : TableKind → Type 0
IsMaximum (Sum keys) = ⊥
IsMaximum (Collection keys) = ⊥
IsMaximum (Maximum best keys) = Unit {0}

-- an emit has another number of indexes than its table, or a weight where there is none, or none where there is one
abbrev pub IsMisshapen : List Spot → Spot → Type 0
IsMisshapen before (Indexed n i) = (k : TableKind) × IsKnownAs before n (ATable k) × (i ≡ keys_in k → ⊥)
IsMisshapen before (Weighted n) = (k : TableKind) × IsKnownAs before n (ATable k) × (IsMaximum k → ⊥)
IsMisshapen before (Unweighted n) = (k : TableKind) × IsKnownAs before n (ATable k) × IsMaximum k
IsMisshapen before m = ⊥

-- a maximum of 0 or above 1,000,000
abbrev pub IsNoBest : TableKind → Type 0
IsNoBest (Sum keys) = ⊥
IsNoBest (Collection keys) = ⊥
IsNoBest (Maximum best keys) = (best ≡ 0) ⊎ (1000000 < best)

-- input[N] with N above 15, more than 8 indexes, such a maximum, more than 64 tables, 256 locals or 16,384 statements
abbrev pub IsTooMuch : List Spot → Spot → Type 0
IsTooMuch before (Reads n) = 15 < n
IsTooMuch before (Index n) = 8 < n
IsTooMuch before (Tables n k) = (64 < how_many is_table before + 1) ⊎ (IsNoBest k ⊎ (8 < keys_in k))
IsTooMuch before (Declares n) = 256 < how_many is_local before + 1
IsTooMuch before Begins = 16384 < how_many is_statement before + 1
IsTooMuch before m = ⊥

-- behind this text the place has this fault, whichever others it has
abbrev pub HasFault : List Spot → Spot → Fault → Type 0
HasFault before m UnknownName = IsUnknown before m
HasFault before m NameTwice = IsTwice before m
HasFault before m Shape = IsMisshapen before m
HasFault before m Limit = IsTooMuch before m

-- the order in which the faults of one place are told
abbrev pub rank : Fault → ℕ
rank UnknownName = 0
rank NameTwice = 1
rank Shape = 2
rank Limit = 3

-- it is the first fault of the place
pub record IsFirstFault (place : Place) (f : Fault) : Type 0 where
  pub has : HasFault place.before place.spot f
  pub first : (g : Fault) → rank g < rank f → HasFault place.before place.spot g → ⊥

-- the place has no fault
abbrev pub IsFaultless : Place → Type 0
IsFaultless place = (f : Fault) → HasFault place.before place.spot f → ⊥

-- the first place of the program that has a fault stands in this unit, counted from 1, and this is its first fault
pub record IsFaultOf (p : Program) (number : ℕ) (f : Fault) : Type 0 where
  pub units : Program
  pub unit : UnitForm
  pub others : Program
  pub parts : p ≡ units ++ unit ∷ others
  pub counted : number ≡ length units + 1
  pub read : List Spot
  pub here : Spot
  pub left : List Spot
  pub spots : unit_spots unit ≡ read ++ here ∷ left
  pub faultless : AllByRecursion IsFaultless (places_behind [] (program_spots units ++ read))
  pub faulty : IsFirstFault (record { before = program_spots units ++ read; spot = here }) f

-- a program is refused with a fault at a unit exactly where the first place that has one has it, and stands there
abbrev pub RefusalsAre : Type 0
RefusalsAre = (p : Program) (r : Refusal) → (judged p ≡ Err r) ↔ IsFaultOf p r.unit r.fault

-- it is accepted exactly where no place has a fault
abbrev pub AcceptedAre : Type 0
AcceptedAre = (p : Program) → ((read : Steps × At) × (judged p ≡ Ok read)) ↔ AllByRecursion IsFaultless (places_of p)
