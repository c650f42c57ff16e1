-- Which programs are accepted, and why others are refused: the faults of a place, each in its own words, and the first of them all.
use Rattle.std.specs.Prelude.{◌≡◌, ◌↔◌, ℕ, ℤ, ◌+◌, ◌<◌, List, [], ◌∷◌, ◌++◌, length, map, filter, flat_map, Some, None, ◌⊎◌}
use Rattle.std.specs.List.{AllByRecursion}
use Rattle.river_base.specs.Name.{name_eq}
use Rattle.cql_text.specs.Tree.{Window, Now, Range, Unbounded, Latest}
use Rattle.river_plan.specs.Forms.{Name}
use Rattle.river_plan.specs.Names.{count}
use Rattle.river_plan.specs.Valid.{IsPlan}
use Rattle.brooklet_model.specs.Meaning.{meaning}
use Rattle.cql_model.specs.declared.fault.Fault.{Fault}
use Rattle.cql_model.specs.declared.fault.Fault.TheVariants.{UnknownStream, UnknownField, AmbiguousField, NameTwice, Limit}
use Rattle.cql_model.specs.declared.fault.Refusal.{Refusal}
use Rattle.cql_model.specs.Judged.{refusal_of, AreSpoken}
use Rattle.cql_model.specs.Instants.{program_means, inputs_for}
use Rattle.cql_model.specs.Laws.{AreFiles}
use Rattle.cql_model.specs.Places.{known_by, Mention, Alone, OfItem, Spot, StreamName, FieldName, QueryName, ItemStream, ItemWindow, ItemName, ColumnStart}
use Rattle.cql_model.specs.Places.{FieldUse, Place, program_places}
use Rattle.cql_model.specs.Plannable.{declared_names, KeepsLimits, IsPlannable}
use Rattle.cql_model.specs.Program.{registered}
use Rattle.cql_text.specs.Tree.{Source, Program}
use Rattle.cql_model.specs.Scopes.{Named, alias_or, scope_of}
use Rattle.cql_model.specs.Plan.{widths_of, plan_of}

-- the name stands among these
abbrev pub IsOneOf : Name → List Name → Type 0
IsOneOf n names = 0 < count n names

-- an item is called by its alias, or as its stream
abbrev pub called : Source → Name
called i = alias_or i.alias i.stream

-- the fields that are meant by one that stands alone are those of all items; by `a.f`, those of the items called a
abbrev pub meant : List Named → Mention → List Name
meant items (Alone f) = flat_map (λ i. i.fields) items
meant items (OfItem a f) = flat_map (λ i. i.fields) (filter (λ i. name_eq i.name a) items)

abbrev pub field_of : Mention → Name
field_of (Alone f) = f
field_of (OfItem a f) = f

-- a window of no rows, or of too many
abbrev pub HasBadRows : Window → Type 0
HasBadRows Now = ⊥
HasBadRows (Range n unit) = ⊥
HasBadRows Unbounded = ⊥
HasBadRows (Latest n) = (n ≡ 0) ⊎ (1000000 < n)

-- the place, behind these units, has this fault, whichever others it has
abbrev pub HasFault : Program → Spot → Fault → Type 0
-- an item names no stream that is declared above
HasFault before (ItemStream past i) UnknownStream = IsOneOf i.stream (declared_names before) → ⊥
-- a field is in no item that it may mean, or no item is called so
HasFault before (FieldUse items m) UnknownField = count (field_of m) (meant (scope_of (known_by before) items) m) ≡ 0
-- a field is found more than once in the items that it may mean
HasFault before (FieldUse items m) AmbiguousField = 1 < count (field_of m) (meant (scope_of (known_by before) items) m)
-- a stream or query is declared again, a stream has a field twice, two items have one name
HasFault before (StreamName n) NameTwice = IsOneOf n (declared_names before)
HasFault before (QueryName n) NameTwice = IsOneOf n (declared_names before)
HasFault before (FieldName past f) NameTwice = IsOneOf f past
HasFault before (ItemName past i) NameTwice = IsOneOf (called i) (map called past)
-- more than 8 registered streams, 16 fields, 16 columns or 4 items; a product wider than 16; `Rows` of 0 or above 1,000,000
HasFault before (StreamName n) Limit = 8 < length (registered before) + 1
HasFault before (FieldName past f) Limit = 16 < length past + 1
HasFault before (ColumnStart past) Limit = 16 < length past + 1
HasFault before (ItemStream past i) Limit = 4 < length past + 1
HasFault before (ItemName past i) Limit = 16 < widths_of (scope_of (known_by before) (past ++ i ∷ []))
HasFault before (ItemWindow w) Limit = HasBadRows w
HasFault before spot fault = ⊥

-- the order in which the faults of one place are told
abbrev pub rank : Fault → ℕ
rank UnknownStream = 0
rank UnknownField = 1
rank AmbiguousField = 2
rank NameTwice = 3
rank Limit = 4

-- this fault is told of the place
pub record IsFirstFault (place : Place) (f : Fault) : Type 0 where
  pub has : HasFault place.before place.spot f
  pub first : (g : Fault) → rank g < rank f → HasFault place.before place.spot g → ⊥

-- the place has no fault
abbrev pub IsFaultless : Place → Type 0
IsFaultless place = (f : Fault) → HasFault place.before place.spot f → ⊥

-- the first place of a program that has a fault has this one, and stands in this unit, counted from 1
pub record IsFaultOf (p : Program) (r : Refusal) : Type 0 where
  pub before : List Place
  pub place : Place
  pub behind : List Place
  pub places : program_places p ≡ before ++ place ∷ behind
  pub faultless : AllByRecursion IsFaultless before
  pub faulty : IsFirstFault place r.fault
  pub unit : r.unit ≡ length place.before + 1

-- no place has a fault, but the plan exceeds a limit of plans; this is told at the last unit
pub record IsTooLarge (p : Program) (r : Refusal) : Type 0 where
  pub faultless : AllByRecursion IsFaultless (program_places p)
  pub exceeds : KeepsLimits (plan_of p) → ⊥
  pub fault : r.fault ≡ Limit
  pub unit : r.unit ≡ length p

-- why a program is refused
abbrev pub IsRefused : Program → Refusal → Type 0
IsRefused p r = IsFaultOf p r ⊎ IsTooLarge p r

-- the programs of the language: no place has a fault, and the plan keeps the limits of plans
pub record IsAccepted (p : Program) : Type 0 where
  pub faultless : AllByRecursion IsFaultless (program_places p)
  pub within : KeepsLimits (plan_of p)

-- a program is refused exactly for its first fault, and not refused exactly where it is accepted
abbrev pub RefusalsAre : Type 0
RefusalsAre = (p : Program) (r : Refusal) → (refusal_of p ≡ Some r) ↔ IsRefused p r

abbrev pub AcceptedAre : Type 0
AcceptedAre = (p : Program) → (refusal_of p ≡ None) ↔ IsAccepted p

-- an accepted program of the grammar has what its plan needs
abbrev pub AcceptedPlannable : Type 0
AcceptedPlannable = (p : Program) → AreSpoken p → IsAccepted p → IsPlannable p

-- its plan is valid
abbrev pub AcceptedAreValid : Type 0
AcceptedAreValid = (p : Program) → AreSpoken p → IsAccepted p → IsPlan (plan_of p)

-- and means what the program means
abbrev pub AcceptedMean : Type 0
AcceptedMean =
    (p : Program) (files : List (List (ℤ × List ℤ))) → AreSpoken p → IsAccepted p → AreFiles p files
    → meaning (plan_of p) (inputs_for files) ≡ record { outs = program_means p files; tables = [] }
