-- Why a program is refused, reckoned unit by unit: the first fault in reading order, and the unit in which it stands.
-- That it is the first fault of the first place that has one, in the words of each fault, is a law of specs/Faults.
use Rattle.std.specs.Prelude.{◌<◌, ◌≤◌, IsTrue, ◌≡◌, ℕ, zero, suc, ◌+◌, Bool, true, false, ◌||◌, nat_lt, nat_eq, List, [], ◌∷◌, ◌++◌, length, Option, Some}
use Rattle.std.specs.Prelude.{None, if◌then◌else◌}
use Rattle.std.specs.List.{AllByRecursion}
use Rattle.river_base.specs.Name.{name_eq}
use Rattle.cql_text.specs.Tree.{Window, Now, Range, Unbounded, Latest}
use Rattle.river_plan.specs.Forms.{Name}
use Rattle.river_plan.specs.Names.{count}
use Rattle.cql_model.specs.declared.fault.Fault.{Fault}
use Rattle.cql_model.specs.declared.fault.Fault.TheVariants.{UnknownStream, UnknownField, AmbiguousField, NameTwice, Limit}
use Rattle.cql_model.specs.declared.fault.Refusal.{Refusal}
use Rattle.cql_model.specs.Plannable.{has_no_at, declared_names, AreShallowColumns, IsShallowCondition, IsPlannable, exceeds}
use Rattle.cql_model.specs.Laws.{known_names}
use Rattle.cql_text.specs.Tree.{Scalar, Number, Field, ItemField, Neg, Not, Bin, Source, Column, Columns, Star, Chosen, Query, Register, AQuery, Program}
use Rattle.cql_model.specs.Program.{all_uses}
use Rattle.cql_model.specs.Scopes.{Named, item_named, scope_of}
use Rattle.cql_model.specs.Plan.{widths_of, query_named, plan_of}

-- the first fault, or the second
abbrev pub then_fault : Option Fault → Option Fault → Option Fault
then_fault None o = o
then_fault (Some f) o = Some f

abbrev pub fault_if : Bool → Fault → Option Fault
fault_if b f = if b then Some f else None

-- FIELDS

-- in how many places of the scope a field may be
abbrev pub field_places : Name → List Named → ℕ
field_places f [] = 0
field_places f (i ∷ is) = count f i.fields + field_places f is

abbrev pub item_places : Name → Name → List Named → ℕ
item_places a f [] = 0
item_places a f (i ∷ is) = (if name_eq i.name a then count f i.fields else 0) + item_places a f is

abbrev pub field_fault : ℕ → Option Fault
field_fault zero = Some UnknownField
field_fault (suc zero) = None
field_fault (suc (suc n)) = Some AmbiguousField

abbrev pub scalar_fault : List Named → Scalar → Option Fault
scalar_fault scope (Number n) = None
scalar_fault scope (Field f) = field_fault (field_places f scope)
scalar_fault scope (ItemField a f) = field_fault (item_places a f scope)
scalar_fault scope (Neg e) = scalar_fault scope e
scalar_fault scope (Not e) = scalar_fault scope e
scalar_fault scope (Bin o l r) = then_fault (scalar_fault scope l) (scalar_fault scope r)

-- ITEMS, as they are read: unknown stream, the fifth item, `Rows`, two items of one name, a product wider than 16

abbrev pub is_rows_fault : Window → Bool
is_rows_fault Now = false
is_rows_fault (Range n unit) = false
is_rows_fault Unbounded = false
is_rows_fault (Latest n) = nat_eq n 0 || nat_lt 1000000 n

abbrev pub item_fault : List Named → List Named → Source → Option Fault
item_fault known scope i =
    then_fault (fault_if (nat_eq (count i.stream (known_names known)) 0) UnknownStream)
    (then_fault (fault_if (nat_lt 3 (length scope)) Limit)
    (then_fault (fault_if (is_rows_fault i.window) Limit)
    (then_fault (fault_if (nat_lt 0 (count (item_named known i).name (known_names scope))) NameTwice)
    (fault_if (nat_lt 16 (widths_of (scope ++ item_named known i ∷ []))) Limit))))

abbrev pub items_fault : List Named → List Named → List Source → Option Fault
items_fault known scope [] = None
items_fault known scope (i ∷ is) = then_fault (item_fault known scope i) (items_fault known (scope ++ item_named known i ∷ []) is)

-- QUERIES AND STREAMS

abbrev pub chosen_fault : List Named → ℕ → List Column → Option Fault
chosen_fault scope k [] = None
chosen_fault scope k (c ∷ cs) = then_fault (fault_if (nat_lt 15 k) Limit) (then_fault (scalar_fault scope c.value) (chosen_fault scope (k + 1) cs))

abbrev pub columns_fault : List Named → Columns → Option Fault
columns_fault scope Star = None
columns_fault scope (Chosen cs) = chosen_fault scope 0 cs

abbrev pub condition_fault : List Named → Option Scalar → Option Fault
condition_fault scope None = None
condition_fault scope (Some e) = scalar_fault scope e

abbrev pub query_fault : List Named → Query → Option Fault
query_fault known q =
    then_fault (fault_if (nat_lt 0 (count q.name (known_names known))) NameTwice)
    (then_fault (items_fault known [] q.items)
    (then_fault (columns_fault (scope_of known q.items) q.columns) (condition_fault (scope_of known q.items) q.condition)))

-- fields as they are read: one that stood before, and the seventeenth
abbrev pub fields_fault : List Name → List Name → Option Fault
fields_fault past [] = None
fields_fault past (f ∷ fs) =
    then_fault (fault_if (nat_lt 0 (count f past)) NameTwice)
    (then_fault (fault_if (nat_lt 15 (length past)) Limit) (fields_fault (past ++ f ∷ []) fs))

abbrev pub stream_fault : List Named → ℕ → Name → List Name → Option Fault
stream_fault known many name fields =
    then_fault (fault_if (nat_lt 0 (count name (known_names known))) NameTwice) (then_fault (fault_if (nat_lt 7 many) Limit) (fields_fault [] fields))

-- the fault of this unit, where it has one, or that of those behind it
abbrev pub in_unit : ℕ → Option Fault → Option Refusal → Option Refusal
in_unit unit None rest = rest
in_unit unit (Some f) rest = Some (record { unit = unit; fault = f })

-- unit by unit; `many` streams are registered before
abbrev pub first_fault : List Named → ℕ → ℕ → Program → Option Refusal
first_fault known many unit [] = None
first_fault known many unit (Register name fields ∷ ps) =
    in_unit unit (stream_fault known many name fields) (first_fault (record { name = name; fields = fields } ∷ known) (many + 1) (unit + 1) ps)
first_fault known many unit (AQuery q ∷ ps) = in_unit unit (query_fault known q) (first_fault (query_named known q ∷ known) many (unit + 1) ps)

abbrev pub then_refusal : Option Refusal → Option Refusal → Option Refusal
then_refusal None o = o
then_refusal (Some r) o = Some r

-- why a program is refused: the first fault of its units; where they have none, the limits of plans, which are told at the last unit
abbrev pub refusal_of : Program → Option Refusal
refusal_of p = then_refusal (first_fault [] 0 1 p) (if exceeds (plan_of p) then Some (record { unit = length p; fault = Limit }) else None)

-- WHAT THE GRAMMAR GIVES: names without `@`, lists that are not empty, values that are not too deep

abbrev pub has_columns : Columns → Bool
has_columns Star = true
has_columns (Chosen cs) = nat_lt 0 (length cs)

pub record IsSpokenQuery (q : Query) : Type 0 where
  pub items : 0 < length q.items
  pub columns : has_columns q.columns ≡ true
  pub values : AreShallowColumns q.columns
  pub condition : IsShallowCondition q.condition

abbrev pub AreSpoken : Program → Type 0
AreSpoken [] = Unit {0}
AreSpoken (Register name fields ∷ ps) = IsTrue (has_no_at name) × (0 < length fields) × AreSpoken ps
AreSpoken (AQuery q ∷ ps) = IsTrue (has_no_at q.name) × IsSpokenQuery q × AreSpoken ps

-- the names that are declared, and those that items name, have at most 40 bytes
abbrev pub IsShortName : Name → Type 0
IsShortName n = length n ≤ 40

pub record HaveShortNames (p : Program) : Type 0 where
  pub names : AllByRecursion IsShortName (declared_names p)
  pub uses : AllByRecursion IsShortName (all_uses p)

-- of a program without a fault a plan can be made
abbrev pub FaultlessPlannable : Type 0
FaultlessPlannable = (p : Program) → AreSpoken p → first_fault [] 0 1 p ≡ None → IsPlannable p
