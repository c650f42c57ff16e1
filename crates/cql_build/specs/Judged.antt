-- A unit of a program: its first fault.
use Rattle.std.specs.Prelude.{◌≡◌, ℕ, List, [], ◌∷◌, ◌++◌, Option, Some, None}
use Rattle.cql_model.specs.Judged.{item_fault, stream_fault, query_fault}
use Rattle.cql_text.specs.Tree.{Source, UnitForm, Register, AQuery}
use Rattle.cql_model.specs.Scopes.{Named, item_named, scope_of}
use Rattle.cql_model.specs.Plan.{widths_of}
use Rattle.cql_model.specs.declared.fault.Fault.{Fault}

-- its first fault, behind so many registered streams
abbrev pub unit_fault : List Named → ℕ → UnitForm → Option Fault
unit_fault known many (Register name fields) = stream_fault known many name fields
unit_fault known many (AQuery q) = query_fault known q

-- the width of the product of these items and one more, which has no fault
abbrev pub IsWidthWith : List Named → List Source → Source → ℕ → Type 0
IsWidthWith known before i wider =
    (wider ≡ widths_of (scope_of known before ++ item_named known i ∷ [])) × (item_fault known (scope_of known before) i ≡ None)

-- the fault of an item behind these
abbrev pub IsFaultBehind : List Named → List Source → Source → Fault → Type 0
IsFaultBehind known before i fault = item_fault known (scope_of known before) i ≡ Some fault

-- how many streams it registers
abbrev pub registers : UnitForm → ℕ
registers (Register name fields) = 1
registers (AQuery q) = 0
