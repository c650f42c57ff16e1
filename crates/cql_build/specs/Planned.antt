-- What is answered for a program.
use Rattle.std.specs.Prelude.{◌≡◌, ◌≤◌, ℕ, true, List, [], ◌∷◌, length, Some}
use Rattle.river_kernels.specs.Fits.{stream}
use Rattle.river_plan.specs.Forms.{OpForm, PlanForm}
use Rattle.river_plan.specs.Names.{count}
use Rattle.river_plan.specs.declared.fault.PlanFault.{PlanFault}
use Rattle.river_plan.specs.declared.fault.PlanFault.TheVariants.{P1, P2, P3, P4, P5, P6, P7, P8, P9, NoMemory}
use Rattle.river_plan.specs.declared.plan.Decl.{Decl}
use Rattle.cql_model.specs.Plannable.{exceeds}
use Rattle.cql_model.specs.Judged.{IsShortName, refusal_of}
use Rattle.cql_text.specs.Tree.{UnitForm, Register, AQuery, Program}
use Rattle.cql_model.specs.Plan.{decl, copy_decls, copy_ops}
use Rattle.cql_model.specs.declared.fault.Fault.TheVariants.{Limit}
use Rattle.cql_model.specs.declared.fault.Refusal as model
use Rattle.cql_build.specs.declared.planning.Refused.{Refused}
use Rattle.cql_build.specs.declared.planning.Refused.TheVariants as refused

-- this is why a program is refused; want of memory says nothing
abbrev pub IsWhyRefused : Program → Refused → Type 0
IsWhyRefused p (refused.Program r) = refusal_of p ≡ Some r
IsWhyRefused p refused.NoMemory = Unit {0}

-- a limit of plans, told at this unit
abbrev pub limit_of : ℕ → model.Refusal
limit_of unit = record { unit = unit; fault = Limit }

abbrev pub limit_at : ℕ → Refused
limit_at unit = refused.Program (limit_of unit)

-- any fault of a plan but want of memory is told as a limit
abbrev pub refused_of : PlanFault → ℕ → Refused
refused_of (P1 n) unit = limit_at unit
refused_of (P2 n) unit = limit_at unit
refused_of (P3 n) unit = limit_at unit
refused_of (P4 n) unit = limit_at unit
refused_of (P5 n) unit = limit_at unit
refused_of (P6 n) unit = limit_at unit
refused_of (P7 n) unit = limit_at unit
refused_of (P8 l n) unit = limit_at unit
refused_of (P9 n) unit = limit_at unit
refused_of NoMemory unit = refused.NoMemory

abbrev pub IsLimited : PlanForm → ℕ → Refused → Type 0
IsLimited p unit (refused.Program r) = (exceeds p ≡ true) × (r ≡ limit_of unit)
IsLimited p unit refused.NoMemory = Unit {0}

-- what a registered stream gives

abbrev pub IsShortRegistered : UnitForm → Type 0
IsShortRegistered (Register name fields) = IsShortName name
IsShortRegistered (AQuery q) = Unit {0}

-- it has at most 16 fields
abbrev pub IsNarrow : UnitForm → Type 0
IsNarrow (Register name fields) = length fields ≤ 16
IsNarrow (AQuery q) = Unit {0}

abbrev pub unit_inputs : UnitForm → List Decl
unit_inputs (Register name fields) = decl name (stream (length fields)) ∷ []
unit_inputs (AQuery q) = []

abbrev pub unit_copies : List (List ℕ) → UnitForm → List Decl
unit_copies all (Register name fields) = copy_decls name (length fields) (count name all)
unit_copies all (AQuery q) = []

abbrev pub unit_copying : List (List ℕ) → UnitForm → List OpForm
unit_copying all (Register name fields) = copy_ops name (count name all)
unit_copying all (AQuery q) = []
