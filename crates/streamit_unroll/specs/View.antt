-- What the code's values stand for.
use Rattle.std.specs.Prelude.{◌≡◌, List, map, reverse, Option, Some, None, Result, Ok, Err}
use Rattle.river_plan.specs.Forms.{Name}
use Rattle.streamit_unroll.specs.declared.names.Known.{Known}
use Rattle.streamit_unroll.specs.declared.names.Known.TheVariants as code
use Rattle.streamit_model.specs.Elaborate.{Scope}
use Rattle.streamit_model.specs.Elaborate as spec
use Rattle.streamit_model.specs.declared.fault.Fault.{Fault}
use Rattle.streamit_unroll.specs.declared.refused.RefusedUnit.{RefusedUnit}
use Rattle.streamit_unroll.specs.declared.refused.RefusedUnit.TheVariants as refused

abbrev pub known_form : Known → spec.KnownName
known_form (code.Var i) = spec.Var i
known_form (code.Turn v) = spec.Turn v

abbrev pub option_known : Option Known → Option spec.KnownName
option_known None = None
option_known (Some k) = Some (known_form k)

abbrev pub entry_of : Name × Known → Name × spec.KnownName
entry_of e = (e.0, known_form e.1)

-- the newest name is the last in memory
abbrev pub scope_of : List (Name × Known) → Scope
scope_of es = reverse (map entry_of es)

-- the fault is the one that is defined; want of memory says nothing
abbrev pub IsWhyUnit : {A : Type 0} → RefusedUnit → Result A Fault → Type 0
IsWhyUnit (refused.Fault f) r = r ≡ Err f
IsWhyUnit refused.NoMemory r = Unit {0}

-- the answer is the one that is defined, or there was no memory
abbrev pub Judges : {X A : Type 0} → (X → A) → Result X RefusedUnit → Result A Fault → Type 0
Judges view (Ok x) r = r ≡ Ok (view x)
Judges view (Err f) r = IsWhyUnit f r
