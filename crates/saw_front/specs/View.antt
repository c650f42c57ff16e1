-- What the code's values stand for.
use Rattle.std.specs.Prelude.{◌≡◌, List, [], ◌∷◌, map, reverse, Option, Some, None, Result, Ok, Err}
use Rattle.work_code.specs.Term.{Term, term}
use Rattle.work_code.specs.declared.expr.Expr as work
use Rattle.river_plan.specs.Forms.{Name}
use Rattle.saw_model.specs.Elaborate.{Scope}
use Rattle.saw_model.specs.Elaborate as spec
use Rattle.saw_model.specs.declared.fault.Fault.{Fault}
use Rattle.saw_front.specs.declared.refused.RefusedUnit.{RefusedUnit}
use Rattle.saw_front.specs.declared.refused.RefusedUnit.TheVariants as refused
use Rattle.saw_front.specs.declared.names.Known.{Known}
use Rattle.saw_front.specs.declared.names.Known.TheVariants as code

abbrev pub known_form : Known → spec.KnownName
known_form (code.Slot i) = spec.Var i
known_form (code.Table place kind) = spec.Port place kind

abbrev pub option_known : Option Known → Option spec.KnownName
option_known None = None
option_known (Some k) = Some (known_form k)

abbrev pub entry_of : Name × Known → Name × spec.KnownName
entry_of e = (e.0, known_form e.1)

-- the newest name is the last in memory
abbrev pub scope_of : List (Name × Known) → Scope
scope_of es = reverse (map entry_of es)

-- no term, or one
abbrev pub option_terms : Option work.Expr → List Term
option_terms None = []
option_terms (Some e) = term e ∷ []

-- the answer is the one that is defined
abbrev pub JudgesAlways : {X A : Type 0} → (X → A) → Result X Fault → Result A Fault → Type 0
JudgesAlways view (Ok x) r = r ≡ Ok (view x)
JudgesAlways view (Err f) r = r ≡ Err f

-- this is why a unit is refused; want of memory says nothing
abbrev pub IsWhyUnit : {A : Type 0} → RefusedUnit → Result A Fault → Type 0
IsWhyUnit (refused.Fault f) r = r ≡ Err f
IsWhyUnit refused.NoMemory r = Unit {0}

-- the answer is the one that is defined, or there was no memory
abbrev pub Judges : {X A : Type 0} → (X → A) → Result X RefusedUnit → Result A Fault → Type 0
Judges view (Ok x) r = r ≡ Ok (view x)
Judges view (Err e) r = IsWhyUnit e r
