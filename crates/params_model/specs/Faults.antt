-- Which fault the text of a program with parameters has, as a relation: no place before the faulty one has a fault, and the faulty one
-- has this fault. What is told of elaboration comes behind it, and is said by Events.
use Rattle.std.specs.Prelude.{◌≡◌, ◌⊎◌, ◌↔◌, ℕ, List, [], ◌∷◌, ◌++◌, Some, Ok, Err}
use Rattle.std.specs.List.{AllByRecursion}
use Rattle.river_plan.specs.Forms.{Name}
use Rattle.streamit_model.specs.Meaning.{look}
use Rattle.params_text.specs.Program.{ParamProgram}
use Rattle.params_model.specs.Judged.{Above, units_judged}
use Rattle.params_model.specs.declared.fault.Fault.{Fault}
use Rattle.params_model.specs.declared.fault.Fault.TheVariants.{UnknownName, NameTwice, Arity, NotConstant}
use Rattle.params_model.specs.Places.{Spot, Names, Takes, Declares, Sets, Uses, Loops, Adds, Gives, Place, places_of}

-- the name is one of these
abbrev pub IsAmong : List Name → Name → Type 0
IsAmong [] n = ⊥
IsAmong (k ∷ ks) n = (k ≡ n) ⊎ IsAmong ks n

-- a stream is declared above by this name
abbrev pub IsAbove : Above → Name → Type 0
IsAbove [] n = ⊥
IsAbove (u ∷ us) n = (u.0 ≡ n) ⊎ IsAbove us n

-- what stands at a place is wrong: a stream, a parameter or the variable of a loop of steps is declared again, or what a filter declares
-- or assigns has the name of a parameter; a name of a constant is no parameter and no variable of a loop that is known there, or an
-- `add` names no stream declared above; an `add` has another number of arguments than the nearest stream of this name has parameters
abbrev pub IsWrong : Spot → Type 0
IsWrong (Names n above) = IsAbove above n
IsWrong (Takes n before) = IsAmong before n
IsWrong (Declares n params) = IsAmong params n
IsWrong (Sets n params) = IsAmong params n
IsWrong (Uses n known) = IsAmong known n → ⊥
IsWrong (Loops n known) = IsAmong known n
IsWrong (Adds n above) = IsAbove above n → ⊥
IsWrong (Gives n count above) = look above n ≡ Some count → ⊥

-- the fault that this is
abbrev pub spot_fault : Spot → Fault
spot_fault (Names n above) = NameTwice
spot_fault (Takes n before) = NameTwice
spot_fault (Declares n params) = NameTwice
spot_fault (Sets n params) = NotConstant
spot_fault (Uses n known) = UnknownName
spot_fault (Loops n known) = NameTwice
spot_fault (Adds n above) = UnknownName
spot_fault (Gives n count above) = Arity

-- the place has no fault
abbrev pub IsFaultless : Place → Type 0
IsFaultless p = IsWrong p.spot → ⊥

-- the first fault of a program, and the unit that it stands in
pub record IsFaultOf (p : ParamProgram) (unit : ℕ) (f : Fault) : Type 0 where
  pub before : List Place
  pub place : Place
  pub behind : List Place
  pub parts : places_of p ≡ before ++ place ∷ behind
  pub right : AllByRecursion IsFaultless before
  pub wrong : IsWrong place.spot
  pub fault : f ≡ spot_fault place.spot
  pub there : unit ≡ place.unit

-- a program is refused for its text, with a fault in a unit, exactly where this is its first fault
abbrev pub RefusalsAre : Type 0
RefusalsAre = (p : ParamProgram) (unit : ℕ) (f : Fault) → (units_judged 1 [] p ≡ Err (record { unit = unit; fault = f })) ↔ IsFaultOf p unit f

-- and it is not exactly where no place has a fault
abbrev pub AcceptedAre : Type 0
AcceptedAre = (p : ParamProgram) → (units_judged 1 [] p ≡ Ok tt) ↔ AllByRecursion IsFaultless (places_of p)
