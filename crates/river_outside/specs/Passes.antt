-- A point, and a call that does what the point asks. Each point is told what comes after it.
use Rattle.std.specs.Prelude.{◌≡◌, ℕ, List, Option, Some, Result, Ok, Err}
use Rattle.river_outside.specs.Held.{Held}
use Rattle.river_outside.specs.Order.{Order, Ends, Comes, Refused}
use Rattle.river_outside.specs.Decides.{Stops}
use Rattle.river_outside.specs.declared.stop.Stop.{Stop}
use Rattle.river_outside.specs.declared.stop.Stop.TheVariants as stop

-- a point that needs no file: what it finds is handed on, or refuses with a text
abbrev pub past : {A : Type 0} → Result A (List ℕ) → (A → Order) → Order
past (Ok x) next = next x
past (Err text) next = Ends (Refused text)

-- why the call at such a point has no value: it is refused, with the text; want of memory is free
abbrev pub RefusesPoint : {A : Type 0} → Result A (List ℕ) → Stop → Type 0
RefusesPoint found stop.Usage = ⊥
RefusesPoint found (stop.Refused text) = found ≡ Err text
RefusesPoint found (stop.Failed text) = ⊥
RefusesPoint found (stop.Absent text) = ⊥
RefusesPoint found stop.NoMemory = Unit {0}

-- the call at such a point gives what was found, or is refused
abbrev pub Answers : {A : Type 0} → Result A (List ℕ) → Result A Stop → Type 0
Answers found (Ok x) = found ≡ Ok x
Answers found (Err stop) = RefusesPoint found stop

-- the same, where what the call gives stands for what was found
abbrev pub StandsFor : {A B : Type 0} → (A → B → Type 0) → Result A (List ℕ) → B → Type 0
StandsFor stands (Ok x) y = stands x y
StandsFor stands (Err text) y = ⊥

abbrev pub AnswersAs : {A B : Type 0} → (A → B → Type 0) → Result A (List ℕ) → Result B Stop → Type 0
AnswersAs stands found (Ok y) = StandsFor stands found y
AnswersAs stands found (Err stop) = RefusesPoint found stop

-- the call at any point: it gives a value, and the points come to what is after this one, given the value; or they stop
-- here. Both hold whatever comes after it
abbrev pub Passes : {A : Type 0} → ((A → Order) → Order) → Option Held → Type 0 → Result A Stop → Type 0
Passes {A} point held rose (Ok x) = (next : A → Order) → Comes (point next) held (next x)
Passes {A} point held rose (Err stop) = (next : A → Order) → Stops (Some (point next)) held rose stop

-- the same, where what the call gives stands for the value that the points after it are given
abbrev pub PassesAs : {A B : Type 0} → (A → B → Type 0) → ((A → Order) → Order) → Option Held → Type 0 → Result B Stop → Type 0
PassesAs {A} stands point held rose (Ok y) = (x : A) × stands x y × ((next : A → Order) → Comes (point next) held (next x))
PassesAs {A} stands point held rose (Err stop) = (next : A → Order) → Stops (Some (point next)) held rose stop
