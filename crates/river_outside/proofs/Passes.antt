-- How calls at points chain.
use Rattle.std.proofs.Common.{◌≡◌, ℕ, List, refl, sym, ap, subst}
use Rattle.std.specs.Prelude.{Option, Some, Result, Ok, Err}
use Rattle.river_outside.specs.Held.{Held}
use Rattle.river_outside.specs.Order.{Order, Ends, Done, Comes}
use Rattle.river_outside.specs.Decides.{Decides, Stops}
use Rattle.river_outside.specs.Passes.{past, RefusesPoint, Answers, StandsFor, Passes}
use Rattle.river_outside.specs.declared.stop.Stop.{Stop}
use Rattle.river_outside.specs.declared.stop.Stop.TheVariants as stop
use Rattle.river_outside.proofs.Comes.{Comes-same, Comes-on, EndsIn-later}
use Rattle.river_outside.proofs.Turns.{Stops-later}

-- the points come past a value that was found
pub past-found : {A : Type 0} (found : Result A (List ℕ)) (x : A) (held : Option Held) → found ≡ Ok x → (next : A → Order)
    → Comes (past found next) held (next x)
past-found found x held is next = subst (λ o. Comes o held (next x)) (sym (ap (λ f. past f next) is)) (Comes-same (next x) held)

-- a call that is refused stops its point
pub past-refused : {A : Type 0} (found : Result A (List ℕ)) (s : Stop) (held : Option Held) (rose : Type 0) → RefusesPoint found s → (next : A → Order)
    → Stops (Some (past found next)) held rose s
past-refused found stop.Usage held rose told next = absurd told
past-refused found (stop.Refused text) held rose told next = rw told refl
past-refused found (stop.Failed text) held rose told next = absurd told
past-refused found (stop.Absent text) held rose told next = absurd told
past-refused found stop.NoMemory held rose told next = tt

-- a call that needs no file, at its point
pub past-passes : {A : Type 0} (found : Result A (List ℕ)) (result : Result A Stop) (held : Option Held) (rose : Type 0) → Answers found result
    → Passes (past found) held rose result
past-passes found (Ok x) held rose told = past-found found x held told
past-passes found (Err s) held rose told = past-refused found s held rose told

module _ {A B : Type 0} (first : (A → Order) → Order) (second : A → (B → Order) → Order) (held : Option Held) where
  -- the first point is passed, and then the second call
  pub then-passes : (early late : Type 0) → (late → early) → (x : A) (result : Result B Stop) → ((next : A → Order) → Comes (first next) held (next x))
      → Passes (second x) held late result
      → Passes (λ next. first (λ y. second y next)) held early result
  then-passes early late sooner x (Ok z) here there =
      λ next. Comes-on (first (λ y. second y next)) (second x next) (next z) held (here (λ y. second y next)) (there next)
  then-passes early late sooner x (Err s) here there =
      λ next. Stops-later (first (λ y. second y next)) (second x next) held early late sooner s (here (λ y. second y next)) (there next)

  -- the first point stops
  pub then-stops : (early late : Type 0) → (late → early) → (s : Stop) → ((next : A → Order) → Stops (Some (first next)) held late s) → (next : B → Order)
      → Stops (Some (first (λ y. second y next))) held early s
  then-stops early late sooner s here next =
      let o = first (λ y. second y next) in Stops-later o o held early late sooner s (Comes-same o held) (here (λ y. second y next))

-- what is passed last is the output
pub passed-decides : (point : (List ℕ → Order) → Order) (held : Option Held) (rose : Type 0) (result : Result (List ℕ) Stop) → Passes point held rose result
    → Decides (Some (point (λ text. Ends (Done text)))) held rose result
passed-decides point held rose (Ok text) passed =
    EndsIn-later (point (λ t. Ends (Done t))) (Ends (Done text)) held (Done text) (passed (λ t. Ends (Done t))) refl
passed-decides point held rose (Err s) passed = passed (λ t. Ends (Done t))

-- what stands for a value that was found, where the points after it pass for all that it stands for
pub past-as : {A B C : Type 0} (stands : A → B → Type 0) (found : Result A (List ℕ)) (y : B) (second : A → (C → Order) → Order) (held : Option Held)
    (rose : Type 0) (result : Result C Stop)
    → StandsFor stands found y → ((x : A) → stands x y → Passes (second x) held rose result) → Passes (λ next. past found (λ x. second x next)) held rose result
past-as stands (Ok x) y second held rose (Ok z) told later = later x told
past-as stands (Ok x) y second held rose (Err s) told later = later x told
past-as stands (Err text) y second held rose result told later = absurd told
