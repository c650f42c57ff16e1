-- Which fault a program has, as a relation: no place before the faulty one has a fault, and the faulty one has this fault, and none
-- that is told before it.
use Rattle.std.specs.Prelude.{◌≡◌, ◌⊎◌, ◌↔◌, ℕ, ℤ, pos, ◌+◌, ◌<◌, ◌≤◌, List, ◌∷◌, ◌++◌, map, Ok, Err}
use Rattle.std.specs.List.{AllByRecursion}
use Rattle.river_plan.specs.Forms.{Name}
use Rattle.river_plan.specs.Names.{count}
use Rattle.brooklet_model.specs.ByIndex.{cycle}
use Rattle.streamit_model.specs.Unrolled.{IsRound}
use Rattle.streamit_model.specs.declared.fault.Fault.{Fault}
use Rattle.streamit_model.specs.declared.fault.Fault.TheVariants.{UnknownName, NameTwice, Rates, PeekRange, NotConstant, BranchRates, Limit, Weights}
use Rattle.streamit_text.specs.Program.{UnitForm, Program}
use Rattle.streamit_model.specs.Meaning.{weights_for}
use Rattle.streamit_model.specs.Judged.{Streamed, judged}
use Rattle.streamit_model.specs.Words.{Begins, Declares, Sets, Uses, Fixes, Varies, Pops, Peeks, Bounds, Loops, Joins, IsLocal, IsLoopVariable, IsKnown, slots_in}
use Rattle.streamit_model.specs.Words.{statements_in, popped_in}
use Rattle.streamit_model.specs.Places.{Spot, Names, Reads, Rated, Counts, Branch, Added, Weighs, Finishes, Place, places_of, depth_above, last_operators}

-- THE TABLE: what stands above, what stands there

-- a stream is declared above by this name
abbrev pub IsAbove : List UnitForm → Name → Type 0
IsAbove above n = 0 < count n (map (λ u. u.name) above)

-- `add` names no stream declared above, or an expression or an assignment names nothing that is known there
abbrev pub IsUnknown : List UnitForm → Spot → Type 0
IsUnknown above (Added n) = IsAbove above n → ⊥
IsUnknown above (Reads peek before (Sets n)) = IsKnown before n → ⊥
IsUnknown above (Reads peek before (Uses n)) = IsKnown before n → ⊥
IsUnknown above (Reads peek before (Fixes n)) = IsKnown before n → ⊥
IsUnknown above s = ⊥

-- a stream, or a name that is known there, is declared again
abbrev pub IsTwice : List UnitForm → Spot → Type 0
IsTwice above (Names n) = IsAbove above n
IsTwice above (Reads peek before (Declares n)) = IsKnown before n
IsTwice above (Reads peek before (Loops n)) = IsKnown before n
IsTwice above s = ⊥

-- the rate of `peek` is below that of `pop`, or at the end of `prework` or `work` another number is counted than is declared
abbrev pub AreRatesApart : ℕ → ℕ → Spot → Type 0
AreRatesApart declared counted (Rated least push pop peek) = (peek < pop) × (declared ≡ peek) × (counted ≡ pop)
AreRatesApart declared counted (Counts d c) = (d ≡ c → ⊥) × (declared ≡ d) × (counted ≡ c)
AreRatesApart declared counted s = ⊥

-- behind k pops the index i is within the items that a firing looks at
abbrev pub IsInReach : ℕ → ℕ → ℤ → Type 0
IsInReach peek k i = (n : ℕ) × (i ≡ pos n) × (k + n < peek)

-- the index of a `peek` is below 0, or beyond what the firing looks at
abbrev pub IsOutside : ℤ → ℕ → Spot → Type 0
IsOutside index rate (Reads peek before (Peeks i)) = (IsInReach peek (popped_in before) i → ⊥) × (index ≡ i) × (rate ≡ peek)
IsOutside index rate s = ⊥

-- a bound or an index names what is no variable of a loop, or pops or looks; or the variable of a loop is set
abbrev pub IsVariable : Spot → Type 0
IsVariable (Reads peek before (Fixes n)) = IsLocal before n
IsVariable (Reads peek before Varies) = Unit {0}
IsVariable (Reads peek before (Sets n)) = IsLoopVariable before n
IsVariable s = ⊥

-- the arms of an `if` differ in pops or pushes
abbrev pub AreArmsApart : Spot → Type 0
AreArmsApart (Reads peek before (Joins p q p' q')) = (p ≡ p') × (q ≡ q') → ⊥
AreArmsApart s = ⊥

abbrev pub IsBound : ℤ → Type 0
IsBound z = (n : ℕ) × (z ≡ pos n) × (n ≤ 65536)

-- a rate above 65,536; no pop in `work`; more than 16,384 statements; more than 256 slots; an index above 65,536; a bound not 0 to
-- 65,536; more than 64 branches; streams nested above 64 deep; weights that sum above 65,536; a plan of more than 256 operators
abbrev pub IsOverLimit : List UnitForm → Spot → Type 0
IsOverLimit above (Rated least push pop peek) = (65536 < push) ⊎ (65536 < pop) ⊎ (65536 < peek) ⊎ (pop < least)
IsOverLimit above (Reads peek before Begins) = 16384 < statements_in before + 1
IsOverLimit above (Reads peek before (Declares n)) = 256 < slots_in before + 1
IsOverLimit above (Reads peek before Pops) = 65536 < popped_in before
IsOverLimit above (Reads peek before (Peeks i)) = (n : ℕ) × (i ≡ pos n) × (65536 < popped_in before + n)
IsOverLimit above (Reads peek before (Bounds z)) = IsBound z → ⊥
IsOverLimit above (Branch i) = 64 < i + 1
IsOverLimit above (Added n) = 64 < depth_above above n + 1
IsOverLimit above (Weighs ws n) = 65536 < cycle (weights_for ws n)
IsOverLimit above Finishes = 256 < last_operators above
IsOverLimit above s = ⊥

-- a weight is 0, or there are more or fewer than branches
abbrev pub AreWeightsWrong : Spot → Type 0
AreWeightsWrong (Weighs ws n) = IsRound (weights_for ws n) n → ⊥
AreWeightsWrong s = ⊥

-- what stands there has this fault, whichever others it has
abbrev pub HasFault : List UnitForm → Spot → Fault → Type 0
HasFault above s UnknownName = IsUnknown above s
HasFault above s NameTwice = IsTwice above s
HasFault above s (Rates declared counted) = AreRatesApart declared counted s
HasFault above s (PeekRange index peek) = IsOutside index peek s
HasFault above s NotConstant = IsVariable s
HasFault above s BranchRates = AreArmsApart s
HasFault above s Limit = IsOverLimit above s
HasFault above s Weights = AreWeightsWrong s

-- THE FIRST FAULT

-- the order in which the faults of a place are told
abbrev pub rank : Fault → ℕ
rank NameTwice = 0
rank UnknownName = 1
rank NotConstant = 2
rank Weights = 3
rank (PeekRange index peek) = 4
rank Limit = 5
rank (Rates declared counted) = 6
rank BranchRates = 7

-- it is the first fault of the place
pub record IsFirstFault (above : List UnitForm) (s : Spot) (f : Fault) : Type 0 where
  pub has : HasFault above s f
  pub first : (g : Fault) → rank g < rank f → HasFault above s g → ⊥

-- the place has no fault
abbrev pub IsFaultless : Place → Type 0
IsFaultless p = (f : Fault) → HasFault p.above p.spot f → ⊥

-- the first fault of a program, and the unit that it stands in
pub record IsFaultOf (p : Program) (unit : ℕ) (f : Fault) : Type 0 where
  pub before : List Place
  pub place : Place
  pub behind : List Place
  pub parts : places_of p ≡ before ++ place ∷ behind
  pub right : AllByRecursion IsFaultless before
  pub faulty : IsFirstFault place.above place.spot f
  pub there : unit ≡ place.unit

-- a program is refused with a fault in a unit exactly where this is its first fault
abbrev pub RefusalsAre : Type 0
RefusalsAre = (p : Program) (unit : ℕ) (f : Fault) → (judged p ≡ Err (record { unit = unit; fault = f })) ↔ IsFaultOf p unit f

-- and it is accepted exactly where no place has a fault
abbrev pub AcceptedAre : Type 0
AcceptedAre = (p : Program) → ((known : Streamed) × (judged p ≡ Ok known)) ↔ AllByRecursion IsFaultless (places_of p)
