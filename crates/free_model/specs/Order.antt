-- In which order firings are chosen.
use Rattle.std.specs.Prelude.{◌≡◌, ℕ, ◌%◌, ◌<◌, ◌⊎◌, List, [], ◌∷◌, length, Some, slice_get}
use Rattle.free_model.specs.Apart.{Every, Ready}
use Rattle.free_model.specs.Forms.{FreeForm}
use Rattle.free_model.specs.Machine.{State}
use Rattle.free_model.specs.Rounds.{choices, turned, round_of}

-- its operator comes first; or it is the same, and its port does
abbrev pub IsLower : ℕ × ℕ → ℕ × ℕ → Type 0
IsLower c d = (c.0 < d.0) ⊎ ((c.0 ≡ d.0) × (c.1 < d.1))

-- each is lower than those behind it
abbrev pub AreRising : List (ℕ × ℕ) → Type 0
AreRising [] = Unit {0}
AreRising (c ∷ cs) = Every (IsLower c) cs × AreRising cs

-- it stands in the list
abbrev pub Stands : {A : Type 0} → List A → A → Type 0
Stands xs x = (k : ℕ) × (slice_get xs k ≡ Some x)

-- exactly the operators and ports that are ready, in ascending order
pub record AreReadyPairs (p : FreeForm) (s : State) (cs : List (ℕ × ℕ)) : Type 0 where
  pub ready : Every (Ready p s) cs
  pub all : (c : ℕ × ℕ) → Ready p s c → Stands cs c
  pub rising : AreRising cs

abbrev pub ChoicesAreReadyPairs : Type 0
ChoicesAreReadyPairs = (p : FreeForm) (s : State) → AreReadyPairs p s (choices p s)

-- the first list is the second with some left out
abbrev pub StandInOrder : {A : Type 0} → List A → List A → Type 0
StandInOrder [] ys = Unit {0}
StandInOrder (x ∷ xs) [] = ⊥
StandInOrder (x ∷ xs) (y ∷ ys) = ((x ≡ y) × StandInOrder xs ys) ⊎ StandInOrder (x ∷ xs) ys

-- a round stands in the order of the choices that begins, cyclically, at place `pick` modulo how many there are
abbrev pub RoundsTakeInOrder : Type 0
RoundsTakeInOrder =
    (p : FreeForm) (workers pick : ℕ) (s : State) → StandInOrder (round_of p workers pick s) (turned (pick % length (choices p s)) (choices p s))
