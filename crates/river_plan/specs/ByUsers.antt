-- What the users of a place say: the numbers of the operators that read or write the queue there, or have the variable there.
use Rattle.std.specs.Prelude.{◌≡◌, ℕ, ◌+◌, ◌<◌, ◌≤◌, ◌⊎◌, List, [], ◌∷◌, length}
use Rattle.std.specs.List.Sorted.{IsStrictlyIncreasing}
use Rattle.river_base.specs.Places.{list_at}

-- at most one, and none where the place is one of the `count` places from `first` on
abbrev pub IsOnceAt : (first count place users : ℕ) → Type 0
IsOnceAt first count place users = (users ≤ 1) × (first ≤ place → place < first + count → users ≡ 0)

-- none stands twice, and from place `tables` on there is at most one
abbrev pub IsApartAt : (tables place : ℕ) → (users : List ℕ) → Type 0
IsApartAt tables place users = IsStrictlyIncreasing users × (tables ≤ place → length users ≤ 1)

-- the first of them is below this number
abbrev pub IsBefore : ℕ → List ℕ → Type 0
IsBefore op [] = ⊥
IsBefore op (w ∷ ws) = w < op

-- the place is one of the `count` from `first` on, or its first user comes before this operator
abbrev pub IsKnownAt : (first count op : ℕ) → (users : List (List ℕ)) → ℕ → Type 0
IsKnownAt first count op users place = ((first ≤ place) × (place < first + count)) ⊎ IsBefore op (list_at users place)
