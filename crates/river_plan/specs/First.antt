-- Searches: what is found first. A search is a fact about what it finds, which is None where there is nothing to find.
use Rattle.std.specs.Prelude.{◌≡◌, ◌⊎◌, List, [], ◌∷◌, ◌++◌, Option, Some, None}

-- what the first search finds, and where it finds nothing, what the second finds
abbrev pub OrElse : {B : Type 0} → (Option B → Type 0) → (Option B → Type 0) → Option B → Type 0
OrElse s t None = s None × t None
OrElse s t (Some b) = s (Some b) ⊎ (s None × t (Some b))

-- what the search finds, under f
abbrev pub As : {A B : Type 0} → (A → B) → (Option A → Type 0) → Option B → Type 0
As f s None = s None
As f s (Some b) = (a : _) × (f a ≡ b) × s (Some a)

-- nothing is found
abbrev pub FindsNothing : {B : Type 0} → Option B → Type 0
FindsNothing None = Unit {0}
FindsNothing (Some b) = ⊥

-- y is found, unless this holds
abbrev pub Unless : {A : Type 0} → Type 0 → A → Option A → Type 0
Unless good y None = good
Unless good y (Some x) = (good → ⊥) × (y ≡ x)

-- what is found in the first element of a list in which something is found, given those before it
abbrev pub Along : {A B : Type 0} → (List A → A → Option B → Type 0) → (before : List A) → List A → Option B → Type 0
Along s before [] = FindsNothing
Along s before (y ∷ ys) = OrElse (s before y) (Along s (before ++ y ∷ []) ys)

-- the first element for which this does not hold, given those before it
abbrev pub IsFirst : {A : Type 0} → (List A → A → Type 0) → List A → Option A → Type 0
IsFirst good xs = Along (λ before y. Unless (good before y) y) [] xs
