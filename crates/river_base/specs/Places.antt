-- Lists by place: ports, tables.
use Rattle.std.specs.Prelude.{ℕ, zero, suc, List, [], ◌∷◌, ◌++◌, nat_lt, if◌then◌else◌, slice_index_or}

-- this list at this place, and nothing elsewhere
abbrev pub only : {A : Type 0} → ℕ → List A → ℕ → List A
only zero xs zero = xs
only zero xs (suc q) = []
only (suc p) xs zero = []
only (suc p) xs (suc q) = only p xs q

-- nothing anywhere
abbrev pub none : {A : Type 0} → ℕ → List A
none p = []

-- the list at a place, and nothing beyond
abbrev pub list_at : {A : Type 0} → List (List A) → ℕ → List A
list_at ls p = slice_index_or ls p []

-- the lists, with more at the end of the one at a place
abbrev pub append_at : {A : Type 0} → List (List A) → ℕ → List A → List (List A)
append_at [] n xs = []
append_at (l ∷ ls) zero xs = (l ++ xs) ∷ ls
append_at (l ∷ ls) (suc n) xs = l ∷ append_at ls n xs

-- the lists, each with what a function gives for its place at its end
abbrev pub each_grew : {A : Type 0} → List (List A) → (ℕ → List A) → List (List A)
each_grew [] f = []
each_grew (l ∷ ls) f = (l ++ f 0) ∷ each_grew ls (λ p. f (suc p))

-- what the function gives for the places below n
abbrev pub upto : {A : Type 0} → ℕ → (ℕ → List A) → ℕ → List A
upto n f q = if nat_lt q n then f q else []
