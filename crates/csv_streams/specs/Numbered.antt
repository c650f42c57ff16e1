-- Lists of which each element, numbered, gives something or has a fault.
use Rattle.std.specs.Prelude.{ℕ, ◌+◌, List, [], ◌∷◌, Result, Ok, Err}

-- what an element gave before what the later ones gave; its own fault comes first
abbrev pub before_later : {B F : Type 0} → Result B F → Result (List B) F → Result (List B) F
before_later (Ok x) (Ok xs) = Ok (x ∷ xs)
before_later (Ok x) (Err fault) = Err fault
before_later (Err fault) later = Err fault

-- what f gives for each element, in order, or the fault of the first that has one; the elements are numbered on from n
abbrev pub numbered_results : {A B F : Type 0} → (ℕ → A → Result B F) → ℕ → List A → Result (List B) F
numbered_results f n [] = Ok []
numbered_results f n (x ∷ xs) = before_later (f n x) (numbered_results f (n + 1) xs)
