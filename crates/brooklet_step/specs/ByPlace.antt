-- What comes to queues by their places.
use Rattle.std.specs.Prelude.{ℕ, suc, List, [], ◌∷◌, ◌++◌, nat_eq, if◌then◌else◌}

-- what the lists that these places stand for give to a place, joined
abbrev pub joined_at : {A : Type 0} → List ℕ → (ℕ → List A) → ℕ → List A
joined_at [] f q = []
joined_at (w ∷ ws) f q = (if nat_eq w q then f 0 else []) ++ joined_at ws (λ j. f (suc j)) q
