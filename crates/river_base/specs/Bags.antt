-- Lists as bags: what does not depend on the order of the elements.
use Rattle.std.specs.Prelude.{◌≡◌, Bool, List, [], ◌∷◌, if◌then◌else◌, fold, count_by}

-- the lists are one bag: each test passes as many elements of both
abbrev pub SameBag : {K : Type 0} → List K → List K → Type 0
SameBag {K} xs ys = (test : K → Bool) → count_by test xs ≡ count_by test ys

-- x before the first element that is greater. `lt` is a strict order
abbrev pub put_in_order : {K : Type 0} → (K → K → Bool) → K → List K → List K
put_in_order lt x [] = x ∷ []
put_in_order lt x (y ∷ ys) = if lt y x then y ∷ put_in_order lt x ys else x ∷ (y ∷ ys)

-- the elements in ascending order
abbrev pub ascending : {K : Type 0} → (K → K → Bool) → List K → List K
ascending lt xs = fold (λ done x. put_in_order lt x done) [] xs
