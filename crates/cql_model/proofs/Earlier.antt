-- Lists whose elements stand with those before them.
use Rattle.std.proofs.Common.{◌≡◌, List, [], ◌∷◌, ◌++◌, map, refl, sym, ap, ◌∙◌, append_assoc}
use Rattle.std.proofs.lemmas.List.{append-nil}
use Rattle.std.proofs.lemmas.Simd.{map-map}
use Rattle.cql_model.specs.Places.{with_earlier}

-- the elements of a list that stands behind others
pub behind : {A : Type 0} → List A → List A → List (List A × A)
behind past xs = map (λ e. (past ++ e.0, e.1)) (with_earlier xs)

pub map-same : {A B : Type 0} (f g : A → B) → ((x : A) → f x ≡ g x) → (xs : List A) → map f xs ≡ map g xs
map-same f g e [] = refl
map-same f g e (x ∷ xs) = ap (λ y. y ∷ map f xs) (e x) ∙ ap (λ l. g x ∷ l) (map-same f g e xs)

-- of nothing before them
pub behind-none : {A : Type 0} (xs : List A) → behind [] xs ≡ with_earlier xs
unfolding behind
behind-none {A = A} xs = same (with_earlier xs) where
  same : (es : List (List A × A)) → map (λ e. ([] ++ e.0, e.1)) es ≡ es
  same [] = refl
  same (e ∷ es) = ap (λ l. e ∷ l) (same es)

-- nothing stands behind the last element
pub behind-nil : {A : Type 0} (past : List A) → behind past [] ≡ []
unfolding behind
behind-nil past = refl

-- one by one
pub behind-cons : {A : Type 0} (past : List A) (x : A) (xs : List A) → behind past (x ∷ xs) ≡ (past, x) ∷ behind (past ++ x ∷ []) xs
unfolding behind
behind-cons {A = A} past x xs =
    ap (λ (l : List A). (l, x) ∷ map (λ e. (past ++ e.0, e.1)) (map (λ e. (x ∷ e.0, e.1)) (with_earlier xs))) (append-nil past)
    ∙ ap (λ l. (past, x) ∷ l) (map-map (λ (e : List A × A). (past ++ e.0, e.1)) (λ (e : List A × A). (x ∷ e.0, e.1)) (with_earlier xs)
    ∙ map-same (λ (e : List A × A). (past ++ (x ∷ e.0), e.1)) (λ (e : List A × A). ((past ++ x ∷ []) ++ e.0, e.1))
    (λ e. ap (λ (l : List A). (l, e.1)) (sym (append_assoc past (x ∷ []) e.0))) (with_earlier xs))
