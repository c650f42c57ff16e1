-- One element more, of a list of which each element gives something or has a fault.
use Rattle.std.proofs.Common.{◌≡◌, ℕ, ◌+◌, List, [], ◌∷◌, ◌++◌, length, refl, sym, ◌∙◌, ap, arith}
use Rattle.std.specs.Prelude.{Result, Ok, Err}
use Rattle.csv_streams.specs.Numbered.{before_later, numbered_results}

-- what the first element and the later ones gave
pub first_and_later : {B F : Type 0} → (r : Result B F) (later : Result (List B) F) (ys : List B) → before_later r later ≡ Ok ys
    → (y : B) × (zs : List B) × (r ≡ Ok y) × (later ≡ Ok zs) × (ys ≡ y ∷ zs)
first_and_later (Ok y) (Ok zs) ys e = let is : ys ≡ y ∷ zs = cc in (y, zs, refl, refl, is)
first_and_later (Ok y) (Err f) ys e = cc
first_and_later (Err f) later ys e = cc

abbrev given : {B F : Type 0} → List B → Result (List B) F
given ys = Ok ys

-- the element behind all others gives one more
pub numbered-push : {A B F : Type 0} (f : ℕ → A → Result B F) (n k : ℕ) (xs : List A) (x : A) (ys : List B) (y : B) → numbered_results f n xs ≡ Ok ys
    → n + length xs ≡ k → f k x ≡ Ok y → numbered_results f n (xs ++ x ∷ []) ≡ Ok (ys ++ y ∷ [])
numbered-push {A} {B} {F} f n k [] x ys y e at is =
    let none : [] ≡ ys = cc in
    let here : n ≡ k = omega (arith, at) in
    ap (λ (m : ℕ). before_later (f m x) (given [])) here ∙ ap (λ (r : Result B F). before_later r (given [])) is ∙ ap (λ (l : List B). given (l ++ y ∷ [])) none
numbered-push {A} {B} {F} f n k (a ∷ others) x ys y e at is =
    let (z, zs, first, later, parts) = first_and_later (f n a) (numbered_results f (n + 1) others) ys e in
    ap (λ (r : Result B F). before_later r (numbered_results f (n + 1) (others ++ x ∷ []))) first
    ∙ ap (λ (r : Result (List B) F). before_later (Ok z) r) (numbered-push f (n + 1) k others x zs y later (omega (arith, at)) is)
    ∙ ap (λ (l : List B). given (l ++ y ∷ [])) (sym parts)

-- the first fault, whatever follows
pub numbered-fault : {A B F : Type 0} (f : ℕ → A → Result B F) (n k : ℕ) (xs : List A) (x : A) (more : List A) (ys : List B) (fault : F)
    → numbered_results f n xs ≡ Ok ys → n + length xs ≡ k → f k x ≡ Err fault → numbered_results f n (xs ++ x ∷ more) ≡ Err fault
numbered-fault {A} {B} {F} f n k [] x more ys fault e at is =
    let here : n ≡ k = omega (arith, at) in
    ap (λ (m : ℕ). before_later (f m x) (numbered_results f (n + 1) more)) here ∙ ap (λ (r : Result B F). before_later r (numbered_results f (n + 1) more)) is
numbered-fault {A} {B} {F} f n k (a ∷ others) x more ys fault e at is =
    let (z, zs, first, later, parts) = first_and_later (f n a) (numbered_results f (n + 1) others) ys e in
    ap (λ (r : Result B F). before_later r (numbered_results f (n + 1) (others ++ x ∷ more))) first
    ∙ ap (λ (r : Result (List B) F). before_later (Ok z) r) (numbered-fault f (n + 1) k others x more zs fault later (omega (arith, at)) is)
