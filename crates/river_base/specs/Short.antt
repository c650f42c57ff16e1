-- Lists of at most `cap` elements, kept at the front of an array that is filled up with z.
use Rattle.std.specs.Prelude.{◌≡◌, ℕ, ◌≤◌, ◌-◌, List, ◌++◌, length, take, drop, replicate}
use Rattle.std.proofs.Common.{arith, sym, ap, ◌∙◌}
use Rattle.std.proofs.lemmas.List.{length-take-le, take-append-drop}

-- the array that holds xs
abbrev pub padded : {X : Type 0} → ℕ → X → List X → List X
padded cap z xs = xs ++ replicate (cap - length xs) z

-- the first `len` values of the array are the list, and the others are z
pub record IsShort {X : Type 0} (cap : ℕ) (z : X) (len : ℕ) (values : List X) : Type 0 where
  pub at_most : len ≤ cap
  pub full : length values ≡ cap
  pub rest : drop len values ≡ replicate (cap - len) z

-- the fields are those that the list gives
pub rebuilt : {X A : Type 0} (cap : ℕ) (z : X) (f : ℕ → List X → A) (len : ℕ) (values : List X) → IsShort cap z len values
    → f (length (take len values)) (padded cap z (take len values)) ≡ f len values
rebuilt cap z f len values h =
    let fits : len ≤ length values = omega (arith, h.at_most, h.full) in
    let e : length (take len values) ≡ len = length-take-le _ _ fits in
    let v : padded cap z (take len values) ≡ values = ap (λ n. take len values ++ replicate (cap - n) z) e ∙ ap (λ t. take len values ++ t) (sym h.rest)
    ∙ take-append-drop len values in
    λ i. f (e i) (v i)
