-- Rows that leave at the front.
use Rattle.std.proofs.Common.{◌≡◌, ◌<◌, ℤ, List, [], ◌∷◌, ◌++◌, length, map, drop, get_or, refl, sym, ap, ◌∙◌, arith, append_assoc}
use Rattle.std.proofs.lemmas.List.{append-nil, map-append}
use Rattle.kern_bags.specs.Kept.{Stamped}
use Rattle.kern_bags.specs.Following.{LetGo}

-- no row has left
pub none_left : (es : List Stamped) (g : List (List ℤ)) → LetGo es es g g
none_left es g = record { left = []; parts = refl; rows = sym (append-nil g) }

first_and_rest : (es : List Stamped) (e : Stamped) → 0 < length es → e ≡ get_or es 0 e → es ≡ e ∷ drop 1 es
first_and_rest [] e lt is = absurd (omega (arith, lt))
first_and_rest (x ∷ xs) e lt is = ap (λ y. y ∷ xs) (sym is)

-- the first row has
pub first_left : (es rest : List Stamped) (g g' : List (List ℤ)) (e : Stamped) → 0 < length es → e ≡ get_or es 0 e → rest ≡ drop 1 es → g' ≡ g ++ e.1 ∷ []
    → LetGo es rest g g'
first_left es rest g g' e lt is r h = record { left = e ∷ []; parts = first_and_rest es e lt is ∙ ap (λ l. e ∷ l) (sym r); rows = h }

-- some have, and then others
pub more_left : (start now next : List Stamped) (g g' g'' : List (List ℤ)) → LetGo start now g g' → LetGo now next g' g'' → LetGo start next g g''
more_left start now next g g' g'' a b = record {
  left = a.left ++ b.left;
  parts = a.parts ∙ ap (λ l. a.left ++ l) b.parts ∙ sym (append_assoc a.left b.left next);
  rows =
      b.rows ∙ ap (λ l. l ++ map (λ (e : Stamped). e.1) b.left) a.rows ∙ append_assoc g (map (λ (e : Stamped). e.1) a.left) (map (λ (e : Stamped). e.1) b.left)
      ∙ ap (λ l. g ++ l) (sym (map-append (λ (e : Stamped). e.1) a.left b.left));
}
