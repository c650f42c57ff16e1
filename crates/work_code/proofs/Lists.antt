-- Lists that are gone over one element at a time.
use Rattle.std.proofs.Common.{◌≡◌, ℕ, suc, ◌+◌, ◌<◌, ◌≤◌, List, [], ◌∷◌, length, drop, map, get_or, sym, ap, ◌∙◌}
use Rattle.std.proofs.Common.{add-one, drop-cons}
use Rattle.std.proofs.lemmas.List.{map_more, map-append, drop_all}

pub ruleset copies = (map_more, map-append)

-- what is seen of the element at a place, and of those after it
pub at_place : {A B : Type 0} (f : A → B) (items : List A) (i : ℕ) (x : A) → i < length items → x ≡ get_or items i x
    → map f (drop i items) ≡ f x ∷ map f (drop (i + 1) items)
at_place f items i x lt e = ap (map f) (drop-cons items i x lt ∙ ap (λ y. y ∷ drop (suc i) items) (sym e) ∙ ap (λ k. x ∷ drop k items) (sym (add-one i)))

-- no element is left
pub none_left : {A B : Type 0} (f : A → B) (items : List A) (i : ℕ) → length items ≤ i → map f (drop i items) ≡ []
none_left f items i h = ap (map f) (drop_all i items h)
