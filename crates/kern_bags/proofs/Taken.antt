-- One element more of a list that a loop goes over.
use Rattle.std.proofs.Common.{◌≡◌, ◌<◌, ◌+◌, ℕ, List, [], ◌∷◌, ◌++◌, length, get_or, take, sym, ap, ◌∙◌}
use Rattle.std.specs.Prelude.{flat_map}
use Rattle.std.proofs.lemmas.List.{take_more, append-nil}
use Rattle.std.proofs.lemmas.List.Concat.{flat_map-append}

-- the pairs of one row more
pub join_next : {A B : Type 0} (f : A → List B) (xs : List A) (n : ℕ) (x : A) (old new : List B) → n < length xs → x ≡ get_or xs n x
    → old ≡ flat_map f (take n xs) → new ≡ old ++ f x → new ≡ flat_map f (take (n + 1) xs)
join_next f xs n x old new lt is o e =
    e ∙ ap (λ l. l ++ f x) o ∙ ap (λ y. flat_map f (take n xs) ++ f y) is
    ∙ ap (λ l. flat_map f (take n xs) ++ l) (sym (append-nil (f (get_or xs n x))))
    ∙ sym (flat_map-append f (take n xs) (get_or xs n x ∷ [])) ∙ ap (flat_map f) (sym (take_more xs n x lt))
