-- Loops that append what is made of each element.
use Rattle.std.proofs.Common.{◌≡◌, ℕ, ◌+◌, ◌<◌, List, [], ◌∷◌, ◌++◌, length, take, get_or, map, sym, ap, ◌∙◌, append_assoc}
use Rattle.std.proofs.lemmas.List.{map_more, map-append}
use Rattle.river_plan.specs.declared.op.Op.{Op}
use Rattle.river_plan.specs.Forms.{OpForm, op_form, op_forms}

-- one element more
pub map_next : {A B : Type 0} (f : A → B) (now new : List B) (xs : List A) (i : ℕ) (x : A) (y : B) → i < length xs → x ≡ get_or xs i x → y ≡ f x
    → new ≡ now ++ y ∷ []
    → now ≡ map f (take i xs) → new ≡ map f (take (i + 1) xs)
map_next f now new xs i x y lt e made h inv =
    h ∙ ap (λ l. l ++ y ∷ []) inv ∙ ap (λ z. map f (take i xs) ++ z ∷ []) (made ∙ ap f e) ∙ sym (map_more f xs i x lt)

-- the same behind a list that was there
pub map_next_behind : {A B : Type 0} (f : A → B) (start now new : List B) (xs : List A) (i : ℕ) (x : A) (y : B) → i < length xs → x ≡ get_or xs i x → y ≡ f x
    → new ≡ now ++ y ∷ [] → now ≡ start ++ map f (take i xs) → new ≡ start ++ map f (take (i + 1) xs)
map_next_behind f start now new xs i x y lt e made h inv =
    h ∙ ap (λ l. l ++ y ∷ []) inv ∙ append_assoc start (map f (take i xs)) (y ∷ [])
    ∙ ap (λ z. start ++ (map f (take i xs) ++ z ∷ [])) (made ∙ ap f e) ∙ ap (λ l. start ++ l) (sym (map_more f xs i x lt))

-- one operator more
pub op_next : {B : Type 0} (f : OpForm → B) (now new : List B) (xs : List Op) (i : ℕ) (x : Op) (y : B) → i < length xs → x ≡ get_or xs i x → y ≡ f (op_form x)
    → new ≡ now ++ y ∷ [] → now ≡ map f (op_forms (take i xs)) → new ≡ map f (op_forms (take (i + 1) xs))
op_next f now new xs i x y lt e made h inv =
    h ∙ ap (λ l. l ++ y ∷ []) inv ∙ ap (λ z. map f (op_forms (take i xs)) ++ z ∷ []) (made ∙ ap (λ z. f (op_form z)) e)
    ∙ sym (ap (map f) (map_more op_form xs i x lt) ∙ map-append f (op_forms (take i xs)) (op_form (get_or xs i x) ∷ []))
