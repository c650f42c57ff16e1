-- Searches along a list, one element at a time.
use Rattle.std.proofs.Common.{◌≡◌, ℕ, ◌+◌, ◌<◌, ◌≤◌, List, [], ◌∷◌, ◌++◌, Option, Some, None, length, take, drop, get_or, map, refl, sym, ap, subst, inl, inr}
use Rattle.std.proofs.Common.{◌∙◌, arith}
use Rattle.std.proofs.lemmas.List.{take_more, drop_more, drop_all, length-take-le, get_or_default}
use Rattle.river_base.proofs.Lists.{map_more, map_next}
use Rattle.river_plan.specs.First.{OrElse, Unless, Along, IsFirst}

-- what is found from place i on is what is found in the whole list
pub record Remains {A B : Type 0} (s : List A → A → Option B → Type 0) (xs : List A) (i : ℕ) : Type 0 where
  pub rest : (o : Option B) → Along s (take i xs) (drop i xs) o → Along s [] xs o

-- at the beginning all is left to search
pub remains-start : {A B : Type 0} (s : List A → A → Option B → Type 0) (xs : List A) → Remains s xs 0
remains-start s xs = record { rest = λ o h. h }

-- the search found nothing at this place
pub remains-next : {A B : Type 0} (s : List A → A → Option B → Type 0) (xs : List A) (i : ℕ) (x : A) → i < length xs → x ≡ get_or xs i x → s (take i xs) x None
    → Remains s xs i → Remains s xs (i + 1)
remains-next {B = B} s xs i x lt e n r = record {
  rest = λ o h. r.rest o (subst (λ l. Along s (take i xs) l o) (sym (drop_more xs i x lt ∙ ap (λ y. y ∷ drop (i + 1) xs) (sym e)))
      (skipped o (subst (λ l. Along s l (drop (i + 1) xs) o) (take_more xs i x lt ∙ ap (λ y. take i xs ++ y ∷ []) (sym e)) h)));
}
  where
    skipped : (o : Option B) → Along s (take i xs ++ x ∷ []) (drop (i + 1) xs) o → OrElse (s (take i xs) x) (Along s (take i xs ++ x ∷ []) (drop (i + 1) xs)) o
    skipped None h = (n, h)
    skipped (Some b) h = inr (n, h)

-- the search found this at this place
pub remains-found : {A B : Type 0} (s : List A → A → Option B → Type 0) (xs : List A) (i : ℕ) (x : A) (b : B) → i < length xs → x ≡ get_or xs i x
    → s (take i xs) x (Some b) → Remains s xs i → Along s [] xs (Some b)
remains-found s xs i x b lt e f r =
    r.rest (Some b) (subst (λ l. Along s (take i xs) l (Some b)) (sym (drop_more xs i x lt ∙ ap (λ y. y ∷ drop (i + 1) xs) (sym e))) (inl f))

-- nothing is left
pub remains-end : {A B : Type 0} (s : List A → A → Option B → Type 0) (xs : List A) (i : ℕ) → length xs ≤ i → Remains s xs i → Along s [] xs None
remains-end s xs i le r = r.rest None (subst (λ l. Along s (take i xs) l None) (sym (drop_all i xs le)) tt)

-- the same where what is sought is said of places: what holds at this place is not found, and what does not is
pub remains_at-next : {A : Type 0} (P : ℕ → Type 0) (xs : List A) (i : ℕ) (x : A) → i < length xs → P i
    → Remains (λ before y. Unless (P (length before)) y) xs i → Remains (λ before y. Unless (P (length before)) y) xs (i + 1)
remains_at-next P xs i x lt p r =
    remains-next (λ before y. Unless (P (length before)) y) xs i (get_or xs i x) lt (get_or_default xs i x (get_or xs i x) lt)
    (subst P (sym (length-take-le i xs (omega (arith, lt)))) p) r

-- what is found is the first of its kind
pub remains_at-found : {A : Type 0} (P : ℕ → Type 0) (xs : List A) (i : ℕ) (x : A) → i < length xs → x ≡ get_or xs i x → (P i → ⊥)
    → Remains (λ before y. Unless (P (length before)) y) xs i → IsFirst (λ before y. P (length before)) xs (Some x)
remains_at-found P xs i x lt e n r =
    remains-found (λ before y. Unless (P (length before)) y) xs i x x lt e ((λ p. n (subst P (length-take-le i xs (omega (arith, lt))) p)), refl) r

-- the same along a list of which each element is seen under f
pub record RemainsBy {A B C : Type 0} (f : C → A) (s : List A → A → Option B → Type 0) (xs : List C) (i : ℕ) : Type 0 where
  pub rest : (o : Option B) → Along s (map f (take i xs)) (map f (drop i xs)) o → Along s [] (map f xs) o

-- at the beginning all is left to search, through a map
pub remains_by-start : {A B C : Type 0} (f : C → A) (s : List A → A → Option B → Type 0) (xs : List C) → RemainsBy f s xs 0
remains_by-start f s xs = record { rest = λ o h. h }

-- nothing was found here: the search goes on
pub remains_by-next : {A B C : Type 0} (f : C → A) (s : List A → A → Option B → Type 0) (xs : List C) (i : ℕ) (x : C) → i < length xs → x ≡ get_or xs i x
    → s (map f (take i xs)) (f x) None → RemainsBy f s xs i → RemainsBy f s xs (i + 1)
remains_by-next {B = B} f s xs i x lt e n r = record {
  rest = λ o h. r.rest o (subst (λ l. Along s (map f (take i xs)) l o) (sym (map_next f xs i x lt e))
      (skipped o (subst (λ l. Along s l (map f (drop (i + 1) xs)) o) (map_more f xs i x lt e) h)));
}
  where
    skipped : (o : Option B) → Along s (map f (take i xs) ++ f x ∷ []) (map f (drop (i + 1) xs)) o
        → OrElse (s (map f (take i xs)) (f x)) (Along s (map f (take i xs) ++ f x ∷ []) (map f (drop (i + 1) xs))) o
    skipped None h = (n, h)
    skipped (Some b) h = inr (n, h)

-- what is found is the first
pub remains_by-found : {A B C : Type 0} (f : C → A) (s : List A → A → Option B → Type 0) (xs : List C) (i : ℕ) (x : C) (b : B) → i < length xs
    → x ≡ get_or xs i x → s (map f (take i xs)) (f x) (Some b) → RemainsBy f s xs i → Along s [] (map f xs) (Some b)
remains_by-found f s xs i x b lt e g r =
    r.rest (Some b) (subst (λ l. Along s (map f (take i xs)) l (Some b)) (sym (map_next f xs i x lt e)) (inl g))

-- nothing was found
pub remains_by-end : {A B C : Type 0} (f : C → A) (s : List A → A → Option B → Type 0) (xs : List C) (i : ℕ) → length xs ≤ i → RemainsBy f s xs i
    → Along s [] (map f xs) None
remains_by-end f s xs i le r = r.rest None (subst (λ l. Along s (map f (take i xs)) l None) (sym (ap (map f) (drop_all i xs le))) tt)
