-- Names that are found in a set as in a list.
use Rattle.std.proofs.Common.{◌≡◌, ℕ, ◌+◌, ◌<◌, ◌⊎◌, inl, inr, ⊎_elim, Bool, true, false, ◌||◌, List, [], ◌∷◌, ◌++◌, take, length, get_or, refl, sym, ap, subst, ◌∙◌, arith}
use Rattle.std.proofs.lemmas.Bool.{cases_eq, cases_Bool}
use Rattle.std.proofs.lemmas.List.{take_more}
use Rattle.std.proofs.lemmas.List.Folds.{list_any-append}
use Rattle.std.specs.Prelude.{if◌then◌else◌}
use Rattle.std.specs.List.{list_any}
use Rattle.river_base.specs.Name.{name_eq}
use Rattle.params_text.specs.Params.{is_one_of}
use Rattle.params_text.specs.Parameters.{Finds}

abbrev Name : Type 0
Name = List ℕ

name_same : (a : Name) → name_eq a a ≡ true
name_same [] = refl
name_same (x ∷ xs) = let e = name_same xs in grind (arith, e)

name_is : (a b : Name) → name_eq a b ≡ true → a ≡ b
name_is [] [] h = refl
name_is [] (y ∷ ys) h = absurd (cc h)
name_is (x ∷ xs) [] h = absurd (cc h)
name_is (x ∷ xs) (y ∷ ys) h =
    ⊎_elim
    (λ e. let t : name_eq xs ys ≡ true = grind (arith, e, h) in ap (λ z. z ∷ xs) e ∙ ap (λ zs. y ∷ zs) (name_is xs ys t))
    (λ n. absurd (let t : false ≡ true = grind (arith, n, h) in cc t))
    (cases_eq x y)

true_false : true ≡ false → ⊥
true_false h = cc h

cases_name : (a b : Name) → ((a ≡ b) × (name_eq a b ≡ true)) ⊎ ((a ≡ b → ⊥) × (name_eq a b ≡ false))
cases_name a b = ⊎_elim
    (λ t. inl (name_is a b t, t))
    (λ f. inr ((λ e. true_false (sym (subst (λ c. name_eq a c ≡ true) e (name_same a)) ∙ f)), f))
    (cases_Bool (name_eq a b))

-- whether two names are the same does not depend on their order
pub name_sym : (a b : Name) → name_eq a b ≡ name_eq b a
name_sym a b = ⊎_elim
    (λ c. c.1 ∙ sym (subst (λ x. name_eq x a ≡ true) c.0 (name_same a)))
    (λ c. ⊎_elim (λ d. absurd (c.0 (sym d.0))) (λ d. c.1 ∙ sym d.1) (cases_name b a))
    (cases_name a b)

or_false : (b : Bool) → b || false ≡ b
or_false true = refl
or_false false = refl

or_true : (b : Bool) → b || true ≡ true
or_true true = refl
or_true false = refl

-- a name is among two lists where it is among one of them
pub one_of_append : (a b : List Name) (n : Name) → is_one_of (a ++ b) n ≡ (is_one_of a n || is_one_of b n)
one_of_append [] b n = refl
one_of_append (k ∷ ks) b n = by (name_eq k n) (one_of_append ks b n)
  where
    by : (t : Bool) → is_one_of (ks ++ b) n ≡ (is_one_of ks n || is_one_of b n) → (t || is_one_of (ks ++ b) n) ≡ ((t || is_one_of ks n) || is_one_of b n)
    by true h = refl
    by false h = h

-- one name more
pub found_next : (keys keys' ps : List Name) (k : Name) → Finds keys ps → keys' ≡ (if list_any (name_eq k) keys then keys else keys ++ k ∷ [])
    → Finds keys' (ps ++ k ∷ [])
found_next keys keys' ps k f is n = by (list_any (name_eq k) keys) refl
  where
    behind : (c : Bool) → name_eq k n ≡ c → is_one_of (ps ++ k ∷ []) n ≡ (is_one_of ps n || c)
    behind c e = one_of_append ps (k ∷ []) n ∙ ap (λ b. is_one_of ps n || b) (or_false (name_eq k n) ∙ e)

    there : (b : Bool) → list_any (name_eq k) keys ≡ b → keys' ≡ (if b then keys else keys ++ k ∷ [])
    there b h = is ∙ ap (λ (b : Bool). if b then keys else keys ++ k ∷ []) h

    by : (b : Bool) → list_any (name_eq k) keys ≡ b → list_any (name_eq n) keys' ≡ is_one_of (ps ++ k ∷ []) n
    by true h =
        ap (list_any (name_eq n)) (there true h)
        ∙ ⊎_elim
        (λ c. subst (λ m. list_any (name_eq m) keys ≡ true) c.0 h ∙ sym (or_true (is_one_of ps n)) ∙ sym (behind true c.1))
        (λ c. f n ∙ sym (or_false (is_one_of ps n)) ∙ sym (behind false c.1))
        (cases_name k n)
    by false h =
        ap (list_any (name_eq n)) (there false h) ∙ list_any-append (name_eq n) keys (k ∷ [])
        ∙ (λ i. f n i || or_false (name_eq n k) i) ∙ ap (λ c. is_one_of ps n || c) (name_sym n k) ∙ sym (behind (name_eq k n) refl)

-- the set when so many names were put in
pub found_more : (keys keys' ns : List Name) (i : ℕ) (k : Name) → i < length ns → k ≡ get_or ns i k → Finds keys (take i ns)
    → keys' ≡ (if list_any (name_eq k) keys then keys else keys ++ k ∷ []) → Finds keys' (take (i + 1) ns)
found_more keys keys' ns i k lt e f is =
    subst (Finds keys') (ap (λ x. take i ns ++ x ∷ []) e ∙ sym (take_more ns i k lt)) (found_next keys keys' (take i ns) k f is)
