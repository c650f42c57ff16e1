-- Names, and how often they stand in lists.
use Rattle.std.proofs.lemmas.Bool.Decides.{nat_tests}
use borrow.Author.Tests.{ltb-true}
use Rattle.std.proofs.lemmas.List.{take_more, append-nil}
use Rattle.std.proofs.Common.{zero, suc, IsTrue, not, length, take, get_or, ◌≡◌, ℕ, ◌+◌, ◌<◌, ◌⊎◌, inl, inr, Bool, true, false, List, [], ◌∷◌, ◌++◌, refl, sym}
use Rattle.std.proofs.Common.{ap, ◌∙◌, ◌≤◌, subst, arith, ⊎_elim, append_assoc}
use Rattle.std.specs.Prelude.{if◌then◌else◌, nat_lt, fold}
use Rattle.std.specs.List.{list_any}
use Rattle.std.proofs.lemmas.Bool.{cases_eq, cases_Bool}
use Rattle.river_base.specs.Name.{name_eq}
use Rattle.river_base.proofs.PlaceLemmas.{if_lt, if_ge}
use Rattle.river_plan.specs.Forms.{Name}
use Rattle.river_plan.specs.Names.{one_if, count, with_name}

-- a name is equal to itself
pub name_same : (a : Name) → name_eq a a ≡ true
name_same [] = refl
name_same (x ∷ xs) = let e = name_same xs in grind (arith, e)

-- names that are found equal are equal
pub name_is : (a b : Name) → name_eq a b ≡ true → a ≡ b
name_is [] [] h = refl
name_is [] (y ∷ ys) h = absurd (cc h)
name_is (x ∷ xs) [] h = absurd (cc h)
name_is (x ∷ xs) (y ∷ ys) h =
    ⊎_elim
    (λ e. let t : name_eq xs ys ≡ true = grind (arith, e, h) in ap (λ z. z ∷ xs) e ∙ ap (λ zs. y ∷ zs) (name_is xs ys t))
    (λ n. absurd (let t : false ≡ true = grind (arith, n, h) in cc t))
    (cases_eq x y)

-- true is not false
pub true_false : true ≡ false → ⊥
true_false h = cc h

-- two names are one or not
pub cases_name : (a b : Name) → ((a ≡ b) × (name_eq a b ≡ true)) ⊎ ((a ≡ b → ⊥) × (name_eq a b ≡ false))
cases_name a b = ⊎_elim
    (λ t. inl (name_is a b t, t))
    (λ f. inr ((λ e. true_false (sym (subst (λ c. name_eq a c ≡ true) e (name_same a)) ∙ f)), f))
    (cases_Bool (name_eq a b))

-- the test for equal names is symmetric
pub name_sym : (a b : Name) → name_eq a b ≡ name_eq b a
name_sym a b = ⊎_elim
    (λ c. c.1 ∙ sym (subst (λ x. name_eq x a ≡ true) c.0 (name_same a)))
    (λ c. ⊎_elim (λ d. absurd (c.0 (sym d.0))) (λ d. c.1 ∙ sym d.1) (cases_name b a))
    (cases_name a b)

-- how often a name stands in two lists
pub count-append : (q : Name) (xs ys : List Name) → count q (xs ++ ys) ≡ count q xs + count q ys
count-append q [] ys = omega arith
count-append q (x ∷ xs) ys = let e = count-append q xs ys in omega (arith, e)

-- a name counts once against itself
pub one_same : (a : Name) → one_if (name_eq a a) ≡ 1
one_same a = ap one_if (name_same a)

-- a name is in a list where it stands there at least once
pub any-count : (k : Name) (ws : List Name) → list_any (name_eq k) ws ≡ nat_lt 0 (count k ws)
any-count k [] = refl
any-count k (w ∷ ws) = ⊎_elim
    (λ c. let e = ap one_if (name_sym w k ∙ c.1) in let f = any-count k ws in grind (arith, e, f, c.1))
    (λ c. let e = ap one_if (name_sym w k ∙ c.1) in let f = any-count k ws in grind (arith, e, f, c.1))
    (cases_name k w)

-- a name is found in a set exactly where it was put there
pub member-count : (k : Name) (ws keys : List Name) (r : Bool) → keys ≡ ws → r ≡ list_any (name_eq k) keys
    → (IsTrue r → 0 < count k ws) × (0 < count k ws → IsTrue r)
member-count k ws keys r v h =
    let e : r ≡ nat_lt 0 (count k ws) = h ∙ ap (λ l. list_any (name_eq k) l) v ∙ any-count k ws in
    rw e (grind (arith, nat_tests))

-- a name is new to a set exactly where it was not put there
pub fresh-count : (k : Name) (ws keys : List Name) (r : Bool) → keys ≡ ws → r ≡ not (list_any (name_eq k) keys)
    → (IsTrue r → count k ws ≡ 0) × (count k ws ≡ 0 → IsTrue r)
fresh-count k ws keys r v h =
    let e : r ≡ not (nat_lt 0 (count k ws)) = h ∙ ap (λ l. not (list_any (name_eq k) l)) v ∙ ap not (any-count k ws) in
    rw e (grind (arith, nat_tests))

-- putting a name into a set is adding it, where it is new
pub with_name-is : (k : Name) (ws keys new : List Name) → keys ≡ ws → new ≡ (if list_any (name_eq k) keys then keys else keys ++ k ∷ []) → new ≡ with_name ws k
with_name-is k ws keys new v h = h ∙ ap (λ l. if list_any (name_eq k) l then l else l ++ k ∷ []) v ∙ ap (λ b. if b then ws else ws ++ k ∷ []) (any-count k ws)

-- what is not above 0 is 0
pub nat_zero : {n : ℕ} → (0 < n → ⊥) → n ≡ 0
nat_zero {n = n} h = omega (arith, h)

-- false is not true
pub not_false : IsTrue false → ⊥
not_false h = cc h

-- a number is above 0 or 0
pub more_or_zero : (n : ℕ) → (0 < n) ⊎ (n ≡ 0)
more_or_zero zero = inr refl
more_or_zero (suc n) = inl (omega arith)

-- a name that is not there yet comes behind the others
pub with_name-new : (ws : List Name) (w : Name) → count w ws ≡ 0 → with_name ws w ≡ ws ++ w ∷ []
with_name-new ws w z = by (nat_lt 0 (count w ws)) refl
  where
    by : (b : Bool) → nat_lt 0 (count w ws) ≡ b → (if b then ws else ws ++ w ∷ []) ≡ ws ++ w ∷ []
    by true t = absurd (let lt = ltb-true 0 (count w ws) t in omega (arith, z, lt))
    by false t = refl

-- a loop that adds names of which none stood before: its step
pub new-next : (xs : List Name) (i : ℕ) (x : Name) (set set' : List Name) → i < length xs → x ≡ get_or xs i x → count x set ≡ 0 → set' ≡ with_name set x
    → set ≡ take i xs → set' ≡ take (i + 1) xs
new-next xs i x set set' lt e z n h =
    n ∙ with_name-new set x z ∙ ap (λ l. l ++ x ∷ []) h ∙ ap (λ y. take i xs ++ y ∷ []) e ∙ sym (take_more xs i x lt)

-- names that are there stay
pub there_stays : (seen rs : List Name) → ((z : Name) → 0 < count z rs → 0 < count z seen) → fold with_name seen rs ≡ seen
there_stays seen [] h = refl
there_stays seen (r ∷ rs) h =
    ap (λ s. fold with_name s rs) (if_lt 0 (count r seen) seen (seen ++ r ∷ []) (h r (let o = one_same r in omega (arith, o))))
    ∙ there_stays seen rs (λ z lt. h z (omega (arith, lt)))

-- and new ones come behind them
pub all_new : (seen vs : List Name) → ((z : Name) → count z seen + count z vs ≤ 1) → fold with_name seen vs ≡ seen ++ vs
all_new seen [] once = sym (append-nil seen)
all_new seen (v ∷ vs) once =
    ap (λ s. fold with_name s vs) (if_ge 0 (count v seen) seen (seen ++ v ∷ []) (let o = one_same v in let b = once v in omega (arith, o, b)))
    ∙ all_new (seen ++ v ∷ []) vs (λ z. let c = count-append z seen (v ∷ []) in let b = once z in omega (arith, c, b))
    ∙ append_assoc seen (v ∷ []) vs

-- a name counts once at most at one place
pub one_small : (b : Bool) → one_if b ≤ 1
one_small true = omega arith
one_small false = omega arith
