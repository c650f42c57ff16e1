-- Numbers that are limited: lists that are joined, sums, and statements that are counted.
use Rattle.std.proofs.Common.{◌≡◌, ℕ, ◌+◌, ◌^◌, ◌<◌, Bool, true, false, List, [], ◌∷◌, ◌++◌, Option, Some, None, length, take, get_or, refl, sym, ap, ◌∙◌}
use Rattle.std.proofs.Common.{arith, map, nat_lt}
use Rattle.std.specs.Prelude.{ℤ, if◌then◌else◌}
use Rattle.std.proofs.lemmas.Bool.Decides.{nat_tests}
use Rattle.std.proofs.lemmas.List.{take_more, map-append}
use Rattle.work_code.specs.declared.code.Stmt.{Stmt}
use Rattle.work_code.specs.Steps.{Step, step, in_turn}
use Rattle.river_base.specs.Number.{count_of}
use Rattle.river_kernels.specs.Limits.{told, either, first_above, size_once, size, weight_sum}

pub first_above-front : (most n : ℕ) (xs ys : List ℕ) → first_above most xs ≡ Some n → first_above most (xs ++ ys) ≡ Some n
first_above-front most n [] ys h = absurd (cc h)
first_above-front most n (x ∷ xs) ys h = by_case (nat_lt most x) refl (λ g. first_above-front most n xs ys g)
  where
    by_case : (b : Bool) → nat_lt most x ≡ b → (first_above most xs ≡ Some n → first_above most (xs ++ ys) ≡ Some n)
        → (if nat_lt most x then Some (told x) else first_above most (xs ++ ys)) ≡ Some n
    by_case true e go =
        ap (λ c. if c then Some (told x) else first_above most (xs ++ ys)) e ∙ sym (ap (λ c. if c then Some (told x) else first_above most xs) e) ∙ h
    by_case false e go =
        ap (λ c. if c then Some (told x) else first_above most (xs ++ ys)) e ∙ go (sym (ap (λ c. if c then Some (told x) else first_above most xs) e) ∙ h)

pub first_above-back : (most : ℕ) (xs ys : List ℕ) → first_above most xs ≡ None → first_above most (xs ++ ys) ≡ first_above most ys
first_above-back most [] ys h = refl
first_above-back most (x ∷ xs) ys h = by_case (nat_lt most x) refl (λ g. first_above-back most xs ys g)
  where
    by_case : (b : Bool) → nat_lt most x ≡ b → (first_above most xs ≡ None → first_above most (xs ++ ys) ≡ first_above most ys)
        → (if nat_lt most x then Some (told x) else first_above most (xs ++ ys)) ≡ first_above most ys
    by_case true e go = absurd (let f : Some (told x) ≡ None = sym (ap (λ c. if c then Some (told x) else first_above most xs) e) ∙ h in cc f)
    by_case false e go =
        ap (λ c. if c then Some (told x) else first_above most (xs ++ ys)) e ∙ go (sym (ap (λ c. if c then Some (told x) else first_above most xs) e) ∙ h)

-- a number that is told is above where the number is
pub above-told : (most n : ℕ) → most < 2 ^ 64 → first_above most (told n ∷ []) ≡ first_above most (n ∷ [])
above-told most n lt =
    let t : told (told n) ≡ told n = omega arith in
    let e : nat_lt most (told n) ≡ nat_lt most n = grind (arith, nat_tests) in
    ap (λ c. if c then Some (told (told n)) else None) e ∙ ap (λ y. if nat_lt most n then Some y else None) t

pub ruleset tellings = (above-told)

-- the first number above a limit in two lists
pub first_above-append : (most : ℕ) (xs ys : List ℕ) → first_above most (xs ++ ys) ≡ either (first_above most xs) (first_above most ys)
first_above-append most xs ys = by_case (first_above most xs) refl
  where
    by_case : (o : Option ℕ) → first_above most xs ≡ o → first_above most (xs ++ ys) ≡ either (first_above most xs) (first_above most ys)
    by_case None e = first_above-back most xs ys e ∙ sym (ap (λ p. either p (first_above most ys)) e)
    by_case (Some n) e = first_above-front most n xs ys e ∙ sym (ap (λ p. either p (first_above most ys)) e)

pub ruleset joins = (first_above-append)

pub weight_sum-append : (xs ys : List ℤ) → weight_sum (xs ++ ys) ≡ weight_sum xs + weight_sum ys
weight_sum-append [] ys = omega arith
weight_sum-append (x ∷ xs) ys = let e = weight_sum-append xs ys in omega (arith, e)

pub weight_sum-more : (xs : List ℤ) (i : ℕ) (d : ℤ) → i < length xs → weight_sum (take (i + 1) xs) ≡ weight_sum (take i xs) + count_of (get_or xs i d)
weight_sum-more xs i d lt = ap weight_sum (take_more xs i d lt) ∙ weight_sum-append (take i xs) (get_or xs i d ∷ []) ∙ (omega arith)

pub ruleset sums = (weight_sum-more)

pub size-append : (xs ys : List Step) → size (in_turn (xs ++ ys)) ≡ size (in_turn xs) + size (in_turn ys)
size-append [] ys = omega arith
size-append (x ∷ xs) ys = let e = size-append xs ys in omega (arith, e)

-- one more statement adds its own size
pub size-more : (xs : List Stmt) (i : ℕ) (d : Stmt) → i < length xs
    → size (in_turn (map step (take (i + 1) xs))) ≡ size (in_turn (map step (take i xs))) + size_once (step (get_or xs i d))
size-more xs i d lt =
    ap (λ l. size (in_turn (map step l))) (take_more xs i d lt) ∙ ap (λ l. size (in_turn l)) (map-append step (take i xs) (get_or xs i d ∷ []))
    ∙ size-append (map step (take i xs)) (step (get_or xs i d) ∷ []) ∙ (omega arith)

pub ruleset sizes = (size-more)
