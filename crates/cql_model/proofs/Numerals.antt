-- Numbers in names: no two are alike.
use Rattle.std.proofs.Common.{◌≡◌, ℕ, zero, suc, ◌+◌, ◌-◌, ◌*◌, ◌/◌, ◌%◌, ◌^◌, ◌<◌, ◌≤◌, true, false, List, []}
use Rattle.std.proofs.Common.{◌∷◌, ◌++◌, sym, ap, ◌∙◌, subst, arith, ⊎_elim, cond}
use Rattle.std.proofs.Common.{add-one}
use Rattle.std.specs.Prelude.{nat_lt, fold}
use Rattle.std.specs.Fmt.{decimal}
use Rattle.std.proofs.lemmas.Bool.{cases_lt}
use Rattle.std.proofs.lemmas.Fmt.{decimal_by_steps}
use Rattle.std.proofs.lemmas.Grind.{fold-append}
use Rattle.cql_model.specs.Numeral.{last_digits, numeral}

is_below : (n : ℕ) → n < 10 → nat_lt n 10 ≡ true
is_below n h = grind (arith, h)

not_below : (n : ℕ) → 10 ≤ n → nat_lt n 10 ≡ false
not_below n h = grind (arith, h)

one_digit : (k n : ℕ) → n < 10 → last_digits (suc k) n ≡ (48 + n) ∷ []
one_digit k n h = ap (λ b. cond b ((48 + n) ∷ []) (last_digits k (n / 10) ++ (48 + n % 10) ∷ [])) (is_below n h)

more_digits : (k n : ℕ) → 10 ≤ n → last_digits (suc k) n ≡ last_digits k (n / 10) ++ (48 + n % 10) ∷ []
more_digits k n h = ap (λ b. cond b ((48 + n) ∷ []) (last_digits k (n / 10) ++ (48 + n % 10) ∷ [])) (not_below n h)

-- more digits than there are change nothing
enough : (j k n : ℕ) → n < j → n < k → last_digits j n ≡ last_digits k n
enough zero k n a b = absurd (omega (arith, a))
enough (suc j) zero n a b = absurd (omega (arith, b))
enough (suc j) (suc k) n a b = ⊎_elim
    (λ lt. one_digit j n lt ∙ sym (one_digit k n lt))
    (λ le. more_digits j n le
    ∙ ap (λ l. l ++ (48 + n % 10) ∷ []) (enough j k (n / 10) (omega (arith, le, a)) (omega (arith, le, b))) ∙ sym (more_digits k n le))
    (cases_lt n 10)

pub numeral_digit : (n : ℕ) → n < 10 → numeral n ≡ (48 + n) ∷ []
unfolding numeral
numeral_digit n h = ap (λ k. last_digits k n) (add-one n) ∙ one_digit n n h

pub numeral_step : (n : ℕ) → 10 ≤ n → numeral n ≡ numeral (n / 10) ++ (48 + n % 10) ∷ []
unfolding numeral
numeral_step n h =
    ap (λ k. last_digits k n) (add-one n) ∙ more_digits n n h
    ∙ ap (λ l. l ++ (48 + n % 10) ∷ []) (enough n (n / 10 + 1) (n / 10) (omega (arith, h)) (omega arith))

module _ (P : ℕ → List ℕ → Type 0) (one : (n : ℕ) → n < 10 → P n ((48 + n) ∷ []))
    (more : (n : ℕ) (ds : List ℕ) → 10 ≤ n → P (n / 10) ds → P n (ds ++ (48 + n % 10) ∷ [])) where
  up_to : (k n : ℕ) → n ≤ k → P n (numeral n)
  up_to zero n le = subst (P n) (sym (numeral_digit n (omega (arith, le)))) (one n (omega (arith, le)))
  up_to (suc k) n le = ⊎_elim
      (λ lt. subst (P n) (sym (numeral_digit n lt)) (one n lt))
      (λ big. subst (P n) (sym (numeral_step n big)) (more n (numeral (n / 10)) big (up_to k (n / 10) (omega (arith, le, big)))))
      (cases_lt n 10)

  -- induction on the digits of a number
  pub by_steps : (n : ℕ) → P n (numeral n)
  by_steps n = up_to n n (omega arith)

-- a number of 64 bits is written as everywhere
pub numeral_decimal : (n : ℕ) → n < 2 ^ 64 → numeral n ≡ decimal n
numeral_decimal n lt =
    decimal_by_steps (λ m ds. numeral m ≡ ds) (λ m l. numeral_digit m l) (λ m ds l h. numeral_step m l ∙ ap (λ x. x ++ (48 + m % 10) ∷ []) h) n lt

-- what digits stand for
value : List ℕ → ℕ
value ds = fold (λ v d. v * 10 + (d - 48)) 0 ds

valued : (n : ℕ) → value (numeral n) ≡ n
unfolding value
valued n = by_steps (λ m ds. fold (λ v d. v * 10 + (d - 48)) 0 ds ≡ m) (λ m l. omega arith)
    (λ m ds l h. fold-append (λ (v d : ℕ). v * 10 + (d - 48)) 0 ds ((48 + m % 10) ∷ []) ∙ ap (λ v. v * 10 + (48 + m % 10 - 48)) h ∙ omega arith) n

-- two numbers that are written alike are the same
pub numeral_injective : (m n : ℕ) → numeral m ≡ numeral n → m ≡ n
numeral_injective m n e = sym (valued m) ∙ ap value e ∙ valued n
