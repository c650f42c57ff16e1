-- Numbers in decimal digits with a dot behind them.
use Rattle.std.proofs.Common.{◌≡◌, ℕ, ◌<◌, ◌^◌, List, [], ◌∷◌, ◌++◌, false, cond, nat_eq, refl, ◌∙◌, ap, arith}
use Rattle.std.specs.Fmt.{decimal}
use Rattle.std.specs.Char.{digit_value}
use Rattle.std.specs.Str.Parse.{AllDigits, digits_value}
use Rattle.std.proofs.lemmas.Str.Parse.{digit_from_value}
use Rattle.std.proofs.lemmas.Fmt.{decimal_is_IsNumeral}

-- what stands before the first dot, and behind it
abbrev pub before_dot : List ℕ → List ℕ
before_dot [] = []
before_dot (c ∷ cs) = cond (nat_eq c 46) [] (c ∷ before_dot cs)

abbrev pub after_dot : List ℕ → List ℕ
after_dot [] = []
after_dot (c ∷ cs) = cond (nat_eq c 46) cs (after_dot cs)

no_dot : (c : ℕ) → digit_value c < 10 → nat_eq c 46 ≡ false
no_dot c d = let r = digit_from_value c d in grind arith

-- digits have no dot
before-digits : (ds rest : List ℕ) → AllDigits 10 ds → before_dot (ds ++ 46 ∷ rest) ≡ ds
before-digits [] rest all = refl
before-digits (c ∷ cs) rest all = rw (no_dot c all.0) (ap (λ (o : List ℕ). c ∷ o) (before-digits cs rest all.1))

after-digits : (ds rest : List ℕ) → AllDigits 10 ds → after_dot (ds ++ 46 ∷ rest) ≡ rest
after-digits [] rest all = refl
after-digits (c ∷ cs) rest all = rw (no_dot c all.0) (after-digits cs rest all.1)

-- the number whose digits these are
pub value-decimal : (n : ℕ) → n < 2 ^ 64 → digits_value 10 (decimal n) ≡ n
value-decimal n fits = (decimal_is_IsNumeral n fits).1

-- the number before the dot
pub value-before : (n : ℕ) (rest : List ℕ) → n < 2 ^ 64 → digits_value 10 (before_dot (decimal n ++ 46 ∷ rest)) ≡ n
value-before n rest fits = ap (digits_value 10) (before-digits (decimal n) rest (decimal_is_IsNumeral n fits).0.1) ∙ value-decimal n fits

-- what stands behind it
pub rest-after : (n : ℕ) (rest : List ℕ) → n < 2 ^ 64 → after_dot (decimal n ++ 46 ∷ rest) ≡ rest
rest-after n rest fits = after-digits (decimal n) rest (decimal_is_IsNumeral n fits).0.1
