-- The names that are made are names.
use Rattle.std.proofs.Common.{◌≡◌, ℕ, ◌+◌, ◌%◌, ◌^◌, ◌<◌, ◌≤◌, true, List, [], ◌∷◌, ◌++◌, length, refl, ◌∙◌, arith, length-append}
use Rattle.std.specs.Prelude.{codes}
use Rattle.std.specs.List.{list_all}
use Rattle.std.specs.Fmt.{decimal}
use Rattle.std.proofs.lemmas.Fmt.{decimal_by_steps, length-decimal-le}
use Rattle.std.proofs.lemmas.List.Folds.{list_all-append}
use Rattle.std.proofs.lemmas.Nat.{mod_below}
use Rattle.std.proofs.lemmas.Bool.Decides.{nat_tests}
use Rattle.std.proofs.lemmas.Bool.{and_from, le-leb}
use Rattle.river_base.specs.Name.{is_letter, is_digit, is_word, is_name}
use Rattle.streamit_model.specs.Plan.{numbered}

one_digit : (c : ℕ) → 48 ≤ c → c ≤ 57 → is_word c ≡ true
unfolding is_word is_letter is_digit
one_digit c a b = grind (arith, nat_tests, a, b)

digit_goes : (d : ℕ) → d < 10 → is_word (48 + d) ≡ true
digit_goes d lt = one_digit (48 + d) (omega arith) (omega (arith, lt))

-- the digits of a number may stand behind the first letter of a name
pub decimal_goes : (n : ℕ) → n < 2 ^ 64 → list_all is_word (decimal n) ≡ true
decimal_goes n lt = decimal_by_steps (λ k ds. list_all is_word ds ≡ true)
    (λ k small. and_from (is_word (48 + k)) true (digit_goes k small) refl)
    (λ k ds le e. list_all-append is_word ds ((48 + k % 10) ∷ [])
    ∙ and_from (list_all is_word ds) (list_all is_word ((48 + k % 10) ∷ [])) e
    (and_from (is_word (48 + k % 10)) true (digit_goes (k % 10) (mod_below k 10 (omega arith))) refl))
    n lt

-- a name of at most 60 bytes, with a number of at most three digits behind it
pub numbered_name : (b : ℕ) (bs : List ℕ) (k : ℕ) → is_letter b ≡ true → list_all is_word bs ≡ true → length bs ≤ 59 → k < 1000
    → is_name (numbered (b ∷ bs) k) ≡ true
unfolding is_word is_letter is_digit
numbered_name b bs k s g len lt =
    let d = decimal_goes k (omega (arith, lt)) in
    let l = length-decimal-le 3 k (omega arith) lt (omega (arith, lt)) in
    let all : list_all is_word (bs ++ (codes "@" ++ decimal k)) ≡ true = list_all-append is_word bs (codes "@" ++ decimal k)
    ∙ and_from (list_all is_word bs) (list_all is_word (decimal k)) g d in
    let few : length (bs ++ (codes "@" ++ decimal k)) ≤ 63 = (let a = length-append bs (codes "@" ++ decimal k) in omega (arith, a, l, len)) in
    and_from (is_letter b) _ s (and_from (list_all is_word (bs ++ (codes "@" ++ decimal k))) _ all (le-leb (length (bs ++ (codes "@" ++ decimal k))) 63 few))
