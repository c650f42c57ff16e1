-- The names that are made are names.
use Rattle.std.proofs.Common.{◌≡◌, ℕ, ◌+◌, ◌%◌, ◌^◌, ◌<◌, ◌≤◌, true, List, [], ◌∷◌, ◌++◌, length, refl, sym, ap, ◌∙◌, subst, arith, length-append}
use Rattle.std.specs.Prelude.{codes, ◌&&◌, nat_le}
use Rattle.std.specs.List.{list_all}
use Rattle.std.specs.Fmt.{decimal}
use Rattle.std.proofs.lemmas.Fmt.{decimal_by_steps, length-decimal-le}
use Rattle.std.proofs.lemmas.List.Folds.{list_all-append}
use Rattle.std.proofs.lemmas.Nat.{mod_below}
use Rattle.std.proofs.lemmas.Bool.{and_from, and_parts, true≢false}
use Rattle.std.proofs.lemmas.Bool.Decides.{nat_tests}
use Rattle.river_base.proofs.Tests.{le_true}
use Rattle.river_base.specs.Name.{is_letter, is_digit, is_word, is_name}
use Rattle.river_plan.specs.Forms.{Name}
use Rattle.cql_model.specs.Numeral.{numeral}
use Rattle.cql_model.specs.Plan.{at_word}
use Rattle.cql_model.proofs.Numerals.{numeral_decimal}
use Rattle.cql_build.specs.Marks.{word, name_marked, IsLowMark}
use Rattle.cql_build.specs.declared.names.Mark.{Mark}
use Rattle.cql_build.specs.declared.names.Mark.TheVariants.{Window, Cross, Copy, Select, Project, Stream, Output, Copies}

one_digit : (c : ℕ) → 48 ≤ c → c ≤ 57 → is_word c ≡ true
unfolding is_word is_letter is_digit
one_digit c a b = grind (arith, nat_tests, a, b)

digit_goes : (d : ℕ) → d < 10 → is_word (48 + d) ≡ true
digit_goes d lt = one_digit (48 + d) (omega arith) (omega (arith, lt))

-- the digits of a number may stand behind the first letter of a name
decimal_goes : (n : ℕ) → n < 2 ^ 64 → list_all is_word (decimal n) ≡ true
decimal_goes n lt = decimal_by_steps (λ k ds. list_all is_word ds ≡ true)
    (λ k small. and_from (is_word (48 + k)) true (digit_goes k small) refl)
    (λ k ds le e. list_all-append is_word ds ((48 + k % 10) ∷ [])
    ∙ and_from (list_all is_word ds) (list_all is_word ((48 + k % 10) ∷ [])) e
    (and_from (is_word (48 + k % 10)) true (digit_goes (k % 10) (mod_below k 10 (omega arith))) refl))
    n lt

-- a name of at most 40 bytes with an `@` and a word of at most 23 bytes behind it
word_behind : (name : Name) (w : List ℕ) → is_name name ≡ true → length name ≤ 40 → list_all is_word w ≡ true → length w ≤ 23 → is_name (at_word name w) ≡ true
unfolding is_word is_letter is_digit
word_behind [] w h len g few = absurd (true≢false (sym h))
word_behind (b ∷ bs) w h len g few =
    let p = and_parts (is_letter b) (list_all is_word bs && nat_le (length bs) 63) h in
    let q = and_parts (list_all is_word bs) (nat_le (length bs) 63) p.1 in
    let all : list_all is_word (bs ++ (codes "@" ++ w)) ≡ true = list_all-append is_word bs (codes "@" ++ w)
    ∙ and_from (list_all is_word bs) (list_all is_word w) q.0 g in
    let low : length (bs ++ (codes "@" ++ w)) ≤ 63 = (let a = length-append bs (codes "@" ++ w) in omega (arith, a, few, len)) in
    and_from (is_letter b) _ p.0 (and_from (list_all is_word (bs ++ (codes "@" ++ w))) _ all (le_true (length (bs ++ (codes "@" ++ w))) 63 low))

digits_few : (k : ℕ) → k < 2 ^ 64 → length (decimal k) ≤ 20
digits_few k lt = length-decimal-le 20 k (omega arith) (omega (arith, lt)) lt

-- so may those of a number in a name of the plan
numeral_goes : (n : ℕ) → n < 2 ^ 64 → list_all is_word (numeral n) ≡ true
numeral_goes n lt = ap (list_all is_word) (numeral_decimal n lt) ∙ decimal_goes n lt

numeral_few : (k : ℕ) → k < 2 ^ 64 → length (numeral k) ≤ 20
numeral_few k lt = subst (λ (ds : List ℕ). length ds ≤ 20) (sym (numeral_decimal k lt)) (digits_few k lt)

pub word_goes : (m : Mark) → IsLowMark m → (list_all is_word (word m) ≡ true) × (length (word m) ≤ 23)
unfolding is_word is_letter is_digit
word_goes (Window k) lt = (numeral_goes k lt, (let l = numeral_few k lt in omega (arith, l)))
word_goes (Cross k) lt = (numeral_goes k lt, (let l = numeral_few k lt in omega (arith, l)))
word_goes (Copy k) lt = (numeral_goes k lt, (let l = numeral_few k lt in omega (arith, l)))
word_goes Select lt = (refl, omega arith)
word_goes Project lt = (refl, omega arith)
word_goes Stream lt = (refl, omega arith)
word_goes Output lt = (refl, omega arith)
word_goes Copies lt = (refl, omega arith)

-- a short name with a mark is a name
pub marked_is_name : (name : Name) (m : Mark) → is_name name ≡ true → length name ≤ 40 → IsLowMark m → is_name (name_marked name m) ≡ true
marked_is_name name m h len low = let g = word_goes m low in word_behind name (word m) h len g.0 g.1

-- and so is the place of a column
pub place_is_name : (k : ℕ) → k < 2 ^ 64 → is_name (codes "c" ++ decimal k) ≡ true
unfolding is_word is_letter is_digit
place_is_name k lt =
    let l = length-decimal-le 20 k (omega arith) (omega (arith, lt)) lt in
    and_from (list_all is_word (decimal k)) _ (decimal_goes k lt) (le_true (length (decimal k)) 63 (omega (arith, l)))
