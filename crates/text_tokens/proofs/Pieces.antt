-- What the loops of the lexer keep.
use Rattle.std.proofs.Common.{◌≡◌, ℕ, ◌+◌, ◌-◌, ◌*◌, ◌<◌, ◌≤◌, true, false, List, [], ◌∷◌, length, drop, get_or, Some, None, refl, sym, ap, ◌∙◌}
use Rattle.std.proofs.Common.{arith}
use Rattle.std.proofs.lemmas.List.{drop_more, drop_all, drop-drop}
use Rattle.text_tokens.specs.Lexis.{token, big, begins_with, block_end, decimal_from, most, number_piece}
use Rattle.text_tokens.specs.Tok.{number}
use Rattle.std.proofs.lemmas.List.Sums.{prefix_len-le-length}

-- at a star and a slash the comment ends
found : (n : ℕ) (s : List ℕ) → begins_with 42 s ≡ true → begins_with 47 (drop 1 s) ≡ true → block_end n s ≡ Some (n + 2)
unfolding block_end begins_with
found n [] star slash = cc
found n (c ∷ cs) star slash = rw (star, slash) refl

no_star : (n : ℕ) (s : List ℕ) → begins_with 42 s ≡ false → block_end (n + 1) (drop 1 s) ≡ block_end n s
unfolding block_end begins_with
no_star n [] star = refl
no_star n (c ∷ cs) star = rw star refl

no_slash : (n : ℕ) (s : List ℕ) → begins_with 42 s ≡ true → begins_with 47 (drop 1 s) ≡ false → block_end (n + 1) (drop 1 s) ≡ block_end n s
unfolding block_end begins_with
no_slash n [] star slash = refl
no_slash n (c ∷ cs) star slash = rw (star, slash) refl

one_on : (text : List ℕ) (n : ℕ) → drop 1 (drop n text) ≡ drop (n + 1) text
one_on text n = drop-drop 1 n text ∙ ap (λ k. drop k text) (omega arith)

pub block-found : (text : List ℕ) (n : ℕ) → begins_with 42 (drop n text) ≡ true → begins_with 47 (drop 1 (drop n text)) ≡ true
    → block_end n (drop n text) ≡ Some (n + 2)
block-found text n star slash = found n (drop n text) star slash

pub block-no-star : (text : List ℕ) (n : ℕ) → begins_with 42 (drop n text) ≡ false → block_end (n + 1) (drop (n + 1) text) ≡ block_end n (drop n text)
block-no-star text n star = ap (block_end (n + 1)) (sym (one_on text n)) ∙ no_star n (drop n text) star

pub block-no-slash : (text : List ℕ) (n : ℕ) → begins_with 42 (drop n text) ≡ true → begins_with 47 (drop 1 (drop n text)) ≡ false
    → block_end (n + 1) (drop (n + 1) text) ≡ block_end n (drop n text)
block-no-slash text n star slash = ap (block_end (n + 1)) (sym (one_on text n)) ∙ no_slash n (drop n text) star slash

pub block-open : (n : ℕ) → block_end n [] ≡ None
unfolding block_end
block-open n = refl

pub block-end : (text : List ℕ) (n : ℕ) → length text ≤ n → block_end n (drop n text) ≡ None
unfolding block_end
block-end text n h = ap (block_end n) (drop_all n text h)

pub ruleset blocks = (block-found, block-no-star, block-no-slash, block-end)

-- one digit more
pub decimal-next : (digits : List ℕ) (n value : ℕ) → n < length digits
    → decimal_from (value * 10 + (get_or digits n 0 - 48)) (drop (n + 1) digits) ≡ decimal_from value (drop n digits)
unfolding decimal_from
decimal-next digits n value h = sym (ap (decimal_from value) (drop_more digits n 0 h))

pub decimal-end : (digits : List ℕ) (n value : ℕ) → length digits ≤ n → decimal_from value (drop n digits) ≡ value
unfolding decimal_from
decimal-end digits n value h = ap (decimal_from value) (drop_all n digits h)

grows : (value : ℕ) (s : List ℕ) → value ≤ decimal_from value s
unfolding decimal_from
grows value [] = omega arith
grows value (c ∷ cs) = let more = grows (value * 10 + (c - 48)) cs in omega arith

pub decimal-great : (digits : List ℕ) (n value : ℕ) → n < length digits → most < value * 10 + (get_or digits n 0 - 48)
    → most < decimal_from value (drop n digits)
decimal-great digits n value h great =
    let same = decimal-next digits n value h in
    let more = grows (value * 10 + (get_or digits n 0 - 48)) (drop (n + 1) digits) in
    omega arith

pub ruleset decimals = (decimal-next, decimal-end, decimal-great)

pub number-small : (v value len : ℕ) → v ≡ value → v ≤ most → number_piece value len ≡ token (number v) len
unfolding number_piece
number-small v value len same small = grind arith

pub number-great : (value len : ℕ) → most < value → number_piece value len ≡ big
unfolding number_piece
number-great value len great = grind arith

pub ruleset numbers = (number-small, number-great, prefix_len-le-length)

-- what begins with two known bytes has two bytes
pub two-bytes : (c d : ℕ) (s : List ℕ) → begins_with c s ≡ true → begins_with d (drop 1 s) ≡ true → 2 ≤ length s
unfolding begins_with
two-bytes c d [] p q = cc
two-bytes c d (x ∷ []) p q = cc
two-bytes c d (x ∷ y ∷ s) p q = omega arith

pub ruleset fronts = (two-bytes, prefix_len-le-length)
