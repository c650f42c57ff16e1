-- Each token is the longest that can stand at its place, and no comment begins there.
use Rattle.std.proofs.Common.{◌≡◌, ℕ, suc, ◌+◌, ◌<◌, ◌≤◌, Bool, true, false, List, [], ◌∷◌, ◌++◌, length, take, drop, refl, sym, ap, ◌∙◌, subst}
use Rattle.std.proofs.Common.{arith}
use Rattle.std.specs.Prelude.{Option, Some, None, ◌==◌, ◌&&◌, ◌||◌, if◌then◌else◌, nat_lt}
use Rattle.std.specs.List.{prefix_len, list_all}
use Rattle.std.proofs.lemmas.Bool.Decides.{nat_tests}
use Rattle.text_tokens.specs.declared.sign.Symbol.{Symbol}
use Rattle.text_tokens.specs.declared.sign.Symbol.TheVariants as sign
use Rattle.text_tokens.specs.Symbols.{long_symbol, symbol_bytes}
use Rattle.text_tokens.specs.Lexis.{Piece, blank, token, big, piece_at, first_is, begins_with, is_blank, is_letter, is_digit, is_word, is_in_line, block_end}
use Rattle.text_tokens.specs.Lexis.{block_piece, name_piece, var_piece, number_piece, decimal_from, most}
use Rattle.text_tokens.specs.Tok.{Tok, name, var, number, symbol}
use Rattle.text_tokens.specs.Laws.{IsWord, IsWrittenAs, begins_comment}
use Rattle.text_tokens.proofs.Spelled.{IsSign, letter_high, high_no_blank, is_no, low_no_letter, long_piece_at, sign_33, sign_38, sign_43, sign_45, sign_60}
use Rattle.text_tokens.proofs.Spelled.{sign_61, sign_62, sign_124}

-- bytes that pass a test at the front of a text are no more than the front that passes it
prefix-most : (p : ℕ → Bool) (xs ys : List ℕ) → list_all p xs ≡ true → length xs ≤ prefix_len p (xs ++ ys)
prefix-most p [] ys all = omega arith
prefix-most p (x ∷ xs) ys all = let parts = both (p x) (list_all p xs) all in rw parts.0 (one_more (prefix-most p xs ys parts.1)) where
  both : (a b : Bool) → a && b ≡ true → (a ≡ true) × (b ≡ true)
  both true b e = (refl, e)
  both false b e = cc

  one_more : {n m : ℕ} → n ≤ m → suc n ≤ 1 + m
  one_more h = omega arith

same_len : (t u : Tok) (n m : ℕ) → token t n ≡ token u m → n ≡ m
same_len t u n m e = cc

-- ---- A NAME

name-front : (c : ℕ) (cs : List ℕ) → is_letter c ≡ true → piece_at (c ∷ cs) ≡ name_piece (prefix_len is_word (c ∷ cs)) (c ∷ cs)
unfolding piece_at first_is begins_with
name-front c cs first =
    let high = letter_high c first in
    let a = high_no_blank c (omega arith) in
    let b = is_no c 35 (omega arith) in
    let d = is_no c 47 (omega arith) in
    rw (a, b, d, first) refl

name-most : (bytes rest : List ℕ) (t : Tok) (len : ℕ) → IsWord bytes → piece_at (bytes ++ rest) ≡ token t len → length bytes ≤ len
unfolding first_is
name-most [] rest t len w e = cc
name-most (c ∷ cs) rest t len w e =
    let front = name-front c (cs ++ rest) w.0 in
    let is : prefix_len is_word (c ∷ (cs ++ rest)) ≡ len =
    same_len (name (take (prefix_len is_word (c ∷ (cs ++ rest))) (c ∷ (cs ++ rest)))) t (prefix_len is_word (c ∷ (cs ++ rest))) len (sym front ∙ e) in
    subst (λ (n : ℕ). length (c ∷ cs) ≤ n) is (prefix-most is_word (c ∷ cs) rest w.1)

-- ---- A VARIABLE

var-front : (c : ℕ) (cs : List ℕ) → is_letter c ≡ true
    → piece_at (36 ∷ (c ∷ cs)) ≡ token (var (take (prefix_len is_word (c ∷ cs)) (c ∷ cs))) (prefix_len is_word (c ∷ cs) + 1)
unfolding piece_at first_is begins_with var_piece is_blank is_letter
var-front c cs first = rw first refl

var-most : (bytes rest : List ℕ) (t : Tok) (len : ℕ) → IsWord bytes → piece_at (36 ∷ (bytes ++ rest)) ≡ token t len → suc (length bytes) ≤ len
unfolding first_is
var-most [] rest t len w e = cc
var-most (c ∷ cs) rest t len w e =
    let front = var-front c (cs ++ rest) w.0 in
    let n = prefix_len is_word (c ∷ (cs ++ rest)) in
    let is : n + 1 ≡ len = same_len (var (take n (c ∷ (cs ++ rest)))) t (n + 1) len (sym front ∙ e) in
    let most = prefix-most is_word (c ∷ cs) rest w.1 in
    omega (arith, most, is)

-- ---- A NUMBER

digit-between : (c : ℕ) → is_digit c ≡ true → (47 < c) × (c < 58)
unfolding is_digit
digit-between c is = (grind (arith, nat_tests), grind (arith, nat_tests))

number-front : (c : ℕ) (cs : List ℕ) → is_digit c ≡ true
    → piece_at (c ∷ cs) ≡ number_piece (decimal_from 0 (take (prefix_len is_digit (c ∷ cs)) (c ∷ cs))) (prefix_len is_digit (c ∷ cs))
unfolding piece_at first_is begins_with
number-front c cs is =
    let (low, high) = digit-between c is in
    let a = high_no_blank c (omega arith) in
    let b = is_no c 35 (omega arith) in
    let d = is_no c 47 (omega arith) in
    let f = is_no c 36 (omega arith) in
    let g = low_no_letter c low high in
    rw (a, b, d, g, f, is) refl

number-len : (value n len : ℕ) (t : Tok) → number_piece value n ≡ token t len → n ≡ len
unfolding number_piece
number-len value n len t e = by (nat_lt most value) e where
  by : (b : Bool) → (if b then big else token (number value) n) ≡ token t len → n ≡ len
  by true f = cc
  by false f = same_len (number value) t n len f

number-most : (bytes rest : List ℕ) (t : Tok) (len : ℕ) → 0 < length bytes → list_all is_digit bytes ≡ true → piece_at (bytes ++ rest) ≡ token t len
    → length bytes ≤ len
number-most [] rest t len some all e = absurd (omega arith)
number-most (c ∷ cs) rest t len some all e =
    let front = number-front c (cs ++ rest) (first (is_digit c) (list_all is_digit cs) all) in
    let n = prefix_len is_digit (c ∷ (cs ++ rest)) in
    let is : n ≡ len = number-len (decimal_from 0 (take n (c ∷ (cs ++ rest)))) n len t (sym front ∙ e) in
    subst (λ (n : ℕ). length (c ∷ cs) ≤ n) is (prefix-most is_digit (c ∷ cs) rest all)
  where
    first : (a b : Bool) → a && b ≡ true → a ≡ true
    first true b f = refl
    first false b f = cc

-- ---- A SYMBOL

two : (c d : ℕ) (x : Symbol) (rest : List ℕ) (t : Tok) (len : ℕ) → IsSign c → c == 47 ≡ false → long_symbol c d ≡ Some x
    → piece_at (c ∷ (d ∷ rest)) ≡ token t len → 2 ≤ len
two c d x rest t len s other is e =
    let same : 2 ≡ len = same_len (symbol x) t 2 len (sym (long_piece_at c d rest x s other is) ∙ e) in
    omega arith

symbol-most : (x : Symbol) (rest : List ℕ) (t : Tok) (len : ℕ) → 0 < len → piece_at (symbol_bytes x ++ rest) ≡ token t len → length (symbol_bytes x) ≤ len
unfolding long_symbol
symbol-most sign.Plus rest t len some e = some
symbol-most sign.Minus rest t len some e = some
symbol-most sign.Star rest t len some e = some
symbol-most sign.Slash rest t len some e = some
symbol-most sign.Percent rest t len some e = some
symbol-most sign.Open rest t len some e = some
symbol-most sign.Close rest t len some e = some
symbol-most sign.OpenBracket rest t len some e = some
symbol-most sign.CloseBracket rest t len some e = some
symbol-most sign.OpenBrace rest t len some e = some
symbol-most sign.CloseBrace rest t len some e = some
symbol-most sign.Comma rest t len some e = some
symbol-most sign.Semicolon rest t len some e = some
symbol-most sign.Colon rest t len some e = some
symbol-most sign.Dot rest t len some e = some
symbol-most sign.Assign rest t len some e = some
symbol-most sign.Less rest t len some e = some
symbol-most sign.Greater rest t len some e = some
symbol-most sign.Not rest t len some e = some
symbol-most sign.Equal rest t len some e = two 61 61 sign.Equal rest t len sign_61 refl refl e
symbol-most sign.NotEqual rest t len some e = two 33 61 sign.NotEqual rest t len sign_33 refl refl e
symbol-most sign.Different rest t len some e = two 60 62 sign.Different rest t len sign_60 refl refl e
symbol-most sign.LessEqual rest t len some e = two 60 61 sign.LessEqual rest t len sign_60 refl refl e
symbol-most sign.GreaterEqual rest t len some e = two 62 61 sign.GreaterEqual rest t len sign_62 refl refl e
symbol-most sign.And rest t len some e = two 38 38 sign.And rest t len sign_38 refl refl e
symbol-most sign.Or rest t len some e = two 124 124 sign.Or rest t len sign_124 refl refl e
symbol-most sign.Increment rest t len some e = two 43 43 sign.Increment rest t len sign_43 refl refl e
symbol-most sign.Arrow rest t len some e = two 45 62 sign.Arrow rest t len sign_45 refl refl e

-- ---- ANY TOKEN

-- no token that could stand where the lexer finds one has more bytes
pub longest-piece : (s : List ℕ) (t : Tok) (len : ℕ) → 0 < len → piece_at s ≡ token t len → (u : Tok) (bytes rest : List ℕ) → s ≡ bytes ++ rest
    → IsWrittenAs u bytes → length bytes ≤ len
longest-piece s t len some e u bytes rest here w = by u w (sym (ap piece_at here) ∙ e) where
  by : (u : Tok) → IsWrittenAs u bytes → piece_at (bytes ++ rest) ≡ token t len → length bytes ≤ len
  by (name text) w f = name-most bytes rest t len (subst IsWord (sym w.0) w.1) f
  by (var text) w f = rw w.0 (var-most text rest t len w.1 (sym (ap (λ (l : List ℕ). piece_at (l ++ rest)) w.0) ∙ f))
  by (number value) w f = number-most bytes rest t len w.0 w.1 f
  by (symbol x) w f = rw w (symbol-most x rest t len some (sym (ap (λ (l : List ℕ). piece_at (l ++ rest)) w) ∙ f))

-- where the lexer finds a token no comment begins
pub no-comment : (s : List ℕ) (t : Tok) (len : ℕ) → piece_at s ≡ token t len → begins_comment s ≡ false
unfolding piece_at
no-comment s t len e =
    by (first_is is_blank s) (begins_with 35 s) (begins_with 47 s) (begins_with 47 (drop 1 s)) (begins_with 42 (drop 1 s)) (block_end 2 (drop 2 s)) _ e where
      by : (b hash slash line block : Bool) (end : Option ℕ) (more : Piece)
          → (if b then blank 1 else
          (if hash then blank (prefix_len is_in_line s) else
          (if slash && line then blank (prefix_len is_in_line s) else (if slash && block then block_piece end else more)))) ≡ token t len
          → hash || slash && (line || block) ≡ false
      by true hash slash line block end more f = cc
      by false true slash line block end more f = cc
      by false false false line block end more f = refl
      by false false true true block end more f = cc
      by false false true false true None more f = cc
      by false false true false true (Some n) more f = cc
      by false false true false false end more f = refl
