-- Texts that are spelled token by token: what the lexer makes of them.
use Rattle.std.proofs.Common.{◌≡◌, ℕ, ◌+◌, ◌-◌, ◌*◌, ◌<◌, ◌≤◌, Bool, true, false, List, [], ◌∷◌, ◌++◌, length}
use Rattle.std.proofs.Common.{drop, take, refl, sym, ap, ◌∙◌, arith, append_assoc, append-nil, length-append}
use Rattle.std.specs.Prelude.{Option, Some, None, Result, Ok, Err, ◌==◌, ◌&&◌, ◌||◌, nat_lt}
use Rattle.std.specs.List.{prefix_len, list_all}
use Rattle.std.specs.Fmt.{decimal}
use Rattle.std.specs.Str.Parse.{AllDigits, digits_value_after}
use Rattle.std.specs.Char.{digit_value}
use Rattle.std.proofs.lemmas.Fmt.{decimal_is_IsNumeral}
use Rattle.std.proofs.lemmas.Bool.{and_parts, ne_eqb}
use Rattle.std.proofs.lemmas.Bool.Decides.{nat_tests}
use Rattle.std.proofs.Math.Seq.{drop-append_seam, take-append_seam}
use Rattle.text_tokens.specs.Lexis.{blank, token, marks, with_mark, piece_at, is_blank, is_letter, is_digit, is_word, first_is}
use Rattle.text_tokens.specs.Lexis.{begins_with, var_piece, number_piece, decimal_from, most, symbol_piece}
use Rattle.text_tokens.specs.Symbols.{short_symbol, long_symbol, symbol_bytes}
use Rattle.text_tokens.specs.Tok.{Tok, Mark, toks, name, var, number, symbol}
use Rattle.text_tokens.specs.declared.sign.Symbol.{Symbol}
use Rattle.text_tokens.specs.declared.sign.Symbol.TheVariants as sign
use Rattle.text_tokens.specs.declared.fault.LexFault.{LexFault}
use Rattle.text_tokens.proofs.Marks.{at_blank, at_token}

-- the tokens without their places, where there is no fault
abbrev pub spoken : Result (List Mark) LexFault → Option (List Tok)
spoken (Ok ms) = Some (toks ms)
spoken (Err fault) = None

-- the tokens of the bytes, which begin at a place
abbrev pub tokens_from : ℕ → List ℕ → Option (List Tok)
tokens_from at s = spoken (marks 0 at s)

-- some tokens before others
abbrev pub before : List Tok → Option (List Tok) → Option (List Tok)
before ts None = None
before ts (Some us) = Some (ts ++ us)

-- these bytes are these tokens, wherever they stand, before all that `ok` allows
pub record Spells (s : List ℕ) (ts : List Tok) (ok : List ℕ → Type 0) : Type 0 where
  pub reads : (at : ℕ) (rest : List ℕ) → ok rest → tokens_from at (s ++ rest) ≡ before ts (tokens_from (at + length s) rest)

-- whatever text comes next
abbrev pub Anything : List ℕ → Type 0
Anything rest = Unit {0}

-- no byte of a word comes
abbrev pub NoWord : List ℕ → Type 0
NoWord rest = first_is is_word rest ≡ false

before-before : (ts us : List Tok) (o : Option (List Tok)) → before ts (before us o) ≡ before (ts ++ us) o
before-before ts us None = refl
before-before ts us (Some vs) = ap (λ (l : List Tok). Some l) (sym (append_assoc ts us vs))

-- no bytes are no tokens
pub spells-nothing : (ok : List ℕ → Type 0) → Spells [] [] ok
spells-nothing ok = record { reads = λ at rest h. ap (λ (k : ℕ). tokens_from k rest) (omega arith) ∙ sym (before-nothing (tokens_from (at + 0) rest)) } where
  before-nothing : (o : Option (List Tok)) → before [] o ≡ o
  before-nothing None = refl
  before-nothing (Some vs) = refl

-- one text behind another
pub spells-then : {ok then_ok : List ℕ → Type 0} (s : List ℕ) (ts : List Tok) (u : List ℕ) (us : List Tok) → Spells s ts ok → Spells u us then_ok
    → ((rest : List ℕ) → then_ok rest → ok (u ++ rest)) → Spells (s ++ u) (ts ++ us) then_ok
spells-then s ts u us x y follows = record {
  reads = λ at rest h.
      ap (λ (l : List ℕ). tokens_from at l) (append_assoc s u rest) ∙ x.reads at (u ++ rest) (follows rest h)
      ∙ ap (λ (o : Option (List Tok)). before ts o) (y.reads (at + length s) rest h) ∙ before-before ts us (tokens_from (at + length s + length u) rest)
      ∙ ap (λ (k : ℕ). before (ts ++ us) (tokens_from k rest)) (omega (arith, length-append s u));
}

-- less may follow
pub spells-less : {ok less : List ℕ → Type 0} (s : List ℕ) (ts : List Tok) → Spells s ts ok → ((rest : List ℕ) → less rest → ok rest) → Spells s ts less
spells-less s ts x fewer = record { reads = λ at rest h. x.reads at rest (fewer rest h) }

-- a whole text
pub spells-whole : {ok : List ℕ → Type 0} (s : List ℕ) (ts : List Tok) → Spells s ts ok → ok [] → (ms : List Mark) × (marks 0 0 s ≡ Ok ms) × (toks ms ≡ ts)
unfolding marks
spells-whole s ts x allowed =
    by (marks 0 0 s) refl
    (ap (λ (l : List ℕ). tokens_from 0 l) (sym (append-nil s)) ∙ x.reads 0 [] allowed ∙ ap (λ (l : List Tok). Some l) (append-nil ts)) where
      by : (r : Result (List Mark) LexFault) → marks 0 0 s ≡ r → spoken r ≡ Some ts → (ms : List Mark) × (marks 0 0 s ≡ Ok ms) × (toks ms ≡ ts)
      by (Ok ms) is e = (ms, is, same e) where
        same : Some (toks ms) ≡ Some ts → toks ms ≡ ts
        same f = cc
      by (Err fault) is e = cc

spoken-with : (m : Mark) (r : Result (List Mark) LexFault) → spoken (with_mark m r) ≡ before (m.tok ∷ []) (spoken r)
spoken-with m (Ok ms) = refl
spoken-with m (Err fault) = refl

-- what the lexer finds at the front of a text is one token of all its bytes
from_piece : {ok : List ℕ → Type 0} (s : List ℕ) (t : Tok) → 0 < length s → ((rest : List ℕ) → ok rest → piece_at (s ++ rest) ≡ token t (length s))
    → Spells s (t ∷ []) ok
from_piece s t some found = record {
  reads = λ at rest h.
      let size : length s ≤ length (s ++ rest) = omega (arith, length-append s rest) in
      ap spoken (at_token at (length s) t (s ++ rest) (omega (arith, size)) (found rest h) some size)
      ∙ spoken-with (record { tok = t; start = at; end = at + length s }) (marks 0 (at + length s) (drop (length s) (s ++ rest)))
      ∙ ap (λ (l : List ℕ). before (t ∷ []) (tokens_from (at + length s) l)) (drop-append_seam s rest);
}

-- a separator
blank_piece : (c : ℕ) (rest : List ℕ) → is_blank c ≡ true → piece_at (c ∷ rest) ≡ blank 1
unfolding piece_at first_is
blank_piece c rest is = rw is refl

before-nothing : (o : Option (List Tok)) → before [] o ≡ o
before-nothing None = refl
before-nothing (Some vs) = refl

-- a separator is no token
pub spells-blank : (c : ℕ) → is_blank c ≡ true → Spells (c ∷ []) [] Anything
spells-blank c is = record {
  reads =
      λ at rest h. ap spoken (at_blank at 1 (c ∷ rest) (omega arith) (blank_piece c rest is) (omega arith) (omega arith))
      ∙ sym (before-nothing (tokens_from (at + 1) rest));
}

-- a byte that begins a symbol: no other piece begins with it
pub record IsSign (c : ℕ) : Type 0 where
  pub no_blank : is_blank c ≡ false
  pub no_hash : c == 35 ≡ false
  pub no_letter : is_letter c ≡ false
  pub no_dollar : c == 36 ≡ false
  pub no_digit : is_digit c ≡ false

-- what may come behind a symbol of one byte: no byte with which it is a longer symbol or a comment
abbrev pub IsAlone : ℕ → List ℕ → Type 0
IsAlone c [] = Unit {0}
IsAlone c (d ∷ ds) = (long_symbol c d ≡ None) × ((c == 47) && (d == 47) ≡ false) × ((c == 47) && (d == 42) ≡ false)

and_false : (b : Bool) → b && false ≡ false
and_false true = refl
and_false false = refl

short_end : (c : ℕ) (x : Symbol) → IsSign c → short_symbol c ≡ Some x → piece_at (c ∷ []) ≡ token (symbol x) 1
unfolding piece_at first_is begins_with symbol_piece
short_end c x s is = rw (s.no_blank, s.no_hash, and_false (c == 47), s.no_letter, s.no_dollar, s.no_digit, is) refl

short_on : (c d : ℕ) (ds : List ℕ) (x : Symbol) → IsSign c → short_symbol c ≡ Some x → IsAlone c (d ∷ ds) → piece_at (c ∷ (d ∷ ds)) ≡ token (symbol x) 1
unfolding piece_at first_is begins_with symbol_piece
short_on c d ds x s is alone = rw (s.no_blank, s.no_hash, alone.1, alone.2, s.no_letter, s.no_dollar, s.no_digit, alone.0, is) refl

pub spells-short : (c : ℕ) (x : Symbol) → IsSign c → short_symbol c ≡ Some x → Spells (c ∷ []) (symbol x ∷ []) (IsAlone c)
spells-short c x s is = from_piece (c ∷ []) (symbol x) (omega arith) found where
  found : (rest : List ℕ) → IsAlone c rest → piece_at (c ∷ rest) ≡ token (symbol x) 1
  found [] alone = short_end c x s is
  found (d ∷ ds) alone = short_on c d ds x s is alone

-- a symbol of two bytes
pub long_piece_at : (c d : ℕ) (rest : List ℕ) (x : Symbol) → IsSign c → c == 47 ≡ false → long_symbol c d ≡ Some x
    → piece_at (c ∷ (d ∷ rest)) ≡ token (symbol x) 2
unfolding piece_at first_is begins_with symbol_piece
long_piece_at c d rest x s other is = rw (s.no_blank, s.no_hash, other, s.no_letter, s.no_dollar, s.no_digit, is) refl

pub spells-long : (c d : ℕ) (x : Symbol) → IsSign c → c == 47 ≡ false → long_symbol c d ≡ Some x → Spells (c ∷ (d ∷ [])) (symbol x ∷ []) Anything
spells-long c d x s other is = from_piece (c ∷ (d ∷ [])) (symbol x) (omega arith) (λ rest h. long_piece_at c d rest x s other is)

-- the bytes of a word up to what follows
word_len : (p : ℕ → Bool) (s rest : List ℕ) → list_all p s ≡ true → first_is p rest ≡ false → prefix_len p (s ++ rest) ≡ length s
unfolding first_is
word_len p [] [] all next = refl
word_len p [] (d ∷ ds) all next = rw next refl
word_len p (c ∷ cs) rest all next =
    let parts = and_true (p c) (list_all p cs) all in
    rw parts.0 (ap (λ (n : ℕ). 1 + n) (word_len p cs rest parts.1 next) ∙ omega arith)
  where
    and_true : (a b : Bool) → a && b ≡ true → (a ≡ true) × (b ≡ true)
    and_true true b e = (refl, e)
    and_true false b e = cc

-- a text is a word: a letter or _, and then bytes that go on a word
abbrev pub is_name_text : List ℕ → Bool
is_name_text [] = false
is_name_text (c ∷ cs) = is_letter c && list_all is_word cs

-- letters and _ stand behind the digits and most signs
pub letter_high : (c : ℕ) → is_letter c ≡ true → 64 < c
unfolding is_letter
letter_high c is = grind (arith, nat_tests)

-- a byte is not one that is below it
pub is_no : (c k : ℕ) → k < c → c == k ≡ false
is_no c k lt = ne_eqb c k (λ e. absurd (omega arith))

-- bytes above the space are no separators
pub high_no_blank : (c : ℕ) → 32 < c → is_blank c ≡ false
unfolding is_blank
high_no_blank c high =
    let a = is_no c 32 (omega arith) in
    let b = is_no c 9 (omega arith) in
    let d = is_no c 13 (omega arith) in
    let e = is_no c 10 (omega arith) in
    rw (a, b, d, e) refl

name_all : (c : ℕ) (cs : List ℕ) → is_letter c ≡ true → list_all is_word cs ≡ true → list_all is_word (c ∷ cs) ≡ true
unfolding is_word
name_all c cs first all = rw first all

name_piece_is : (c : ℕ) (cs rest : List ℕ) → is_letter c ≡ true → list_all is_word cs ≡ true → first_is is_word rest ≡ false
    → piece_at (c ∷ (cs ++ rest)) ≡ token (name (c ∷ cs)) (length (c ∷ cs))
unfolding piece_at first_is begins_with
name_piece_is c cs rest first all next =
    let high = letter_high c first in
    let a = high_no_blank c (omega arith) in
    let b = is_no c 35 (omega arith) in
    let d = is_no c 47 (omega arith) in
    let len : prefix_len is_word (c ∷ (cs ++ rest)) ≡ length (c ∷ cs) = word_len is_word (c ∷ cs) rest (name_all c cs first all) next in
    rw (a, b, d, first, len) (ap (λ (l : List ℕ). token (name l) (length (c ∷ cs))) (take-append_seam (c ∷ cs) rest))

-- a word is a name, where no byte of a word follows
pub spells-name : (text : List ℕ) → is_name_text text ≡ true → Spells text (name text ∷ []) NoWord
spells-name [] is = cc
spells-name (c ∷ cs) is =
    from_piece (c ∷ cs) (name (c ∷ cs)) (omega arith)
    (λ rest next. name_piece_is c cs rest (parts (is_letter c) (list_all is_word cs) is).0 (parts (is_letter c) (list_all is_word cs) is).1 next) where
      parts : (a b : Bool) → a && b ≡ true → (a ≡ true) × (b ≡ true)
      parts true b e = (refl, e)
      parts false b e = cc

-- a variable, with its dollar sign
var_piece_is : (c : ℕ) (cs rest : List ℕ) → is_letter c ≡ true → list_all is_word cs ≡ true → first_is is_word rest ≡ false
    → piece_at (36 ∷ (c ∷ (cs ++ rest))) ≡ token (var (c ∷ cs)) (length (36 ∷ (c ∷ cs)))
unfolding piece_at first_is begins_with var_piece is_blank is_letter
var_piece_is c cs rest first all next =
    let len : prefix_len is_word (c ∷ (cs ++ rest)) ≡ length (c ∷ cs) = word_len is_word (c ∷ cs) rest (name_all c cs first all) next in
    rw (first, len) (ap (λ (l : List ℕ). token (var l) (length (c ∷ cs) + 1)) (take-append_seam (c ∷ cs) rest)
    ∙ ap (λ (n : ℕ). token (var (c ∷ cs)) n) (omega arith))

-- a word behind a dollar sign is a variable
pub spells-var : (text : List ℕ) → is_name_text text ≡ true → Spells (36 ∷ text) (var text ∷ []) NoWord
spells-var [] is = cc
spells-var (c ∷ cs) is =
    let parts = and_parts (is_letter c) (list_all is_word cs) is in
    from_piece (36 ∷ (c ∷ cs)) (var (c ∷ cs)) (omega arith) (λ rest next. var_piece_is c cs rest parts.0 parts.1 next)

-- a number, as it is printed
digit_between : (c : ℕ) → digit_value c < 10 → (47 < c) × (c < 58)
digit_between c small = (grind (arith, nat_tests), grind (arith, nat_tests))

digit_is : (c : ℕ) → 47 < c → c < 58 → digit_value c ≡ c - 48
digit_is c low high = grind (arith, nat_tests)

digit_test : (c : ℕ) → 47 < c → c < 58 → is_digit c ≡ true
unfolding is_digit
digit_test c low high = grind (arith, nat_tests)

digits_all : (ds : List ℕ) → AllDigits 10 ds → list_all is_digit ds ≡ true
digits_all [] all = refl
digits_all (c ∷ cs) all =
    let d = digit_between c all.0 in
    rw (digit_test c d.0 d.1) (digits_all cs all.1)

digits_same : (n : ℕ) (ds : List ℕ) → AllDigits 10 ds → digits_value_after 10 n ds ≡ decimal_from n ds
unfolding decimal_from
digits_same n [] all = refl
digits_same n (c ∷ cs) all =
    let d = digit_between c all.0 in
    ap (λ (v : ℕ). digits_value_after 10 (n * 10 + v) cs) (digit_is c d.0 d.1) ∙ digits_same (n * 10 + (c - 48)) cs all.1

-- a digit is no letter
pub low_no_letter : (c : ℕ) → 47 < c → c < 58 → is_letter c ≡ false
unfolding is_letter
low_no_letter c low high = grind (arith, nat_tests)

within : (n len : ℕ) → n ≤ most → number_piece n len ≡ token (number n) len
unfolding number_piece
within n len fits = let small : nat_lt most n ≡ false = grind (arith, nat_tests) in rw small refl

-- the number at the front of digits
number_piece_is : (c : ℕ) (cs rest : List ℕ) (n : ℕ) → 47 < c → c < 58 → list_all is_digit (c ∷ cs) ≡ true → decimal_from 0 (c ∷ cs) ≡ n → n ≤ most
    → first_is is_digit rest ≡ false → piece_at (c ∷ (cs ++ rest)) ≡ token (number n) (length (c ∷ cs))
unfolding piece_at first_is begins_with
number_piece_is c cs rest n low high all value fits next =
    let a = high_no_blank c (omega arith) in
    let b : c == 35 ≡ false = ne_eqb c 35 (λ e. absurd (omega arith)) in
    let d : c == 47 ≡ false = ne_eqb c 47 (λ e. absurd (omega arith)) in
    let f : c == 36 ≡ false = ne_eqb c 36 (λ e. absurd (omega arith)) in
    let len : prefix_len is_digit (c ∷ (cs ++ rest)) ≡ length (c ∷ cs) = word_len is_digit (c ∷ cs) rest all next in
    let front : take (length (c ∷ cs)) (c ∷ (cs ++ rest)) ≡ c ∷ cs = take-append_seam (c ∷ cs) rest in
    rw (a, b, d, low_no_letter c low high, f, len, digit_test c low high)
    (ap (λ (l : List ℕ). number_piece (decimal_from 0 l) (length (c ∷ cs))) front ∙ ap (λ (v : ℕ). number_piece v (length (c ∷ cs))) value
    ∙ within n (length (c ∷ cs)) fits)

word_digit : (rest : List ℕ) → first_is is_word rest ≡ false → first_is is_digit rest ≡ false
unfolding first_is is_word
word_digit [] next = refl
word_digit (d ∷ ds) next = no_digit (is_letter d) (is_digit d) (d == 64) next where
  no_digit : (a b c : Bool) → a || b || c ≡ false → b ≡ false
  no_digit true b c e = cc
  no_digit false true c e = cc
  no_digit false false c e = refl

-- the decimal digits of a number are the number
pub spells-number : (n : ℕ) → n ≤ most → Spells (decimal n) (number n ∷ []) NoWord
spells-number n fits = by (decimal n) (decimal_is_IsNumeral n (omega arith)) where
  by : (ds : List ℕ) → (0 < length ds × AllDigits 10 ds) × (digits_value_after 10 0 ds ≡ n) → Spells ds (number n ∷ []) NoWord
  by [] h = absurd (omega (arith, h.0.0))
  by (c ∷ cs) h =
      let d = digit_between c h.0.1.0 in
      from_piece (c ∷ cs) (number n) (omega arith)
      (λ rest next. number_piece_is c cs rest n d.0 d.1 (digits_all (c ∷ cs) h.0.1) (sym (digits_same 0 (c ∷ cs) h.0.1) ∙ h.1) fits (word_digit rest next))

-- ---- each symbol

-- what may come behind a symbol
abbrev pub MayFollow : Symbol → List ℕ → Type 0
MayFollow sign.Plus rest = IsAlone 43 rest
MayFollow sign.Minus rest = IsAlone 45 rest
MayFollow sign.Star rest = Anything rest
MayFollow sign.Slash rest = IsAlone 47 rest
MayFollow sign.Percent rest = Anything rest
MayFollow sign.Open rest = Anything rest
MayFollow sign.Close rest = Anything rest
MayFollow sign.OpenBracket rest = Anything rest
MayFollow sign.CloseBracket rest = Anything rest
MayFollow sign.OpenBrace rest = Anything rest
MayFollow sign.CloseBrace rest = Anything rest
MayFollow sign.Comma rest = Anything rest
MayFollow sign.Semicolon rest = Anything rest
MayFollow sign.Colon rest = Anything rest
MayFollow sign.Dot rest = Anything rest
MayFollow sign.Assign rest = IsAlone 61 rest
MayFollow sign.Less rest = IsAlone 60 rest
MayFollow sign.Greater rest = IsAlone 62 rest
MayFollow sign.Not rest = IsAlone 33 rest
MayFollow sign.Equal rest = Anything rest
MayFollow sign.NotEqual rest = Anything rest
MayFollow sign.Different rest = Anything rest
MayFollow sign.LessEqual rest = Anything rest
MayFollow sign.GreaterEqual rest = Anything rest
MayFollow sign.And rest = Anything rest
MayFollow sign.Or rest = Anything rest
MayFollow sign.Increment rest = Anything rest
MayFollow sign.Arrow rest = Anything rest

-- ! begins symbols alone
pub sign_33 : IsSign 33
unfolding is_blank is_letter is_digit
sign_33 = record { no_blank = refl; no_hash = refl; no_letter = refl; no_dollar = refl; no_digit = refl }

sign_37 : IsSign 37
unfolding is_blank is_letter is_digit
sign_37 = record { no_blank = refl; no_hash = refl; no_letter = refl; no_dollar = refl; no_digit = refl }

-- & begins symbols alone
pub sign_38 : IsSign 38
unfolding is_blank is_letter is_digit
sign_38 = record { no_blank = refl; no_hash = refl; no_letter = refl; no_dollar = refl; no_digit = refl }

sign_40 : IsSign 40
unfolding is_blank is_letter is_digit
sign_40 = record { no_blank = refl; no_hash = refl; no_letter = refl; no_dollar = refl; no_digit = refl }

sign_41 : IsSign 41
unfolding is_blank is_letter is_digit
sign_41 = record { no_blank = refl; no_hash = refl; no_letter = refl; no_dollar = refl; no_digit = refl }

sign_42 : IsSign 42
unfolding is_blank is_letter is_digit
sign_42 = record { no_blank = refl; no_hash = refl; no_letter = refl; no_dollar = refl; no_digit = refl }

-- + begins symbols alone
pub sign_43 : IsSign 43
unfolding is_blank is_letter is_digit
sign_43 = record { no_blank = refl; no_hash = refl; no_letter = refl; no_dollar = refl; no_digit = refl }

sign_44 : IsSign 44
unfolding is_blank is_letter is_digit
sign_44 = record { no_blank = refl; no_hash = refl; no_letter = refl; no_dollar = refl; no_digit = refl }

-- - begins symbols alone
pub sign_45 : IsSign 45
unfolding is_blank is_letter is_digit
sign_45 = record { no_blank = refl; no_hash = refl; no_letter = refl; no_dollar = refl; no_digit = refl }

sign_46 : IsSign 46
unfolding is_blank is_letter is_digit
sign_46 = record { no_blank = refl; no_hash = refl; no_letter = refl; no_dollar = refl; no_digit = refl }

sign_47 : IsSign 47
unfolding is_blank is_letter is_digit
sign_47 = record { no_blank = refl; no_hash = refl; no_letter = refl; no_dollar = refl; no_digit = refl }

sign_58 : IsSign 58
unfolding is_blank is_letter is_digit
sign_58 = record { no_blank = refl; no_hash = refl; no_letter = refl; no_dollar = refl; no_digit = refl }

sign_59 : IsSign 59
unfolding is_blank is_letter is_digit
sign_59 = record { no_blank = refl; no_hash = refl; no_letter = refl; no_dollar = refl; no_digit = refl }

-- < begins symbols alone
pub sign_60 : IsSign 60
unfolding is_blank is_letter is_digit
sign_60 = record { no_blank = refl; no_hash = refl; no_letter = refl; no_dollar = refl; no_digit = refl }

-- = begins symbols alone
pub sign_61 : IsSign 61
unfolding is_blank is_letter is_digit
sign_61 = record { no_blank = refl; no_hash = refl; no_letter = refl; no_dollar = refl; no_digit = refl }

-- > begins symbols alone
pub sign_62 : IsSign 62
unfolding is_blank is_letter is_digit
sign_62 = record { no_blank = refl; no_hash = refl; no_letter = refl; no_dollar = refl; no_digit = refl }

sign_91 : IsSign 91
unfolding is_blank is_letter is_digit
sign_91 = record { no_blank = refl; no_hash = refl; no_letter = refl; no_dollar = refl; no_digit = refl }

sign_93 : IsSign 93
unfolding is_blank is_letter is_digit
sign_93 = record { no_blank = refl; no_hash = refl; no_letter = refl; no_dollar = refl; no_digit = refl }

sign_123 : IsSign 123
unfolding is_blank is_letter is_digit
sign_123 = record { no_blank = refl; no_hash = refl; no_letter = refl; no_dollar = refl; no_digit = refl }

-- the bar begins symbols alone
pub sign_124 : IsSign 124
unfolding is_blank is_letter is_digit
sign_124 = record { no_blank = refl; no_hash = refl; no_letter = refl; no_dollar = refl; no_digit = refl }

sign_125 : IsSign 125
unfolding is_blank is_letter is_digit
sign_125 = record { no_blank = refl; no_hash = refl; no_letter = refl; no_dollar = refl; no_digit = refl }

alone_40 : (rest : List ℕ) → IsAlone 40 rest
unfolding long_symbol
alone_40 [] = tt
alone_40 (d ∷ ds) = (refl, refl, refl)

alone_41 : (rest : List ℕ) → IsAlone 41 rest
unfolding long_symbol
alone_41 [] = tt
alone_41 (d ∷ ds) = (refl, refl, refl)

alone_91 : (rest : List ℕ) → IsAlone 91 rest
unfolding long_symbol
alone_91 [] = tt
alone_91 (d ∷ ds) = (refl, refl, refl)

alone_93 : (rest : List ℕ) → IsAlone 93 rest
unfolding long_symbol
alone_93 [] = tt
alone_93 (d ∷ ds) = (refl, refl, refl)

alone_123 : (rest : List ℕ) → IsAlone 123 rest
unfolding long_symbol
alone_123 [] = tt
alone_123 (d ∷ ds) = (refl, refl, refl)

alone_125 : (rest : List ℕ) → IsAlone 125 rest
unfolding long_symbol
alone_125 [] = tt
alone_125 (d ∷ ds) = (refl, refl, refl)

alone_44 : (rest : List ℕ) → IsAlone 44 rest
unfolding long_symbol
alone_44 [] = tt
alone_44 (d ∷ ds) = (refl, refl, refl)

alone_59 : (rest : List ℕ) → IsAlone 59 rest
unfolding long_symbol
alone_59 [] = tt
alone_59 (d ∷ ds) = (refl, refl, refl)

alone_58 : (rest : List ℕ) → IsAlone 58 rest
unfolding long_symbol
alone_58 [] = tt
alone_58 (d ∷ ds) = (refl, refl, refl)

alone_46 : (rest : List ℕ) → IsAlone 46 rest
unfolding long_symbol
alone_46 [] = tt
alone_46 (d ∷ ds) = (refl, refl, refl)

alone_42 : (rest : List ℕ) → IsAlone 42 rest
unfolding long_symbol
alone_42 [] = tt
alone_42 (d ∷ ds) = (refl, refl, refl)

alone_37 : (rest : List ℕ) → IsAlone 37 rest
unfolding long_symbol
alone_37 [] = tt
alone_37 (d ∷ ds) = (refl, refl, refl)

-- the bytes of a symbol are the symbol, where nothing follows with which they are another
pub spells-symbol : (x : Symbol) → Spells (symbol_bytes x) (symbol x ∷ []) (MayFollow x)
unfolding short_symbol long_symbol
spells-symbol sign.Plus = spells-short 43 sign.Plus sign_43 refl
spells-symbol sign.Minus = spells-short 45 sign.Minus sign_45 refl
spells-symbol sign.Star = spells-less (42 ∷ []) (symbol sign.Star ∷ []) (spells-short 42 sign.Star sign_42 refl) (λ rest h. alone_42 rest)
spells-symbol sign.Slash = spells-short 47 sign.Slash sign_47 refl
spells-symbol sign.Percent = spells-less (37 ∷ []) (symbol sign.Percent ∷ []) (spells-short 37 sign.Percent sign_37 refl) (λ rest h. alone_37 rest)
spells-symbol sign.Open = spells-less (40 ∷ []) (symbol sign.Open ∷ []) (spells-short 40 sign.Open sign_40 refl) (λ rest h. alone_40 rest)
spells-symbol sign.Close = spells-less (41 ∷ []) (symbol sign.Close ∷ []) (spells-short 41 sign.Close sign_41 refl) (λ rest h. alone_41 rest)
spells-symbol sign.OpenBracket = spells-less (91 ∷ []) (symbol sign.OpenBracket ∷ []) (spells-short 91 sign.OpenBracket sign_91 refl) (λ rest h. alone_91 rest)
spells-symbol sign.CloseBracket =
    spells-less (93 ∷ []) (symbol sign.CloseBracket ∷ []) (spells-short 93 sign.CloseBracket sign_93 refl) (λ rest h. alone_93 rest)
spells-symbol sign.OpenBrace = spells-less (123 ∷ []) (symbol sign.OpenBrace ∷ []) (spells-short 123 sign.OpenBrace sign_123 refl) (λ rest h. alone_123 rest)
spells-symbol sign.CloseBrace = spells-less (125 ∷ []) (symbol sign.CloseBrace ∷ []) (spells-short 125 sign.CloseBrace sign_125 refl) (λ rest h. alone_125 rest)
spells-symbol sign.Comma = spells-less (44 ∷ []) (symbol sign.Comma ∷ []) (spells-short 44 sign.Comma sign_44 refl) (λ rest h. alone_44 rest)
spells-symbol sign.Semicolon = spells-less (59 ∷ []) (symbol sign.Semicolon ∷ []) (spells-short 59 sign.Semicolon sign_59 refl) (λ rest h. alone_59 rest)
spells-symbol sign.Colon = spells-less (58 ∷ []) (symbol sign.Colon ∷ []) (spells-short 58 sign.Colon sign_58 refl) (λ rest h. alone_58 rest)
spells-symbol sign.Dot = spells-less (46 ∷ []) (symbol sign.Dot ∷ []) (spells-short 46 sign.Dot sign_46 refl) (λ rest h. alone_46 rest)
spells-symbol sign.Assign = spells-short 61 sign.Assign sign_61 refl
spells-symbol sign.Less = spells-short 60 sign.Less sign_60 refl
spells-symbol sign.Greater = spells-short 62 sign.Greater sign_62 refl
spells-symbol sign.Not = spells-short 33 sign.Not sign_33 refl
spells-symbol sign.Equal = spells-long 61 61 sign.Equal sign_61 refl refl
spells-symbol sign.NotEqual = spells-long 33 61 sign.NotEqual sign_33 refl refl
spells-symbol sign.Different = spells-long 60 62 sign.Different sign_60 refl refl
spells-symbol sign.LessEqual = spells-long 60 61 sign.LessEqual sign_60 refl refl
spells-symbol sign.GreaterEqual = spells-long 62 61 sign.GreaterEqual sign_62 refl refl
spells-symbol sign.And = spells-long 38 38 sign.And sign_38 refl refl
spells-symbol sign.Or = spells-long 124 124 sign.Or sign_124 refl refl
spells-symbol sign.Increment = spells-long 43 43 sign.Increment sign_43 refl refl
spells-symbol sign.Arrow = spells-long 45 62 sign.Arrow sign_45 refl refl

-- a blank may come behind every symbol
pub blank_follows : (x : Symbol) (rest : List ℕ) → MayFollow x (32 ∷ rest)
unfolding long_symbol
blank_follows sign.Plus rest = (refl, refl, refl)
blank_follows sign.Minus rest = (refl, refl, refl)
blank_follows sign.Star rest = tt
blank_follows sign.Slash rest = (refl, refl, refl)
blank_follows sign.Percent rest = tt
blank_follows sign.Open rest = tt
blank_follows sign.Close rest = tt
blank_follows sign.OpenBracket rest = tt
blank_follows sign.CloseBracket rest = tt
blank_follows sign.OpenBrace rest = tt
blank_follows sign.CloseBrace rest = tt
blank_follows sign.Comma rest = tt
blank_follows sign.Semicolon rest = tt
blank_follows sign.Colon rest = tt
blank_follows sign.Dot rest = tt
blank_follows sign.Assign rest = (refl, refl, refl)
blank_follows sign.Less rest = (refl, refl, refl)
blank_follows sign.Greater rest = (refl, refl, refl)
blank_follows sign.Not rest = (refl, refl, refl)
blank_follows sign.Equal rest = tt
blank_follows sign.NotEqual rest = tt
blank_follows sign.Different rest = tt
blank_follows sign.LessEqual rest = tt
blank_follows sign.GreaterEqual rest = tt
blank_follows sign.And rest = tt
blank_follows sign.Or rest = tt
blank_follows sign.Increment rest = tt
blank_follows sign.Arrow rest = tt

-- what begins with no = and no > may come behind - and !
abbrev pub NoSign : List ℕ → Type 0
NoSign [] = Unit {0}
NoSign (d ∷ ds) = (d == 61 ≡ false) × (d == 62 ≡ false)

-- what begins with no sign may stand behind a minus
pub minus_follows : (rest : List ℕ) → NoSign rest → MayFollow sign.Minus rest
unfolding long_symbol
minus_follows [] h = tt
minus_follows (d ∷ ds) h = (rw h.1 refl, refl, refl)

-- and behind an exclamation mark
pub not_follows : (rest : List ℕ) → NoSign rest → MayFollow sign.Not rest
unfolding long_symbol
not_follows [] h = tt
not_follows (d ∷ ds) h = (rw h.0 refl, refl, refl)

-- the first digit of a number
pub decimal-first : (n : ℕ) (rest : List ℕ) → n ≤ most → NoSign (decimal n ++ rest)
decimal-first n rest fits = by (decimal n) (decimal_is_IsNumeral n (omega arith)) where
  by : (ds : List ℕ) → (0 < length ds × AllDigits 10 ds) × (digits_value_after 10 0 ds ≡ n) → NoSign (ds ++ rest)
  by [] h = absurd (omega (arith, h.0.0))
  by (c ∷ cs) h =
      let d = digit_between c h.0.1.0 in
      (ne_eqb c 61 (λ e. absurd (omega (arith, d.1))), ne_eqb c 62 (λ e. absurd (omega (arith, d.1))))
