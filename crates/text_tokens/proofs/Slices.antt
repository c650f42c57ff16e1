-- The tokens of a text are slices of it.
use Rattle.std.proofs.Math.Numerals.{add-one}
use Rattle.std.proofs.Common.{◌≡◌, ℕ, zero, suc, ◌+◌, ◌-◌, ◌<◌, ◌≤◌, Bool, true, false, List, [], ◌∷◌, length, take, drop, refl, sym, ap, ◌∙◌, subst, arith}
use Rattle.std.proofs.lemmas.List.{length-drop}
use Rattle.std.specs.Prelude.{Option, Some, None, Result, Ok, Err, ◌==◌, ◌&&◌, if◌then◌else◌, nat_lt}
use Rattle.std.specs.List.{prefix_len, list_all}
use Rattle.std.proofs.lemmas.Bool.{and_parts, eqb-true}
use Rattle.text_tokens.specs.declared.sign.Symbol.{Symbol}
use Rattle.text_tokens.specs.declared.sign.Symbol.TheVariants as sign
use Rattle.text_tokens.specs.declared.fault.LexFault.{LexFault}
use Rattle.text_tokens.specs.declared.fault.LexFault.TheVariants.{BadByte, BigNumber, NoMemory}
use Rattle.text_tokens.specs.Symbols.{short_symbol, long_symbol, symbol_bytes}
use Rattle.text_tokens.specs.Lexis.{Piece, blank, token, bad, big, marks, with_mark, piece_at, first_is, begins_with, is_blank, is_letter, is_digit, is_word}
use Rattle.text_tokens.specs.Lexis.{block_end, block_piece, var_piece, number_piece, symbol_piece, short_piece, long_piece, decimal_from}
use Rattle.text_tokens.specs.Lexis.{most, tokens_in}
use Rattle.text_tokens.specs.Pieces.{PieceFits}
use Rattle.text_tokens.specs.Tok.{Tok, Mark, number}
use Rattle.text_tokens.specs.Laws.{IsWord, IsWrittenAs, IsSmall, begins_comment, StandInTextOrder, AllSpans, TokensAreSlices, FaultsAreThere}
use Rattle.text_tokens.proofs.Gaps.{front-all}
use Rattle.text_tokens.proofs.Longest.{longest-piece, no-comment}
use Rattle.text_tokens.proofs.Rooms.{piece_fits, letter_word, digits_has}
use Rattle.std.proofs.lemmas.Bool.Decides.{nat_tests}
use Rattle.std.proofs.lemmas.List.Folds.{length-prefix_len}
use Rattle.std.proofs.lemmas.Option.{none-some}

-- a symbol's bytes
chosen : (b : Bool) (x : Symbol) (o : Option Symbol) (y : Symbol) → (if b then Some x else o) ≡ Some y → (P : Symbol → Type 0) → (b ≡ true → P x)
    → (o ≡ Some y → P y) → P y
chosen true x o y e P here there = subst P (some_inj e) (here refl) where
  some_inj : Some x ≡ Some y → x ≡ y
  some_inj f = cc
chosen false x o y e P here there = there e

one : (c k : ℕ) (x : Symbol) → k ∷ [] ≡ symbol_bytes x → c == k ≡ true → c ∷ [] ≡ symbol_bytes x
one c k x is e = ap (λ (n : ℕ). n ∷ []) (eqb-true c k e) ∙ is

pub short-bytes : (c : ℕ) (y : Symbol) → short_symbol c ≡ Some y → c ∷ [] ≡ symbol_bytes y
unfolding short_symbol
short-bytes c y e =
    chosen (c == 43) sign.Plus _ y e (λ (z : Symbol). c ∷ [] ≡ symbol_bytes z) (one c 43 sign.Plus refl) (λ e1.
    chosen (c == 45) sign.Minus _ y e1 (λ (z : Symbol). c ∷ [] ≡ symbol_bytes z) (one c 45 sign.Minus refl) (λ e2.
    chosen (c == 42) sign.Star _ y e2 (λ (z : Symbol). c ∷ [] ≡ symbol_bytes z) (one c 42 sign.Star refl) (λ e3.
    chosen (c == 47) sign.Slash _ y e3 (λ (z : Symbol). c ∷ [] ≡ symbol_bytes z) (one c 47 sign.Slash refl) (λ e4.
    chosen (c == 37) sign.Percent _ y e4 (λ (z : Symbol). c ∷ [] ≡ symbol_bytes z) (one c 37 sign.Percent refl) (λ e5.
    chosen (c == 40) sign.Open _ y e5 (λ (z : Symbol). c ∷ [] ≡ symbol_bytes z) (one c 40 sign.Open refl) (λ e6.
    chosen (c == 41) sign.Close _ y e6 (λ (z : Symbol). c ∷ [] ≡ symbol_bytes z) (one c 41 sign.Close refl) (λ e7.
    chosen (c == 91) sign.OpenBracket _ y e7 (λ (z : Symbol). c ∷ [] ≡ symbol_bytes z) (one c 91 sign.OpenBracket refl) (λ e8.
    chosen (c == 93) sign.CloseBracket _ y e8 (λ (z : Symbol). c ∷ [] ≡ symbol_bytes z) (one c 93 sign.CloseBracket refl) (λ e9.
    chosen (c == 123) sign.OpenBrace _ y e9 (λ (z : Symbol). c ∷ [] ≡ symbol_bytes z) (one c 123 sign.OpenBrace refl) (λ e10.
    chosen (c == 125) sign.CloseBrace _ y e10 (λ (z : Symbol). c ∷ [] ≡ symbol_bytes z) (one c 125 sign.CloseBrace refl) (λ e11.
    chosen (c == 44) sign.Comma _ y e11 (λ (z : Symbol). c ∷ [] ≡ symbol_bytes z) (one c 44 sign.Comma refl) (λ e12.
    chosen (c == 59) sign.Semicolon _ y e12 (λ (z : Symbol). c ∷ [] ≡ symbol_bytes z) (one c 59 sign.Semicolon refl) (λ e13.
    chosen (c == 58) sign.Colon _ y e13 (λ (z : Symbol). c ∷ [] ≡ symbol_bytes z) (one c 58 sign.Colon refl) (λ e14.
    chosen (c == 46) sign.Dot _ y e14 (λ (z : Symbol). c ∷ [] ≡ symbol_bytes z) (one c 46 sign.Dot refl) (λ e15.
    chosen (c == 61) sign.Assign _ y e15 (λ (z : Symbol). c ∷ [] ≡ symbol_bytes z) (one c 61 sign.Assign refl) (λ e16.
    chosen (c == 60) sign.Less _ y e16 (λ (z : Symbol). c ∷ [] ≡ symbol_bytes z) (one c 60 sign.Less refl) (λ e17.
    chosen (c == 62) sign.Greater _ y e17 (λ (z : Symbol). c ∷ [] ≡ symbol_bytes z) (one c 62 sign.Greater refl) (λ e18.
    chosen (c == 33) sign.Not _ y e18 (λ (z : Symbol). c ∷ [] ≡ symbol_bytes z) (one c 33 sign.Not refl) (λ e19.
    absurd (none-some _ e19))))))))))))))))))))

pair : (c d k l : ℕ) (x : Symbol) → k ∷ (l ∷ []) ≡ symbol_bytes x → c == k && d == l ≡ true → c ∷ (d ∷ []) ≡ symbol_bytes x
pair c d k l x is e =
    let both = and_parts (c == k) (d == l) e in
    ap (λ (n : ℕ). n ∷ (d ∷ [])) (eqb-true c k both.0) ∙ ap (λ (n : ℕ). k ∷ (n ∷ [])) (eqb-true d l both.1) ∙ is

pub long-bytes : (c d : ℕ) (y : Symbol) → long_symbol c d ≡ Some y → c ∷ (d ∷ []) ≡ symbol_bytes y
unfolding long_symbol
long-bytes c d y e =
    chosen (c == 61 && d == 61) sign.Equal _ y e (λ (z : Symbol). c ∷ (d ∷ []) ≡ symbol_bytes z) (pair c d 61 61 sign.Equal refl) (λ e1.
    chosen (c == 33 && d == 61) sign.NotEqual _ y e1 (λ (z : Symbol). c ∷ (d ∷ []) ≡ symbol_bytes z) (pair c d 33 61 sign.NotEqual refl) (λ e2.
    chosen (c == 60 && d == 62) sign.Different _ y e2 (λ (z : Symbol). c ∷ (d ∷ []) ≡ symbol_bytes z) (pair c d 60 62 sign.Different refl) (λ e3.
    chosen (c == 60 && d == 61) sign.LessEqual _ y e3 (λ (z : Symbol). c ∷ (d ∷ []) ≡ symbol_bytes z) (pair c d 60 61 sign.LessEqual refl) (λ e4.
    chosen (c == 62 && d == 61) sign.GreaterEqual _ y e4 (λ (z : Symbol). c ∷ (d ∷ []) ≡ symbol_bytes z) (pair c d 62 61 sign.GreaterEqual refl) (λ e5.
    chosen (c == 38 && d == 38) sign.And _ y e5 (λ (z : Symbol). c ∷ (d ∷ []) ≡ symbol_bytes z) (pair c d 38 38 sign.And refl) (λ e6.
    chosen (c == 124 && d == 124) sign.Or _ y e6 (λ (z : Symbol). c ∷ (d ∷ []) ≡ symbol_bytes z) (pair c d 124 124 sign.Or refl) (λ e7.
    chosen (c == 43 && d == 43) sign.Increment _ y e7 (λ (z : Symbol). c ∷ (d ∷ []) ≡ symbol_bytes z) (pair c d 43 43 sign.Increment refl) (λ e8.
    chosen (c == 45 && d == 62) sign.Arrow _ y e8 (λ (z : Symbol). c ∷ (d ∷ []) ≡ symbol_bytes z) (pair c d 45 62 sign.Arrow refl) (λ e9.
    absurd (none-some _ e9))))))))))

-- the token of a piece is written at the front of the text, and is not too great
abbrev Right : List ℕ → Piece → Type 0
Right s (blank len) = Unit {0}
Right s (token t len) = IsWrittenAs t (take len s) × IsSmall t
Right s bad = Unit {0}
Right s big = Unit {0}

choose : (s : List ℕ) (b : Bool) (p q : Piece) → (b ≡ true → Right s p) → (b ≡ false → Right s q) → Right s (if b then p else q)
choose s true p q f g = f refl
choose s false p q f g = g refl

block_right : (s : List ℕ) (end : Option ℕ) → Right s (block_piece end)
block_right s None = tt
block_right s (Some m) = tt

-- a dollar sign comes first
dollar : (s : List ℕ) → begins_with 36 s ≡ true → s ≡ 36 ∷ drop 1 s
unfolding begins_with
dollar [] h = cc
dollar (c ∷ cs) h = ap (λ (n : ℕ). n ∷ cs) (eqb-true c 36 h)

-- the front of a text that begins with a letter, up to what is not of a word, is a word
word_front : (s : List ℕ) → first_is is_letter s ≡ true → IsWord (take (prefix_len is_word s) s)
unfolding first_is
word_front [] h = cc
word_front (c ∷ cs) h = (first, front-all is_word (c ∷ cs)) where
  first : first_is is_letter (take (prefix_len is_word (c ∷ cs)) (c ∷ cs)) ≡ true
  first = let one : 1 + prefix_len is_word cs ≡ suc (prefix_len is_word cs) = omega arith in rw (letter_word c h, one) h

var_right : (cs : List ℕ) → Right (36 ∷ cs) (var_piece cs)
unfolding var_piece
var_right cs = choose (36 ∷ cs) (first_is is_letter cs) _ _ (λ h. ((taken (prefix_len is_word cs), word_front cs h), tt)) (λ _. tt) where
  taken : (n : ℕ) → take (n + 1) (36 ∷ cs) ≡ 36 ∷ take n cs
  taken n = ap (λ (k : ℕ). take k (36 ∷ cs)) (add-one n)

number_right : (s : List ℕ) (value len : ℕ) → 0 < length (take len s) → list_all is_digit (take len s) ≡ true → decimal_from 0 (take len s) ≡ value
    → Right s (number_piece value len)
unfolding number_piece
number_right s value len some all is = choose s (nat_lt most value) big (token (number value) len) (λ _. tt) (λ h. ((some, all, is), small h)) where
  small : nat_lt most value ≡ false → value ≤ most
  small h = grind (arith, nat_tests)

digits_right : (s : List ℕ) → first_is is_digit s ≡ true → Right s (number_piece (decimal_from 0 (take (prefix_len is_digit s) s)) (prefix_len is_digit s))
digits_right s h =
    number_right s (decimal_from 0 (take (prefix_len is_digit s) s)) (prefix_len is_digit s) (omega (arith, digits_has s h, length-prefix_len is_digit s))
    (front-all is_digit s) refl

short_right : (c : ℕ) (cs : List ℕ) → Right (c ∷ cs) (short_piece (short_symbol c))
short_right c cs = by (short_symbol c) refl where
  by : (o : Option Symbol) → short_symbol c ≡ o → Right (c ∷ cs) (short_piece o)
  by None is = tt
  by (Some x) is = (short-bytes c x is, tt)

long_right : (c d : ℕ) (ds : List ℕ) → Right (c ∷ (d ∷ ds)) (long_piece c (long_symbol c d))
long_right c d ds = by (long_symbol c d) refl where
  by : (o : Option Symbol) → long_symbol c d ≡ o → Right (c ∷ (d ∷ ds)) (long_piece c o)
  by None is = short_right c (d ∷ ds)
  by (Some x) is = (long-bytes c d x is, tt)

symbol_right : (s : List ℕ) → Right s (symbol_piece s)
unfolding symbol_piece
symbol_right [] = tt
symbol_right (c ∷ []) = short_right c []
symbol_right (c ∷ d ∷ ds) = long_right c d ds

piece_right : (s : List ℕ) → Right s (piece_at s)
unfolding piece_at
piece_right s =
    choose s (first_is is_blank s) _ _ (λ _. tt) (λ _.
    choose s (begins_with 35 s) _ _ (λ _. tt) (λ _.
    choose s (begins_with 47 s && begins_with 47 (drop 1 s)) _ _ (λ _. tt) (λ _.
    choose s (begins_with 47 s && begins_with 42 (drop 1 s)) _ _ (λ _. block_right s (block_end 2 (drop 2 s))) (λ _.
    choose s (first_is is_letter s) _ _ (λ h. ((refl, word_front s h), tt)) (λ _.
    choose s (begins_with 36 s) _ _ (λ h. subst (λ (l : List ℕ). Right l (var_piece (drop 1 s))) (sym (dollar s h)) (var_right (drop 1 s))) (λ _.
    choose s (first_is is_digit s) _ _ (λ h. digits_right s h) (λ _.
    symbol_right s)))))))

-- how a reading with a token in front began
pub with-ok : (m : Mark) (r : Result (List Mark) LexFault) (ms : List Mark) → with_mark m r ≡ Ok ms → (rest : List Mark) × (r ≡ Ok rest) × (ms ≡ m ∷ rest)
with-ok m (Ok rest) ms e = (rest, refl, same e) where
  same : with_mark m (Ok rest) ≡ Ok ms → ms ≡ m ∷ rest
  same f = cc
with-ok m (Err fault) ms e = cc

with-err : (m : Mark) (r : Result (List Mark) LexFault) (fault : LexFault) → with_mark m r ≡ Err fault → r ≡ Err fault
with-err m (Ok rest) fault e = cc
with-err m (Err other) fault e = e

-- what is known of the tokens from a place on
abbrev Known : List ℕ → ℕ → List Mark → Type 0
Known text at ms = StandInTextOrder at ms × AllSpans text ms

sooner : (text : List ℕ) (at later : ℕ) (ms : List Mark) → at ≤ later → Known text later ms → Known text at ms
sooner text at later [] le h = h
sooner text at later (m ∷ ms) le h = ((omega (arith, h.0.0), h.0.1), h.1)

-- the text from the next place on
pub next_drop : (text : List ℕ) (at c : ℕ) (cs : List ℕ) → c ∷ cs ≡ drop at text → cs ≡ drop (at + 1) text
next_drop [] at c cs e = none at e where
  none : (n : ℕ) → c ∷ cs ≡ drop n [] → cs ≡ drop (n + 1) []
  none zero f = cc
  none (suc n) f = cc
next_drop (d ∷ ds) zero c cs e = cc
next_drop (d ∷ ds) (suc n) c cs e = let more : n + 1 + 1 ≡ suc (n + 1) = omega arith in next_drop ds n c cs e ∙ ap (λ (k : ℕ). drop k (d ∷ ds)) (shift n) where
  shift : (k : ℕ) → suc (k + 1) ≡ suc k + 1
  shift k = omega arith

-- how much of the text is left
pub room_left : (text : List ℕ) (at : ℕ) (s : List ℕ) → s ≡ drop at text → 0 < length s → at + length s ≡ length text
room_left text at s here some = omega (arith, ap length here, length-drop at text)

-- one token before those that are known
one_known : (text : List ℕ) (at len : ℕ) (t : Tok) (s : List ℕ) (rest : List Mark) → s ≡ drop at text → 0 < len → len ≤ length s → piece_at s ≡ token t len
    → IsWrittenAs t (take len s) × IsSmall t → Known text (at + len) rest → Known text at (record { tok = t; start = at; end = at + len } ∷ rest)
one_known text at len t s rest here some fits is written more =
    let size : at + len - at ≡ len = omega arith in (
      (omega arith, more.0),
      (
        record {
          some = omega arith;
          within = omega (arith, room_left text at s here (omega arith), fits);
          written = subst (λ (n : ℕ). IsWrittenAs t (take n (drop at text))) (sym size) (subst (λ (l : List ℕ). IsWrittenAs t (take len l)) here written.0);
          small = written.1;
          no_comment = subst (λ (l : List ℕ). begins_comment l ≡ false) here (no-comment s t len is);
          longest = λ u bytes rest e w. subst (λ (n : ℕ). length bytes ≤ n) (sym size) (longest-piece s t len some is u bytes rest (here ∙ e) w);
        },
        more.1,
      ),
    )

-- the tokens from a piece on
abbrev pub after_piece : ℕ → List ℕ → Piece → Result (List Mark) LexFault
after_piece at cs (blank len) = marks (len - 1) (at + 1) cs
after_piece at cs (token t len) = with_mark (record { tok = t; start = at; end = at + len }) (marks (len - 1) (at + 1) cs)
after_piece at cs bad = Err (BadByte at)
after_piece at cs big = Err (BigNumber at)

-- from a piece on
from_piece : (text : List ℕ) (at c : ℕ) (cs : List ℕ) (p : Piece) (ms : List Mark) → c ∷ cs ≡ drop at text → piece_at (c ∷ cs) ≡ p → PieceFits (length (c ∷ cs)) p
    → Right (c ∷ cs) p
    → ((skip : ℕ) (ks : List Mark) → marks skip (at + 1) cs ≡ Ok ks → Known text (at + 1 + skip) ks)
    → after_piece at cs p ≡ Ok ms → Known text at ms
from_piece text at c cs (blank len) ms here is fits right more e = sooner text at (at + 1 + (len - 1)) ms (omega arith) (more (len - 1) ms e)
from_piece text at c cs (token t len) ms here is fits right more e =
    let w = with-ok (record { tok = t; start = at; end = at + len }) (marks (len - 1) (at + 1) cs) ms e in
    let next : at + 1 + (len - 1) ≡ at + len = omega (arith, fits.0) in
    subst (λ (l : List Mark). Known text at l) (sym w.2)
    (one_known text at len t (c ∷ cs) w.0 here fits.0 fits.1 is right (subst (λ (n : ℕ). Known text n w.0) next (more (len - 1) w.0 w.1)))
from_piece text at c cs bad ms here is fits right more e = cc
from_piece text at c cs big ms here is fits right more e = cc

slices : (text : List ℕ) (skip at : ℕ) (s : List ℕ) (ms : List Mark) → s ≡ drop at text → marks skip at s ≡ Ok ms → Known text (at + skip) ms
unfolding marks
slices text skip at [] [] here e = (tt, tt)
slices text skip at [] (m ∷ ms) here e = cc
slices text (suc skip) at (c ∷ cs) ms here e =
    sooner text (at + suc skip) (at + 1 + skip) ms (omega arith) (slices text skip (at + 1) cs ms (next_drop text at c cs here) e)
slices text zero at (c ∷ cs) ms here e =
    sooner text (at + zero) at ms (omega arith)
    (from_piece text at c cs (piece_at (c ∷ cs)) ms here refl (piece_fits (c ∷ cs) (omega arith)) (piece_right (c ∷ cs))
    (λ skip ks f. slices text skip (at + 1) cs ks (next_drop text at c cs here) f) e)

-- the law: tokens ascend, and each is the slice at its span and the longest there
pub tokens_are_slices : TokensAreSlices
tokens_are_slices text ms e = slices text 0 0 text ms refl e

-- where a fault is told
abbrev IsThere : List ℕ → LexFault → Type 0
IsThere text (BadByte at) = (at < length text) × (piece_at (drop at text) ≡ bad)
IsThere text (BigNumber at) = (at < length text) × (piece_at (drop at text) ≡ big)
IsThere text NoMemory = ⊥

from_fault : (text : List ℕ) (at c : ℕ) (cs : List ℕ) (p : Piece) (fault : LexFault) → c ∷ cs ≡ drop at text → piece_at (c ∷ cs) ≡ p
    → ((skip : ℕ) → marks skip (at + 1) cs ≡ Err fault → IsThere text fault)
    → after_piece at cs p ≡ Err fault → IsThere text fault
from_fault text at c cs (blank len) fault here is more e = more (len - 1) e
from_fault text at c cs (token t len) fault here is more e =
    more (len - 1) (with-err (record { tok = t; start = at; end = at + len }) (marks (len - 1) (at + 1) cs) fault e)
from_fault text at c cs bad fault here is more e =
    subst (IsThere text) (err_inj e) (omega (arith, room_left text at (c ∷ cs) here (omega arith)), ap piece_at (sym here) ∙ is)
  where
    err_inj : ◌≡◌ {A = Result (List Mark) LexFault} (Err (BadByte at)) (Err fault) → BadByte at ≡ fault
    err_inj f = cc
from_fault text at c cs big fault here is more e =
    subst (IsThere text) (err_inj e) (omega (arith, room_left text at (c ∷ cs) here (omega arith)), ap piece_at (sym here) ∙ is)
  where
    err_inj : ◌≡◌ {A = Result (List Mark) LexFault} (Err (BigNumber at)) (Err fault) → BigNumber at ≡ fault
    err_inj f = cc

faults : (text : List ℕ) (skip at : ℕ) (s : List ℕ) (fault : LexFault) → s ≡ drop at text → marks skip at s ≡ Err fault → IsThere text fault
unfolding marks
faults text skip at [] fault here e = cc
faults text (suc skip) at (c ∷ cs) fault here e = faults text skip (at + 1) cs fault (next_drop text at c cs here) e
faults text zero at (c ∷ cs) fault here e =
    from_fault text at c cs (piece_at (c ∷ cs)) fault here refl (λ skip f. faults text skip (at + 1) cs fault (next_drop text at c cs here) f) e

-- the law: a fault is where it is told
pub faults_are_there : FaultsAreThere
faults_are_there text at = (λ e. faults text 0 0 text (BadByte at) refl e, λ e. faults text 0 0 text (BigNumber at) refl e)

-- the tokens of a text are no matter of memory
pub no_want : (text : List ℕ) → tokens_in text ≡ Err NoMemory → ⊥
no_want text e = faults text 0 0 text NoMemory refl e
