-- A piece has a byte and is no longer than the text.
use Rattle.std.proofs.Common.{◌≡◌, ℕ, ◌+◌, ◌<◌, ◌≤◌, Bool, true, false, List, [], ◌∷◌, length, drop, refl, sym, subst, arith}
use Rattle.std.proofs.Common.{length-drop}
use Rattle.std.specs.Prelude.{Option, Some, None, if◌then◌else◌, nat_lt, ◌==◌, ◌&&◌}
use Rattle.std.proofs.lemmas.Bool.{and_parts}
use Rattle.std.proofs.lemmas.List.Sums.{prefix_len-le-length}
use Rattle.std.specs.List.{prefix_len}
use Rattle.text_tokens.specs.declared.sign.Symbol.{Symbol}
use Rattle.text_tokens.specs.Symbols.{short_symbol, long_symbol}
use Rattle.text_tokens.specs.Lexis.{Piece, token, big, piece_at, first_is, begins_with, block_end, block_piece, is_blank, is_letter, is_digit}
use Rattle.text_tokens.specs.Lexis.{is_word, is_in_line, var_piece, number_piece, symbol_piece, short_piece, long_piece, most}
use Rattle.text_tokens.specs.Tok.{number}
use Rattle.text_tokens.specs.Pieces.{PieceFits}

-- a choice fits if each side fits where it is taken
choose : (room : ℕ) (b : Bool) (p q : Piece) → (b ≡ true → PieceFits room p) → (b ≡ false → PieceFits room q) → PieceFits room (if b then p else q)
choose room true p q f g = f refl
choose room false p q f g = g refl

prefix_more : (p : ℕ → Bool) (c : ℕ) (cs : List ℕ) → p c ≡ true → 0 < prefix_len p (c ∷ cs)
prefix_more p c cs h = rw h (omega arith)

-- a letter goes on a name
pub letter_word : (c : ℕ) → is_letter c ≡ true → is_word c ≡ true
unfolding is_word
letter_word c h = rw h refl

name_has : (s : List ℕ) → first_is is_letter s ≡ true → 0 < prefix_len is_word s
unfolding first_is
name_has [] h = cc
name_has (c ∷ cs) h = prefix_more is_word c cs (letter_word c h)

-- a text that begins with a digit has a digit at its front
pub digits_has : (s : List ℕ) → first_is is_digit s ≡ true → 0 < prefix_len is_digit s
unfolding first_is
digits_has [] h = cc
digits_has (c ∷ cs) h = prefix_more is_digit c cs h

line_byte : (c d : ℕ) → (c == d) ≡ true → is_in_line d ≡ true → is_in_line c ≡ true
line_byte c d h k = grind arith

line_has : (d : ℕ) (s : List ℕ) → is_in_line d ≡ true → begins_with d s ≡ true → 0 < prefix_len is_in_line s
unfolding begins_with
line_has d [] k h = cc
line_has d (c ∷ cs) k h = prefix_more is_in_line c cs (line_byte c d h k)

in_line_slash : is_in_line 47 ≡ true
unfolding is_in_line
in_line_slash = refl

in_line_hash : is_in_line 35 ≡ true
unfolding is_in_line
in_line_hash = refl

has_byte : (d : ℕ) (s : List ℕ) → begins_with d s ≡ true → 0 < length s
unfolding begins_with
has_byte d [] h = cc
has_byte d (c ∷ cs) h = omega arith

-- what a comment's end is
pub record Ends (n room : ℕ) (end : Option ℕ) : Type 0 where
  pub within : (m : ℕ) → end ≡ Some m → (n < m) × (m ≤ n + room)

ends_if : (n room : ℕ) (b : Bool) (x y : Option ℕ) → (b ≡ true → Ends n room x) → Ends n room y → Ends n room (if b then x else y)
ends_if n room true x y f g = f refl
ends_if n room false x y f g = g

at_end : (n room k m : ℕ) → n < k → k ≤ n + room → Some k ≡ Some m → (n < m) × (m ≤ n + room)
at_end n room k m low high e = let same : k ≡ m = cc in (omega arith, omega arith)

block_ends : (n : ℕ) (s : List ℕ) → Ends n (length s) (block_end n s)
unfolding block_end
block_ends n [] = record { within = λ m e. cc }
block_ends n (c ∷ cs) =
    let more : Ends (n + 1) (length cs) (block_end (n + 1) cs) = block_ends (n + 1) cs in
    ends_if n (length (c ∷ cs)) (c == 42 && begins_with 47 cs) (Some (n + 2)) (block_end (n + 1) cs)
    (λ h. let slash : 0 < length cs = has_byte 47 cs (and_parts (c == 42) (begins_with 47 cs) h).1 in
    record { within = λ m e. at_end n (length (c ∷ cs)) (n + 2) m (omega arith) (omega arith) e })
    (record { within = λ m e. let w = more.within m e in (omega arith, omega arith) })

block_fits : (room : ℕ) (end : Option ℕ) (s : List ℕ) → Ends 2 (length s) end → length s + 2 ≤ room → PieceFits room (block_piece end)
block_fits room None s e h = tt
block_fits room (Some m) s e h = let w = e.within m refl in (omega arith, omega arith)

var_fits : (room : ℕ) (s : List ℕ) → length s < room → PieceFits room (var_piece s)
unfolding var_piece
var_fits room s h =
    let le : prefix_len is_word s ≤ length s = prefix_len-le-length is_word s in
    choose room (first_is is_letter s) _ _ (λ _. (omega arith, omega arith)) (λ _. tt)

number_fits : (room value len : ℕ) → 0 < len → len ≤ room → PieceFits room (number_piece value len)
unfolding number_piece
number_fits room value len h k = choose room (nat_lt most value) big (token (number value) len) (λ _. tt) (λ _. (h, k))

short_fits : (room : ℕ) (o : Option Symbol) → 0 < room → PieceFits room (short_piece o)
short_fits room None h = tt
short_fits room (Some s) h = (omega arith, omega arith)

long_fits : (room c : ℕ) (o : Option Symbol) → 1 < room → PieceFits room (long_piece c o)
long_fits room c None h = short_fits room (short_symbol c) (omega arith)
long_fits room c (Some s) h = (omega arith, omega arith)

symbol_fits : (s : List ℕ) → PieceFits (length s) (symbol_piece s)
unfolding symbol_piece
symbol_fits [] = tt
symbol_fits (c ∷ []) = short_fits 1 (short_symbol c) (omega arith)
symbol_fits (c ∷ d ∷ ds) = long_fits (length (c ∷ d ∷ ds)) c (long_symbol c d) (omega arith)

-- a piece has a byte and is no longer than the text
pub piece_fits : (s : List ℕ) → 0 < length s → PieceFits (length s) (piece_at s)
unfolding piece_at
piece_fits s pos =
    let room = length s in
    let in_line : prefix_len is_in_line s ≤ length s = prefix_len-le-length is_in_line s in
    let words : prefix_len is_word s ≤ length s = prefix_len-le-length is_word s in
    let digits : prefix_len is_digit s ≤ length s = prefix_len-le-length is_digit s in
    choose room (first_is is_blank s) _ _ (λ _. (omega arith, omega arith)) (λ _.
    choose room (begins_with 35 s) _ _ (λ h. (line_has 35 s in_line_hash h, in_line)) (λ _.
    choose room (begins_with 47 s && begins_with 47 (drop 1 s)) _ _ (λ h. (line_has 47 s in_line_slash (and_parts _ _ h).0, in_line)) (λ _.
    choose room (begins_with 47 s && begins_with 42 (drop 1 s)) _ _
    (λ h. let after : 0 < length (drop 1 s) = has_byte 42 (drop 1 s) (and_parts _ _ h).1 in
    block_fits room (block_end 2 (drop 2 s)) (drop 2 s) (block_ends 2 (drop 2 s)) (omega (arith, length-drop 1 s, length-drop 2 s))) (λ _.
    choose room (first_is is_letter s) _ _ (λ h. (name_has s h, words)) (λ _.
    choose room (begins_with 36 s) _ _ (λ h. var_fits room (drop 1 s) (omega (arith, length-drop 1 s))) (λ _.
    choose room (first_is is_digit s) _ _ (λ h. number_fits room _ (prefix_len is_digit s) (digits_has s h) digits) (λ _.
    symbol_fits s)))))))

pub room : (s : List ℕ) (p : Piece) → 0 < length s → p ≡ piece_at s → PieceFits (length s) p
room s p pos same = subst (PieceFits (length s)) (sym same) (piece_fits s pos)

pub ruleset rooms = (room, piece_fits)
