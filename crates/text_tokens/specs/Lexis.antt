-- The tokens of a text.
use Rattle.std.specs.Prelude.{◌≡◌, ℕ, ◌+◌, ◌-◌, ◌*◌, ◌<◌, ◌≤◌, Bool, false, not, ◌==◌, ◌&&◌, ◌||◌, if◌then◌else◌, nat_lt, zero, suc, List, [], ◌∷◌}
use Rattle.std.specs.Prelude.{Option, Some, None, Result, Ok, Err, take, drop}
use Rattle.std.specs.List.{prefix_len}
unfoldable pub use Rattle.river_base.specs.Name.{is_letter, is_digit, is_word}
use Rattle.text_tokens.specs.declared.sign.Symbol.{Symbol}
use Rattle.text_tokens.specs.declared.fault.LexFault.{LexFault}
use Rattle.text_tokens.specs.declared.fault.LexFault.TheVariants.{BadByte, BigNumber, NoMemory}
use Rattle.text_tokens.specs.Symbols.{short_symbol, long_symbol}
use Rattle.text_tokens.specs.Tok.{Tok, name, var, number, symbol, Mark}

-- a space, a tab, a carriage return or a line feed
unfoldable pub is_blank : ℕ → Bool
is_blank c = c == 32 || c == 9 || c == 13 || c == 10

-- any byte but a line feed
unfoldable pub is_in_line : ℕ → Bool
is_in_line c = not (c == 10)

-- what stands at the front of a text
pub data Piece : Type 0 where
  -- a separator or a comment of so many bytes
  blank : ℕ → Piece
  -- a token of so many bytes
  token : Tok → ℕ → Piece
  -- no token, separator or comment
  bad : Piece
  -- a number that is too great
  big : Piece

-- the text begins with this byte
unfoldable pub begins_with : ℕ → List ℕ → Bool
begins_with d [] = false
begins_with d (c ∷ cs) = c == d

-- where the first */ ends, if there is one; the bytes begin at place n
unfoldable pub block_end : ℕ → List ℕ → Option ℕ
block_end n [] = None
block_end n (c ∷ cs) = if c == 42 && begins_with 47 cs then Some (n + 2) else block_end (n + 1) cs

-- the number that has these digits, behind digits with this value
unfoldable pub decimal_from : ℕ → List ℕ → ℕ
decimal_from value [] = value
decimal_from value (c ∷ cs) = decimal_from (value * 10 + (c - 48)) cs

-- the greatest value of a number
abbrev pub most : ℕ
most = 9223372036854775807

-- the value, unless it is too great
abbrev pub Limited : Option ℕ → ℕ → Type 0
Limited (Some v) value = (v ≡ value) × (v ≤ most)
Limited None value = most < value

unfoldable pub number_piece : ℕ → ℕ → Piece
number_piece value len = if nat_lt most value then big else token (number value) len

-- a comment that ends there, or never
abbrev pub block_piece : Option ℕ → Piece
block_piece None = bad
block_piece (Some len) = blank len

-- the first byte is of this class
unfoldable pub first_is : (ℕ → Bool) → List ℕ → Bool
first_is p [] = false
first_is p (c ∷ cs) = p c

-- a name of so many bytes
abbrev pub name_piece : ℕ → List ℕ → Piece
name_piece len text = token (name (take len text)) len

-- what stands behind a dollar sign
unfoldable pub var_piece : List ℕ → Piece
var_piece text = if first_is is_letter text then token (var (take (prefix_len is_word text) text)) (prefix_len is_word text + 1) else bad

abbrev pub short_piece : Option Symbol → Piece
short_piece None = bad
short_piece (Some s) = token (symbol s) 1

-- the symbol of two bytes, otherwise that of one byte
abbrev pub long_piece : ℕ → Option Symbol → Piece
long_piece c None = short_piece (short_symbol c)
long_piece c (Some s) = token (symbol s) 2

-- the longest symbol
unfoldable pub symbol_piece : List ℕ → Piece
symbol_piece [] = bad
symbol_piece (c ∷ []) = short_piece (short_symbol c)
symbol_piece (c ∷ d ∷ ds) = long_piece c (long_symbol c d)

-- the piece at the front of a text that is not empty
unfoldable pub piece_at : List ℕ → Piece
piece_at text =
    if first_is is_blank text then blank 1
    else (if begins_with 35 text then blank (prefix_len is_in_line text)
    else (if begins_with 47 text && begins_with 47 (drop 1 text) then blank (prefix_len is_in_line text)
    else (if begins_with 47 text && begins_with 42 (drop 1 text) then block_piece (block_end 2 (drop 2 text))
    else (if first_is is_letter text then name_piece (prefix_len is_word text) text
    else (if begins_with 36 text then var_piece (drop 1 text)
    else (if first_is is_digit text then number_piece (decimal_from 0 (take (prefix_len is_digit text) text)) (prefix_len is_digit text)
    else symbol_piece text))))))

-- a token before these tokens, unless there is a fault
abbrev pub with_mark : Mark → Result (List Mark) LexFault → Result (List Mark) LexFault
with_mark m (Ok ms) = Ok (m ∷ ms)
with_mark m (Err fault) = Err fault

-- the tokens of the bytes, which begin at place at, the first `skip` of which belong to what was there before; or the first fault
unfoldable pub marks : ℕ → ℕ → List ℕ → Result (List Mark) LexFault
marks skip at [] = Ok []
marks (suc skip) at (c ∷ cs) = marks skip (at + 1) cs
marks zero at (c ∷ cs) = elim (piece_at (c ∷ cs)) [
  | blank len ↦ marks (len - 1) (at + 1) cs
  | token t len ↦ with_mark (record { tok = t; start = at; end = at + len }) (marks (len - 1) (at + 1) cs)
  | bad ↦ Err (BadByte at)
  | big ↦ Err (BigNumber at)
]

-- the tokens of a text, or its first fault
abbrev pub tokens_in : List ℕ → Result (List Mark) LexFault
tokens_in text = marks 0 0 text

-- the answer has the tokens of a text or its first fault; want of memory says nothing
abbrev pub Lexes : Result (List Mark) LexFault → List ℕ → Type 0
Lexes (Ok ms) text = tokens_in text ≡ Ok ms
Lexes (Err (BadByte at)) text = tokens_in text ≡ Err (BadByte at)
Lexes (Err (BigNumber at)) text = tokens_in text ≡ Err (BigNumber at)
Lexes (Err NoMemory) text = Unit {0}
