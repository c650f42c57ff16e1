-- What is true of the tokens of all texts.
use Rattle.std.specs.Prelude.{◌≡◌, ◌⊎◌, ℕ, ◌-◌, ◌<◌, ◌≤◌, Bool, true, false, ◌&&◌, ◌||◌, List, [], ◌∷◌, ◌++◌, take, drop, length, Ok, Err}
use Rattle.std.specs.List.{list_all, concat}
use Rattle.text_tokens.specs.declared.fault.LexFault.TheVariants.{BadByte, BigNumber}
use Rattle.text_tokens.specs.Tok.{Tok, name, var, number, symbol, Mark}
use Rattle.text_tokens.specs.Symbols.{symbol_bytes}
use Rattle.text_tokens.specs.Cut.{ends_unit, braces_after, units_of}
use Rattle.text_tokens.specs.Lexis.{tokens_in, piece_at, bad, big, is_blank, is_in_line, is_letter, is_word, is_digit, first_is, begins_with, decimal_from, most}

-- a letter or _, and then letters, digits, _ and @
abbrev pub IsWord : List ℕ → Type 0
IsWord bytes = (first_is is_letter bytes ≡ true) × (list_all is_word bytes ≡ true)

-- the bytes are those of the token: a name; a dollar sign and a name; digits, of the number's value; a symbol
abbrev pub IsWrittenAs : Tok → List ℕ → Type 0
IsWrittenAs (name text) bytes = (bytes ≡ text) × IsWord text
IsWrittenAs (var text) bytes = (bytes ≡ 36 ∷ text) × IsWord text
IsWrittenAs (number value) bytes = (0 < length bytes) × (list_all is_digit bytes ≡ true) × (decimal_from 0 bytes ≡ value)
IsWrittenAs (symbol sign) bytes = bytes ≡ symbol_bytes sign

-- a number is not too great
abbrev pub IsSmall : Tok → Type 0
IsSmall (name text) = Unit {0}
IsSmall (var text) = Unit {0}
IsSmall (number value) = value ≤ most
IsSmall (symbol sign) = Unit {0}

-- a comment begins: #, // or /*
abbrev pub begins_comment : List ℕ → Bool
begins_comment bytes = begins_with 35 bytes || begins_with 47 bytes && (begins_with 47 (drop 1 bytes) || begins_with 42 (drop 1 bytes))

-- the bytes of the text at the token's span are those of the token, and there are some; no comment begins there, and no
-- token that could stand there has more bytes
pub record IsTokenSpan (text : List ℕ) (m : Mark) : Type 0 where
  pub some : m.start < m.end
  pub within : m.end ≤ length text
  pub written : IsWrittenAs m.tok (take (m.end - m.start) (drop m.start text))
  pub small : IsSmall m.tok
  pub no_comment : begins_comment (drop m.start text) ≡ false
  pub longest : (t : Tok) (bytes rest : List ℕ) → drop m.start text ≡ bytes ++ rest → IsWrittenAs t bytes → length bytes ≤ m.end - m.start

-- each token begins where the one before it ended, or later
abbrev pub StandInTextOrder : ℕ → List Mark → Type 0
StandInTextOrder at [] = Unit {0}
StandInTextOrder at (m ∷ ms) = (at ≤ m.start) × StandInTextOrder m.end ms

abbrev pub AllSpans : List ℕ → List Mark → Type 0
AllSpans text [] = Unit {0}
AllSpans text (m ∷ ms) = IsTokenSpan text m × AllSpans text ms

-- the tokens of a text ascend, and each is written at its span and is the longest there
abbrev pub TokensAreSlices : Type 0
TokensAreSlices = (text : List ℕ) (ms : List Mark) → tokens_in text ≡ Ok ms → StandInTextOrder 0 ms × AllSpans text ms

-- a space, a tab, a carriage return or a line feed
abbrev pub IsSeparator : List ℕ → Type 0
IsSeparator bytes = (c : ℕ) × (bytes ≡ c ∷ []) × (is_blank c ≡ true)

-- # or // and what is behind it, up to a line feed or the end of the text
pub record IsLineComment (bytes behind : List ℕ) : Type 0 where
  pub begins : (begins_with 35 bytes || begins_with 47 bytes && begins_with 47 (drop 1 bytes)) ≡ true
  pub in_line : list_all is_in_line bytes ≡ true
  pub ends : first_is is_in_line behind ≡ false

-- /* and what is behind it, up to the first */
pub record IsBlockComment (bytes : List ℕ) : Type 0 where
  pub inside : List ℕ
  pub is : bytes ≡ 47 ∷ 42 ∷ (inside ++ 42 ∷ 47 ∷ [])
  pub first : (before after : List ℕ) → inside ++ 42 ∷ [] ≡ before ++ 42 ∷ 47 ∷ after → ⊥

-- one separator or one comment, before these bytes
abbrev pub IsPassedOver : List ℕ → List ℕ → Type 0
IsPassedOver bytes behind = IsSeparator bytes ⊎ (IsLineComment bytes behind ⊎ IsBlockComment bytes)

-- separators and comments, one after another, before these bytes
abbrev pub AreBlanks : List (List ℕ) → List ℕ → Type 0
AreBlanks [] behind = Unit {0}
AreBlanks (b ∷ bs) behind = IsPassedOver b (concat bs ++ behind) × AreBlanks bs behind

-- between these places of the text there are separators and comments alone
pub record IsBlankBetween (text : List ℕ) (from to : ℕ) : Type 0 where
  pub blanks : List (List ℕ)
  pub within : to ≤ length text
  pub is : drop from text ≡ concat blanks ++ drop to text
  pub are : AreBlanks blanks (drop to text)

-- before the first of these tokens from a place on, between two and behind the last
abbrev pub AreApart : List ℕ → ℕ → List Mark → Type 0
AreApart text at [] = IsBlankBetween text at (length text)
AreApart text at (m ∷ ms) = IsBlankBetween text at m.start × AreApart text m.end ms

-- what lies outside the spans of the tokens is separators and comments alone
abbrev pub TokensAreApart : Type 0
TokensAreApart = (text : List ℕ) (ms : List Mark) → tokens_in text ≡ Ok ms → AreApart text 0 ms

-- where a bad byte is told, no token, separator or comment begins; where a big number is told, one begins
abbrev pub FaultsAreThere : Type 0
FaultsAreThere =
    (text : List ℕ) (at : ℕ) → (tokens_in text ≡ Err (BadByte at) → (at < length text) × (piece_at (drop at text) ≡ bad))
    × (tokens_in text ≡ Err (BigNumber at) → (at < length text) × (piece_at (drop at text) ≡ big))

-- how many braces are open behind these tokens of a unit
abbrev pub open_behind : ℕ → List Tok → ℕ
open_behind braces [] = braces
open_behind braces (t ∷ ts) = open_behind (braces_after braces t) ts

-- the tokens of units, one unit after another
abbrev pub joined_units : List (List Tok) → List Tok
joined_units [] = []
joined_units (u ∷ us) = u ++ joined_units us

-- Tokens are one unit before others, where so many braces are open: it has a token; no token in it but its last ends it; and
-- its last does, unless there is none behind it.
pub record IsUnitBefore (braces : ℕ) (unit behind : List Tok) : Type 0 where
  pub some : 0 < length unit
  pub goes_on : (front back : List Tok) (t : Tok) → unit ≡ front ++ t ∷ back → 0 < length back → ends_unit (open_behind braces front) t (back ++ behind) ≡ false
  pub ends : 0 < length behind → (front : List Tok) × (t : Tok) × (unit ≡ front ++ t ∷ []) × (ends_unit (open_behind braces front) t behind ≡ true)

-- each of these is a unit before those behind it; in the first so many braces are open, in the others none
abbrev pub AreUnitsBefore : ℕ → List (List Tok) → Type 0
AreUnitsBefore braces [] = Unit {0}
AreUnitsBefore braces (u ∷ us) = IsUnitBefore braces u (joined_units us) × AreUnitsBefore 0 us

-- the units of tokens joined are the tokens, and each but the last ends at the first token that ends it
abbrev pub UnitsAreCut : Type 0
UnitsAreCut = (ts : List Tok) → (joined_units (units_of ts) ≡ ts) × AreUnitsBefore 0 (units_of ts)
