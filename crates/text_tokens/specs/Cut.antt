-- The units of a text.
use Rattle.std.specs.Prelude.{ℕ, suc, ◌+◌, ◌-◌, Bool, false, not, ◌==◌, ◌&&◌, ◌||◌, if◌then◌else◌, List, [], ◌∷◌, codes, bytes_eq}
use Rattle.std.specs.Borrow.{Bor}
use Rattle.text_tokens.specs.declared.sign.Symbol.{Symbol}
use Rattle.text_tokens.specs.declared.sign.Symbol.TheVariants.{Semicolon, OpenBrace, CloseBrace}
use Rattle.text_tokens.specs.declared.token.Lexeme.{Lexeme}
use Rattle.text_tokens.specs.Symbols.{code_of}
use Rattle.text_tokens.specs.Tok.{Tok, name, var, number, symbol, tokens_of}

-- the tokens of a unit
abbrev pub unit_tokens : Bor (List Lexeme) → List Tok
unit_tokens unit = tokens_of unit.now

-- the token is this symbol
abbrev pub is_symbol : Symbol → Tok → Bool
is_symbol s (symbol t) = code_of t == code_of s
is_symbol s (name text) = false
is_symbol s (var text) = false
is_symbol s (number value) = false

-- the next token is the word else
abbrev pub is_else : List Tok → Bool
is_else [] = false
is_else (name text ∷ ts) = bytes_eq text (codes "else")
is_else (var text ∷ ts) = false
is_else (number value ∷ ts) = false
is_else (symbol s ∷ ts) = false

-- where so many braces are open, a unit ends at token t, behind which come ts: at a semicolon outside braces, at a closing brace where none is open, or at one
-- that closes the last unless else comes
unfoldable pub ends_unit : ℕ → Tok → List Tok → Bool
ends_unit braces t ts =
    is_symbol Semicolon t && (braces == 0)
    || is_symbol CloseBrace t && (braces == 0 || braces == 1 && not (is_else ts))

-- how many braces are open behind token t; one that closes none counts nothing
unfoldable pub braces_after : ℕ → Tok → ℕ
braces_after braces t =
    if is_symbol OpenBrace t then braces + 1
    else (if is_symbol CloseBrace t then braces - 1
    else braces)

-- the token belongs to the first unit
abbrev pub to_first : Tok → List (List Tok) → List (List Tok)
to_first t [] = (t ∷ []) ∷ []
to_first t (u ∷ us) = (t ∷ u) ∷ us

-- the units of the tokens, where so many braces are open
unfoldable pub cut : ℕ → List Tok → List (List Tok)
cut braces [] = []
cut braces (t ∷ ts) =
    if ends_unit braces t ts
    then (t ∷ []) ∷ cut 0 ts
    else to_first t (cut (braces_after braces t) ts)

-- the units of a text
abbrev pub units_of : List Tok → List (List Tok)
units_of ts = cut 0 ts

-- how many tokens the first unit has
unfoldable pub unit_len : ℕ → List Tok → ℕ
unit_len braces [] = 0
unit_len braces (t ∷ ts) = if ends_unit braces t ts then 1 else suc (unit_len (braces_after braces t) ts)
