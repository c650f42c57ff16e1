-- The text of tokens: each of them with a blank behind it.
use Rattle.std.specs.Prelude.{ℕ, List, [], ◌∷◌, ◌++◌}
use Rattle.std.specs.Fmt.{decimal}
use Rattle.text_tokens.specs.Symbols.{symbol_bytes}
use Rattle.text_tokens.specs.Tok.{Tok, name, var, number, symbol}

-- the bytes of a token
abbrev pub token_bytes : Tok → List ℕ
token_bytes (name text) = text
token_bytes (var text) = 36 ∷ text
token_bytes (number n) = decimal n
token_bytes (symbol x) = symbol_bytes x

-- the text of tokens
abbrev pub spaced : List Tok → List ℕ
spaced [] = []
spaced (t ∷ ts) = token_bytes t ++ (32 ∷ spaced ts)
