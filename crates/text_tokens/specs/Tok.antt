-- Tokens without memory, and with their places.
use Rattle.std.specs.Prelude.{ℕ, List, map}
use Rattle.text_tokens.specs.declared.sign.Symbol.{Symbol}
use Rattle.text_tokens.specs.declared.token.Token.{Token}
use Rattle.text_tokens.specs.declared.token.Token.TheVariants.{Name, Var, Number, Sign}
use Rattle.text_tokens.specs.declared.token.Lexeme.{Lexeme}

-- a token: a name or a variable by its bytes, the variable without its dollar sign
pub data Tok : Type 0 where
  name : List ℕ → Tok
  var : List ℕ → Tok
  number : ℕ → Tok
  symbol : Symbol → Tok

-- a token, and the bytes that it is, from start up to end
pub record Mark : Type 0 where
  pub tok : Tok
  pub start : ℕ
  pub end : ℕ

abbrev pub token_of : Token → Tok
token_of (Name text) = name text.now
token_of (Var text) = var text.now
token_of (Number value) = number value
token_of (Sign sign) = symbol sign

abbrev pub mark_of : Lexeme → Mark
mark_of l = record { tok = token_of l.token; start = l.start; end = l.end }

-- the tokens without their places
abbrev pub toks : List Mark → List Tok
toks marks = map (λ (m : Mark). m.tok) marks

abbrev pub tokens_of : List Lexeme → List Tok
tokens_of ls = map (λ (l : Lexeme). token_of l.token) ls
