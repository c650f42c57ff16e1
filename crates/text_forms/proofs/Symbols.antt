-- Symbols are told apart by their numbers.
use Rattle.std.proofs.Common.{◌≡◌, ℕ, suc, ◌<◌, ◌≤◌, List, ◌∷◌, [], length, true, refl, sym, ap, ◌∙◌, arith}
use Rattle.std.specs.Prelude.{◌==◌, if◌then◌else◌}
use Rattle.std.proofs.lemmas.Bool.{eqb-true, eq-eqb}
use Rattle.text_tokens.specs.Tok.{Tok, name, var, number, symbol}
use Rattle.text_tokens.specs.Symbols.{code_of}
use Rattle.text_tokens.specs.declared.sign.Symbol.{Symbol}
use Rattle.text_tokens.specs.declared.sign.Symbol.TheVariants as s
use Rattle.text_tokens.specs.contracts.sign.Symbol.{the_type}
use denote.Enum.Bare.{sameb}
use denote.Enum.Declared.{tag_of}
use Rattle.text_forms.specs.Tail.{tail}
use Rattle.text_forms.specs.Parse.{begins_with, is_value}

-- the symbol of a number
symbol_at : ℕ → Symbol
symbol_at n =
    if n == 0 then s.Plus
    else if n == 1 then s.Minus
    else if n == 2 then s.Star
    else if n == 3 then s.Slash
    else if n == 4 then s.Percent
    else if n == 5 then s.Open
    else if n == 6 then s.Close
    else if n == 7 then s.OpenBracket
    else if n == 8 then s.CloseBracket
    else if n == 9 then s.OpenBrace
    else if n == 10 then s.CloseBrace
    else if n == 11 then s.Comma
    else if n == 12 then s.Semicolon
    else if n == 13 then s.Colon
    else if n == 14 then s.Dot
    else if n == 15 then s.Assign
    else if n == 16 then s.Equal
    else if n == 17 then s.NotEqual
    else if n == 18 then s.Different
    else if n == 19 then s.Less
    else if n == 20 then s.LessEqual
    else if n == 21 then s.Greater
    else if n == 22 then s.GreaterEqual
    else if n == 23 then s.And
    else if n == 24 then s.Or
    else if n == 25 then s.Not
    else if n == 26 then s.Increment
    else s.Arrow

symbol_at-code_of : (x : Symbol) → symbol_at (code_of x) ≡ x
unfolding symbol_at
symbol_at-code_of s.Plus = refl
symbol_at-code_of s.Minus = refl
symbol_at-code_of s.Star = refl
symbol_at-code_of s.Slash = refl
symbol_at-code_of s.Percent = refl
symbol_at-code_of s.Open = refl
symbol_at-code_of s.Close = refl
symbol_at-code_of s.OpenBracket = refl
symbol_at-code_of s.CloseBracket = refl
symbol_at-code_of s.OpenBrace = refl
symbol_at-code_of s.CloseBrace = refl
symbol_at-code_of s.Comma = refl
symbol_at-code_of s.Semicolon = refl
symbol_at-code_of s.Colon = refl
symbol_at-code_of s.Dot = refl
symbol_at-code_of s.Assign = refl
symbol_at-code_of s.Equal = refl
symbol_at-code_of s.NotEqual = refl
symbol_at-code_of s.Different = refl
symbol_at-code_of s.Less = refl
symbol_at-code_of s.LessEqual = refl
symbol_at-code_of s.Greater = refl
symbol_at-code_of s.GreaterEqual = refl
symbol_at-code_of s.And = refl
symbol_at-code_of s.Or = refl
symbol_at-code_of s.Not = refl
symbol_at-code_of s.Increment = refl
symbol_at-code_of s.Arrow = refl

pub same_symbol : (x y : Symbol) → code_of x == code_of y ≡ true → x ≡ y
same_symbol x y e = sym (symbol_at-code_of x) ∙ ap symbol_at (eqb-true (code_of x) (code_of y) e) ∙ symbol_at-code_of y

-- what begins with a symbol
pub begins_with-is : (x : Symbol) (ts : List Tok) → begins_with x ts ≡ true → ts ≡ symbol x ∷ tail ts
begins_with-is x [] e = cc
begins_with-is x (name text ∷ ts) e = cc
begins_with-is x (var text ∷ ts) e = cc
begins_with-is x (number value ∷ ts) e = cc
begins_with-is x (symbol y ∷ ts) e = ap (λ (z : Symbol). symbol z ∷ ts) (same_symbol y x e)

-- a symbol that is taken leaves fewer tokens
pub taken-shorter : (x : Symbol) (ts : List Tok) → begins_with x ts ≡ true → length (tail ts) < length ts
taken-shorter x ts e = let size : length ts ≡ suc (length (tail ts)) = ap length (begins_with-is x ts e) in omega arith

-- tokens begin with the symbol that is first
pub begins_with-symbol : (x : Symbol) (ts : List Tok) → begins_with x (symbol x ∷ ts) ≡ true
begins_with-symbol x ts = eq-eqb (code_of x) (code_of x) refl

-- the code that tests whether symbols are the same goes by their numbers
tag_of-is : (x : Symbol) → tag_of the_type x ≡ code_of x
tag_of-is s.Plus = refl
tag_of-is s.Minus = refl
tag_of-is s.Star = refl
tag_of-is s.Slash = refl
tag_of-is s.Percent = refl
tag_of-is s.Open = refl
tag_of-is s.Close = refl
tag_of-is s.OpenBracket = refl
tag_of-is s.CloseBracket = refl
tag_of-is s.OpenBrace = refl
tag_of-is s.CloseBrace = refl
tag_of-is s.Comma = refl
tag_of-is s.Semicolon = refl
tag_of-is s.Colon = refl
tag_of-is s.Dot = refl
tag_of-is s.Assign = refl
tag_of-is s.Equal = refl
tag_of-is s.NotEqual = refl
tag_of-is s.Different = refl
tag_of-is s.Less = refl
tag_of-is s.LessEqual = refl
tag_of-is s.Greater = refl
tag_of-is s.GreaterEqual = refl
tag_of-is s.And = refl
tag_of-is s.Or = refl
tag_of-is s.Not = refl
tag_of-is s.Increment = refl
tag_of-is s.Arrow = refl

-- two symbols are equal where their codes are
pub same_code : (x y : Symbol) → sameb the_type x y ≡ (code_of x == code_of y)
same_code x y = ap (λ (n : ℕ). n == tag_of the_type y) (tag_of-is x) ∙ ap (λ (n : ℕ). code_of x == n) (tag_of-is y)

-- a number that is small enough is a value
pub value_is : (n : ℕ) → n ≤ 9223372036854775807 → is_value n ≡ true
value_is n h = grind (arith, h)
