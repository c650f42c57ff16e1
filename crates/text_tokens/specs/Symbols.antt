-- The symbols of a program's text.
use Rattle.std.specs.Prelude.{ℕ, List, [], ◌∷◌, Option, Some, None, ◌==◌, ◌&&◌, if◌then◌else◌}
use Rattle.text_tokens.specs.declared.sign.Symbol.{Symbol}
use Rattle.text_tokens.specs.declared.sign.Symbol.TheVariants.{Plus, Minus, Star, Slash, Percent, Open, Close, OpenBracket, CloseBracket, OpenBrace, CloseBrace}
use Rattle.text_tokens.specs.declared.sign.Symbol.TheVariants.{Comma, Semicolon, Colon, Dot, Assign, Equal, NotEqual, Different, Less, LessEqual, Greater}
use Rattle.text_tokens.specs.declared.sign.Symbol.TheVariants.{GreaterEqual, And, Or, Not, Increment, Arrow}

-- the symbol of one byte: + - * / % ( ) [ ] { } , ; : . = < > !
unfoldable pub short_symbol : ℕ → Option Symbol
short_symbol c =
    if c == 43 then Some Plus
    else (if c == 45 then Some Minus
    else (if c == 42 then Some Star
    else (if c == 47 then Some Slash
    else (if c == 37 then Some Percent
    else (if c == 40 then Some Open
    else (if c == 41 then Some Close
    else (if c == 91 then Some OpenBracket
    else (if c == 93 then Some CloseBracket
    else (if c == 123 then Some OpenBrace
    else (if c == 125 then Some CloseBrace
    else (if c == 44 then Some Comma
    else (if c == 59 then Some Semicolon
    else (if c == 58 then Some Colon
    else (if c == 46 then Some Dot
    else (if c == 61 then Some Assign
    else (if c == 60 then Some Less
    else (if c == 62 then Some Greater
    else (if c == 33 then Some Not
    else None))))))))))))))))))

-- the symbol of two bytes: == != <> <= >= && || ++ ->
unfoldable pub long_symbol : ℕ → ℕ → Option Symbol
long_symbol c d =
    if c == 61 && d == 61 then Some Equal
    else (if c == 33 && d == 61 then Some NotEqual
    else (if c == 60 && d == 62 then Some Different
    else (if c == 60 && d == 61 then Some LessEqual
    else (if c == 62 && d == 61 then Some GreaterEqual
    else (if c == 38 && d == 38 then Some And
    else (if c == 124 && d == 124 then Some Or
    else (if c == 43 && d == 43 then Some Increment
    else (if c == 45 && d == 62 then Some Arrow
    else None))))))))

-- a number for each symbol, by which two are compared
abbrev pub code_of : Symbol → ℕ
code_of Plus = 0
code_of Minus = 1
code_of Star = 2
code_of Slash = 3
code_of Percent = 4
code_of Open = 5
code_of Close = 6
code_of OpenBracket = 7
code_of CloseBracket = 8
code_of OpenBrace = 9
code_of CloseBrace = 10
code_of Comma = 11
code_of Semicolon = 12
code_of Colon = 13
code_of Dot = 14
code_of Assign = 15
code_of Equal = 16
code_of NotEqual = 17
code_of Different = 18
code_of Less = 19
code_of LessEqual = 20
code_of Greater = 21
code_of GreaterEqual = 22
code_of And = 23
code_of Or = 24
code_of Not = 25
code_of Increment = 26
code_of Arrow = 27

-- the bytes of a symbol
abbrev pub symbol_bytes : Symbol → List ℕ
symbol_bytes Plus = 43 ∷ []
symbol_bytes Minus = 45 ∷ []
symbol_bytes Star = 42 ∷ []
symbol_bytes Slash = 47 ∷ []
symbol_bytes Percent = 37 ∷ []
symbol_bytes Open = 40 ∷ []
symbol_bytes Close = 41 ∷ []
symbol_bytes OpenBracket = 91 ∷ []
symbol_bytes CloseBracket = 93 ∷ []
symbol_bytes OpenBrace = 123 ∷ []
symbol_bytes CloseBrace = 125 ∷ []
symbol_bytes Comma = 44 ∷ []
symbol_bytes Semicolon = 59 ∷ []
symbol_bytes Colon = 58 ∷ []
symbol_bytes Dot = 46 ∷ []
symbol_bytes Assign = 61 ∷ []
symbol_bytes Less = 60 ∷ []
symbol_bytes Greater = 62 ∷ []
symbol_bytes Not = 33 ∷ []
symbol_bytes Equal = 61 ∷ (61 ∷ [])
symbol_bytes NotEqual = 33 ∷ (61 ∷ [])
symbol_bytes Different = 60 ∷ (62 ∷ [])
symbol_bytes LessEqual = 60 ∷ (61 ∷ [])
symbol_bytes GreaterEqual = 62 ∷ (61 ∷ [])
symbol_bytes And = 38 ∷ (38 ∷ [])
symbol_bytes Or = 124 ∷ (124 ∷ [])
symbol_bytes Increment = 43 ∷ (43 ∷ [])
symbol_bytes Arrow = 45 ∷ (62 ∷ [])
