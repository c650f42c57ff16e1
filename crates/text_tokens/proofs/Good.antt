-- Tokens that are spelled by their bytes, and that end no unit within braces.
use Rattle.std.proofs.Common.{◌≡◌, ℕ, ◌≤◌, true, List, [], ◌∷◌, ◌++◌, refl}
use Rattle.text_tokens.specs.Lexis.{most, first_is, is_word, is_letter, is_digit, is_blank}
use Rattle.text_tokens.specs.Symbols.{symbol_bytes}
use Rattle.text_tokens.specs.Tok.{Tok, name, var, number, symbol}
use Rattle.text_tokens.specs.declared.sign.Symbol.{Symbol}
use Rattle.text_tokens.specs.declared.sign.Symbol.TheVariants as s
use Rattle.text_tokens.proofs.Spelled.{Spells, Anything, NoWord, is_name_text, spells-nothing, spells-then, spells-name, spells-var}
use Rattle.text_tokens.proofs.Spelled.{spells-number, spells-symbol, spells-blank, blank_follows}
use Rattle.text_tokens.proofs.Insides.{Inside, inside-nothing, inside-then, inside-symbol, inside-name, inside-number, inside-braces, IsPlain}
use Rattle.text_tokens.specs.Spaced.{token_bytes, spaced}

abbrev pub IsGood : Tok → Type 0
IsGood (name text) = is_name_text text ≡ true
IsGood (var text) = is_name_text text ≡ true
IsGood (number n) = n ≤ most
IsGood (symbol x) = Unit {0}

-- each token is good
abbrev pub AreGood : List Tok → Type 0
AreGood [] = Unit {0}
AreGood (t ∷ ts) = IsGood t × AreGood ts

-- good tokens behind good ones are good
pub good-append : (ts us : List Tok) → AreGood ts → AreGood us → AreGood (ts ++ us)
good-append [] us h g = g
good-append (t ∷ ts) us h g = (h.0, good-append ts us h.1 g)

blank_is : is_blank 32 ≡ true
unfolding is_blank
blank_is = refl

-- a blank before a text
blank-then : {ok : List ℕ → Type 0} (u : List ℕ) (us : List Tok) → Spells u us ok → Spells (32 ∷ u) us ok
blank-then u us h = spells-then (32 ∷ []) [] u us (spells-blank 32 blank_is) h (λ rest any. tt)

blank_word : (u rest : List ℕ) → NoWord ((32 ∷ u) ++ rest)
unfolding first_is is_word is_letter is_digit
blank_word u rest = refl

-- the text of tokens has these tokens
pub spaced-spells : (ts : List Tok) → AreGood ts → Spells (spaced ts) ts Anything
spaced-spells [] h = spells-nothing Anything
spaced-spells (name text ∷ ts) h =
    spells-then text (name text ∷ []) (32 ∷ spaced ts) ts (spells-name text h.0) (blank-then (spaced ts) ts (spaced-spells ts h.1))
    (λ rest any. blank_word (spaced ts) rest)
spaced-spells (var text ∷ ts) h =
    spells-then (36 ∷ text) (var text ∷ []) (32 ∷ spaced ts) ts (spells-var text h.0) (blank-then (spaced ts) ts (spaced-spells ts h.1))
    (λ rest any. blank_word (spaced ts) rest)
spaced-spells (number n ∷ ts) h =
    spells-then (token_bytes (number n)) (number n ∷ []) (32 ∷ spaced ts) ts (spells-number n h.0) (blank-then (spaced ts) ts (spaced-spells ts h.1))
    (λ rest any. blank_word (spaced ts) rest)
spaced-spells (symbol x ∷ ts) h =
    spells-then (symbol_bytes x) (symbol x ∷ []) (32 ∷ spaced ts) ts (spells-symbol x) (blank-then (spaced ts) ts (spaced-spells ts h.1))
    (λ rest any. blank_follows x (spaced ts ++ rest))

-- PIECES

-- tokens of which each is good, and which stay inside a unit
pub record IsPiece (ts : List Tok) : Type 0 where
  pub good : AreGood ts
  pub inside : Inside ts

-- no tokens
pub piece-nothing : IsPiece []
piece-nothing = record { good = tt; inside = inside-nothing }

-- one piece behind another
pub piece-then : (ts us : List Tok) → IsPiece ts → IsPiece us → IsPiece (ts ++ us)
piece-then ts us x y = record { good = good-append ts us x.good y.good; inside = inside-then ts us x.inside y.inside }

-- a symbol that is no brace, in front
pub piece-symbol : (x : Symbol) → IsPlain x → (ts : List Tok) → IsPiece ts → IsPiece (symbol x ∷ ts)
piece-symbol x p ts h = record { good = (tt, h.good); inside = inside-then (symbol x ∷ []) ts (inside-symbol x p) h.inside }

-- a name in front
pub piece-name : (text : List ℕ) → is_name_text text ≡ true → (ts : List Tok) → IsPiece ts → IsPiece (name text ∷ ts)
piece-name text is ts h = record { good = (is, h.good); inside = inside-then (name text ∷ []) ts (inside-name text) h.inside }

-- a number in front
pub piece-number : (n : ℕ) → n ≤ most → (ts : List Tok) → IsPiece ts → IsPiece (number n ∷ ts)
piece-number n fits ts h = record { good = (fits, h.good); inside = inside-then (number n ∷ []) ts (inside-number n) h.inside }

-- braces around a piece
pub piece-braces : (ts : List Tok) → IsPiece ts → IsPiece (symbol s.OpenBrace ∷ (ts ++ symbol s.CloseBrace ∷ []))
piece-braces ts h = record { good = (tt, good-append ts (symbol s.CloseBrace ∷ []) h.good (tt, tt)); inside = inside-braces ts h.inside }

-- between symbols that are no braces
pub piece-last : (x : Symbol) → IsPlain x → (ts : List Tok) → IsPiece ts → IsPiece (ts ++ symbol x ∷ [])
piece-last x p ts h = piece-then ts (symbol x ∷ []) h (piece-symbol x p [] piece-nothing)
