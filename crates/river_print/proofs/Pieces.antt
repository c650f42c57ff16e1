-- Pieces of a printed text: their bytes have these tokens, and within braces no unit ends in them.
use Rattle.std.proofs.Common.{◌≡◌, ℕ, ◌≤◌, true, List, [], ◌∷◌, ◌++◌, refl, sym, ap, subst, append_assoc}
use Rattle.std.specs.Prelude.{codes}
use Rattle.std.specs.Fmt.{decimal}
use Rattle.text_tokens.specs.Lexis.{most, first_is, is_word, is_letter, is_digit, is_blank}
use Rattle.work_code.specs.Printed.{items_text, more_items}
use Rattle.text_tokens.specs.Symbols.{symbol_bytes}
use Rattle.text_tokens.specs.Tok.{Tok, name, var, number, symbol}
use Rattle.text_tokens.specs.declared.sign.Symbol.{Symbol}
use Rattle.text_tokens.specs.declared.sign.Symbol.TheVariants as s
use Rattle.text_tokens.proofs.Spelled.{Spells, NoWord, MayFollow, is_name_text, spells-nothing, spells-then, spells-less, spells-blank, spells-symbol}
use Rattle.text_tokens.proofs.Spelled.{spells-name, spells-var, spells-number}
use Rattle.text_tokens.proofs.Insides.{Inside, IsPlain, inside-nothing, inside-then, inside-symbol, inside-name, inside-var, inside-number, inside-braces}
use Rattle.text_tokens.proofs.Insides.{plain-Open, plain-Close, plain-OpenBracket, plain-CloseBracket, plain-Comma, plain-Semicolon}
use Rattle.river_print.specs.Printed.{list_text}
use Rattle.river_print.proofs.PrintedExpr.{blank-then}

-- ---- pieces

-- bytes that spell these tokens, which stay inside a unit
pub record Piece (bytes : List ℕ) (ts : List Tok) : Type 0 where
  pub spells : Spells bytes ts NoWord
  pub inside : Inside ts

-- no word goes on at the bytes of these symbols and of a blank
pub record EndsWord (bytes : List ℕ) : Type 0 where
  pub ends : (rest : List ℕ) → NoWord rest → NoWord (bytes ++ rest)

-- no bytes are no tokens
pub piece-nothing : Piece [] []
piece-nothing = record { spells = spells-nothing NoWord; inside = inside-nothing }

-- no bytes end a word
pub ends-nothing : EndsWord []
ends-nothing = record { ends = λ rest no. no }

-- one text behind another
pub piece-then : (a : List ℕ) (ts : List Tok) (b : List ℕ) (us : List Tok) → Piece a ts → Piece b us → EndsWord b → Piece (a ++ b) (ts ++ us)
piece-then a ts b us x y e = record { spells = spells-then a ts b us x.spells y.spells e.ends; inside = inside-then ts us x.inside y.inside }

-- a symbol, a word, a variable, a number, a blank before a piece
pub symbol-first : (x : Symbol) (u : List ℕ) (us : List Tok) → IsPlain x → Piece u us → ((rest : List ℕ) → NoWord rest → MayFollow x (u ++ rest))
    → Piece (symbol_bytes x ++ u) (symbol x ∷ us)
symbol-first x u us p y follows = record {
  spells = spells-then (symbol_bytes x) (symbol x ∷ []) u us (spells-symbol x) y.spells follows;
  inside = inside-then (symbol x ∷ []) us (inside-symbol x p) y.inside;
}

-- a word in front
pub word-first : (w u : List ℕ) (us : List Tok) → is_name_text w ≡ true → Piece u us → EndsWord u → Piece (w ++ u) (name w ∷ us)
word-first w u us is y e = record {
  spells = spells-then w (name w ∷ []) u us (spells-name w is) y.spells e.ends;
  inside = inside-then (name w ∷ []) us (inside-name w) y.inside;
}

pub var-first : (w u : List ℕ) (us : List Tok) → is_name_text w ≡ true → Piece u us → EndsWord u → Piece (36 ∷ (w ++ u)) (var w ∷ us)
var-first w u us is y e = record {
  spells = spells-then (36 ∷ w) (var w ∷ []) u us (spells-var w is) y.spells e.ends;
  inside = inside-then (var w ∷ []) us (inside-var w) y.inside;
}

-- a number in front
pub number-first : (n : ℕ) (u : List ℕ) (us : List Tok) → n ≤ most → Piece u us → EndsWord u → Piece (decimal n ++ u) (number n ∷ us)
number-first n u us fits y e = record {
  spells = spells-then (decimal n) (number n ∷ []) u us (spells-number n fits) y.spells e.ends;
  inside = inside-then (number n ∷ []) us (inside-number n) y.inside;
}

-- a space in front
pub blank-first : (u : List ℕ) (us : List Tok) → Piece u us → Piece (codes " " ++ u) us
blank-first u us y = record { spells = blank-then u us y.spells; inside = y.inside }

-- the end of a line is a blank
pub line_is : is_blank 10 ≡ true
unfolding is_blank
line_is = refl

pub line-first : (u : List ℕ) (us : List Tok) → Piece u us → Piece (codes "\n" ++ u) us
line-first u us y = record { spells = spells-then (codes "\n") [] u us (spells-blank 10 line_is) y.spells (λ rest h. tt); inside = y.inside }

-- what ends a word
pub ends-blank : (u : List ℕ) → EndsWord (codes " " ++ u)
unfolding first_is is_word is_letter is_digit
ends-blank u = record { ends = λ rest no. refl }

-- a bracket ends a word
pub ends-open : (u : List ℕ) → EndsWord (codes "(" ++ u)
unfolding first_is is_word is_letter is_digit
ends-open u = record { ends = λ rest no. refl }

-- a closing bracket ends a word
pub ends-close : (u : List ℕ) → EndsWord (codes ")" ++ u)
unfolding first_is is_word is_letter is_digit
ends-close u = record { ends = λ rest no. refl }

-- a square bracket ends a word
pub ends-square : (u : List ℕ) → EndsWord (codes "[" ++ u)
unfolding first_is is_word is_letter is_digit
ends-square u = record { ends = λ rest no. refl }

-- a closing square bracket ends a word
pub ends-square_close : (u : List ℕ) → EndsWord (codes "]" ++ u)
unfolding first_is is_word is_letter is_digit
ends-square_close u = record { ends = λ rest no. refl }

pub ends-comma : (u : List ℕ) → EndsWord (codes "," ++ u)
unfolding first_is is_word is_letter is_digit
ends-comma u = record { ends = λ rest no. refl }

-- a semicolon ends a word
pub ends-semicolon : (u : List ℕ) → EndsWord (codes ";" ++ u)
unfolding first_is is_word is_letter is_digit
ends-semicolon u = record { ends = λ rest no. refl }

pub ends-colon : (u : List ℕ) → EndsWord (codes ":" ++ u)
unfolding first_is is_word is_letter is_digit
ends-colon u = record { ends = λ rest no. refl }

-- the closing symbols alone
pub open-first : (u : List ℕ) (us : List Tok) → Piece u us → Piece (codes "(" ++ u) (symbol s.Open ∷ us)
open-first u us y = symbol-first s.Open u us plain-Open y (λ rest no. tt)

-- a closing bracket in front
pub close-first : (u : List ℕ) (us : List Tok) → Piece u us → Piece (codes ")" ++ u) (symbol s.Close ∷ us)
close-first u us y = symbol-first s.Close u us plain-Close y (λ rest no. tt)

pub comma-first : (u : List ℕ) (us : List Tok) → Piece u us → Piece (codes "," ++ u) (symbol s.Comma ∷ us)
comma-first u us y = symbol-first s.Comma u us plain-Comma y (λ rest no. tt)

-- a semicolon in front
pub semicolon-first : (u : List ℕ) (us : List Tok) → Piece u us → Piece (codes ";" ++ u) (symbol s.Semicolon ∷ us)
semicolon-first u us y = symbol-first s.Semicolon u us plain-Semicolon y (λ rest no. tt)

-- a square bracket in front
pub square-first : (u : List ℕ) (us : List Tok) → Piece u us → Piece (codes "[" ++ u) (symbol s.OpenBracket ∷ us)
square-first u us y = symbol-first s.OpenBracket u us plain-OpenBracket y (λ rest no. tt)

-- a closing square bracket in front
pub square_close-first : (u : List ℕ) (us : List Tok) → Piece u us → Piece (codes "]" ++ u) (symbol s.CloseBracket ∷ us)
square_close-first u us y = symbol-first s.CloseBracket u us plain-CloseBracket y (λ rest no. tt)

-- a piece in braces
pub braced : (u : List ℕ) (us : List Tok) → Piece u us → Piece (codes "{ " ++ (u ++ codes " }")) (symbol s.OpenBrace ∷ (us ++ symbol s.CloseBrace ∷ []))
braced u us y = record {
  spells = spells-then (codes "{") (symbol s.OpenBrace ∷ []) (codes " " ++ (u ++ codes " }")) (us ++ symbol s.CloseBrace ∷ []) (spells-symbol s.OpenBrace)
      (blank-then (u ++ codes " }") (us ++ symbol s.CloseBrace ∷ [])
      (spells-then u us (codes " }") (symbol s.CloseBrace ∷ []) y.spells close (ends-blank (codes "}")).ends)) (λ rest no. tt);
  inside = inside-braces us y.inside;
}
  where
    close : Spells (codes " }") (symbol s.CloseBrace ∷ []) NoWord
    close = blank-then (codes "}") (symbol s.CloseBrace ∷ []) (spells-less (codes "}") (symbol s.CloseBrace ∷ []) (spells-symbol s.CloseBrace) (λ rest no. tt))

-- empty braces
pub braced-nothing : Piece (codes "{ }") (symbol s.OpenBrace ∷ symbol s.CloseBrace ∷ [])
braced-nothing = record {
  spells = spells-then (codes "{") (symbol s.OpenBrace ∷ []) (codes " }") (symbol s.CloseBrace ∷ []) (spells-symbol s.OpenBrace)
      (blank-then (codes "}") (symbol s.CloseBrace ∷ []) (spells-less (codes "}") (symbol s.CloseBrace ∷ []) (spells-symbol s.CloseBrace) (λ rest no. tt)))
      (λ rest no. tt);
  inside = inside-braces [] inside-nothing;
}

-- ---- lists

-- the tokens of items, each behind a comma
abbrev pub more_toks : List (List Tok) → List Tok
more_toks [] = []
more_toks (t ∷ ts) = symbol s.Comma ∷ (t ++ more_toks ts)

-- the tokens of items with commas between
abbrev pub items_toks : List (List Tok) → List Tok
items_toks [] = []
items_toks (t ∷ ts) = t ++ more_toks ts

-- each of the texts has the tokens of its place
abbrev pub AllPieces : List (List ℕ) → List (List Tok) → Type 0
AllPieces [] [] = Unit {0}
AllPieces [] (t ∷ ts) = ⊥
AllPieces (b ∷ bs) [] = ⊥
AllPieces (b ∷ bs) (t ∷ ts) = Piece b t × AllPieces bs ts

ends-more : (bs : List (List ℕ)) → EndsWord (more_items bs)
ends-more [] = ends-nothing
ends-more (b ∷ bs) = ends-comma (codes " " ++ (b ++ more_items bs))

pub pieces-more : (bs : List (List ℕ)) (ts : List (List Tok)) → AllPieces bs ts → Piece (more_items bs) (more_toks ts)
pieces-more [] [] h = piece-nothing
pieces-more [] (t ∷ ts) h = absurd h
pieces-more (b ∷ bs) [] h = absurd h
pieces-more (b ∷ bs) (t ∷ ts) h =
    comma-first (codes " " ++ (b ++ more_items bs)) (t ++ more_toks ts) (blank-first (b ++ more_items bs) (t ++ more_toks ts)
    (piece-then b t (more_items bs) (more_toks ts) h.0 (pieces-more bs ts h.1) (ends-more bs)))

-- items with commas between them
pub pieces-items : (bs : List (List ℕ)) (ts : List (List Tok)) → AllPieces bs ts → Piece (items_text bs) (items_toks ts)
pieces-items [] [] h = piece-nothing
pieces-items [] (t ∷ ts) h = absurd h
pieces-items (b ∷ bs) [] h = absurd h
pieces-items (b ∷ bs) (t ∷ ts) h = piece-then b t (more_items bs) (more_toks ts) h.0 (pieces-more bs ts h.1) (ends-more bs)

-- items in round brackets, before a piece
pub list-first : (bs : List (List ℕ)) (ts : List (List Tok)) (u : List ℕ) (us : List Tok) → AllPieces bs ts → Piece u us
    → Piece (list_text bs ++ u) (symbol s.Open ∷ (items_toks ts ++ symbol s.Close ∷ us))
list-first bs ts u us h y =
    subst (λ (l : List ℕ). Piece l (symbol s.Open ∷ (items_toks ts ++ symbol s.Close ∷ us))) regroup
    (open-first (items_text bs ++ (codes ")" ++ u)) (items_toks ts ++ symbol s.Close ∷ us)
    (piece-then (items_text bs) (items_toks ts) (codes ")" ++ u) (symbol s.Close ∷ us) (pieces-items bs ts h) (close-first u us y) (ends-close u)))
  where
    regroup : codes "(" ++ (items_text bs ++ (codes ")" ++ u)) ≡ list_text bs ++ u
    regroup = ap (λ (l : List ℕ). codes "(" ++ l) (sym (append_assoc (items_text bs) (codes ")") u))
