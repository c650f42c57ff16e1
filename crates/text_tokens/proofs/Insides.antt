-- Within braces no unit ends.
use Rattle.std.proofs.Common.{◌≡◌, ℕ, suc, Bool, true, false, List, [], ◌∷◌, ◌++◌, refl, sym, ap, ◌∙◌, arith, append_assoc}
use Rattle.std.specs.Prelude.{◌==◌, ◌&&◌, ◌||◌, not}
use Rattle.std.proofs.Math.Dec.{eqb-suc-zero}
use Rattle.std.proofs.lemmas.Bool.{ne_eqb}
use Rattle.text_tokens.specs.Cut.{cut, to_first, ends_unit, braces_after, is_else}
use Rattle.text_tokens.specs.Symbols.{code_of}
use Rattle.text_tokens.specs.Tok.{Tok, name, var, number, symbol}
use Rattle.text_tokens.specs.declared.sign.Symbol.{Symbol}
use Rattle.text_tokens.specs.declared.sign.Symbol.TheVariants as s

-- tokens put before the first of the units
abbrev pub all_first : List Tok → List (List Tok) → List (List Tok)
all_first [] us = us
all_first (t ∷ ts) us = to_first t (all_first ts us)

-- tokens put before units one after another
pub all_first-append : (ts us : List Tok) (vs : List (List Tok)) → all_first (ts ++ us) vs ≡ all_first ts (all_first us vs)
all_first-append [] us vs = refl
all_first-append (t ∷ ts) us vs = ap (to_first t) (all_first-append ts us vs)

-- tokens in which no unit ends, within braces
pub record Inside (ts : List Tok) : Type 0 where
  pub goes : (b : ℕ) (rest : List Tok) → cut (suc b) (ts ++ rest) ≡ all_first ts (cut (suc b) rest)

-- no tokens stay inside a unit
pub inside-nothing : Inside []
inside-nothing = record { goes = λ b rest. refl }

-- tokens that stay inside a unit, one after another
pub inside-then : (ts us : List Tok) → Inside ts → Inside us → Inside (ts ++ us)
inside-then ts us x y = record {
  goes =
      λ b rest. ap (cut (suc b)) (append_assoc ts us rest) ∙ x.goes b (us ++ rest) ∙ ap (all_first ts) (y.goes b rest)
      ∙ sym (all_first-append ts us (cut (suc b) rest));
}

-- a token that ends no unit goes on it
pub on : (b : ℕ) (t : Tok) (ts : List Tok) → ends_unit b t ts ≡ false → cut b (t ∷ ts) ≡ to_first t (cut (braces_after b t) ts)
unfolding cut
on b t ts e = rw e refl

both-false : (a b c d : Bool) → b ≡ false → c ≡ false → (a && b || c && d) ≡ false
both-false true true c d e f = cc
both-false true false true d e f = cc
both-false true false false d e f = refl
both-false false b true d e f = cc
both-false false b false d e f = refl

no_end : (b : ℕ) (x : Symbol) (rest : List Tok) → (code_of x == 10) ≡ false → ends_unit (suc b) (symbol x) rest ≡ false
unfolding ends_unit
no_end b x rest e = both-false (code_of x == 12) (suc b == 0) (code_of x == 10) (suc b == 0 || suc b == 1 && not (is_else rest)) (eqb-suc-zero b) e

-- a symbol that is no brace
pub record IsPlain (x : Symbol) : Type 0 where
  pub no_open : (code_of x == 9) ≡ false
  pub no_close : (code_of x == 10) ≡ false

same_braces : (b : ℕ) (x : Symbol) → IsPlain x → braces_after b (symbol x) ≡ b
unfolding braces_after
same_braces b x p = rw (p.no_open, p.no_close) refl

-- a symbol that is no brace and no semicolon stays inside a unit
pub inside-symbol : (x : Symbol) → IsPlain x → Inside (symbol x ∷ [])
inside-symbol x p =
    record {
      goes = λ b rest. on (suc b) (symbol x) rest (no_end b x rest p.no_close)
          ∙ ap (λ (k : ℕ). to_first (symbol x) (cut k rest)) (same_braces (suc b) x p);
    }

-- so does a name
pub inside-name : (text : List ℕ) → Inside (name text ∷ [])
unfolding ends_unit braces_after
inside-name text = record { goes = λ b rest. on (suc b) (name text) rest refl }

-- so does a variable
pub inside-var : (text : List ℕ) → Inside (var text ∷ [])
unfolding ends_unit braces_after
inside-var text = record { goes = λ b rest. on (suc b) (var text) rest refl }

-- so does a number
pub inside-number : (n : ℕ) → Inside (number n ∷ [])
unfolding ends_unit braces_after
inside-number n = record { goes = λ b rest. on (suc b) (number n) rest refl }

open_up : (b : ℕ) → braces_after (suc b) (symbol s.OpenBrace) ≡ suc (suc b)
unfolding braces_after
open_up b = omega arith

close_down : (b : ℕ) → braces_after (suc (suc b)) (symbol s.CloseBrace) ≡ suc b
unfolding braces_after
close_down b = omega arith

inner_close : (b : ℕ) (rest : List Tok) → ends_unit (suc (suc b)) (symbol s.CloseBrace) rest ≡ false
unfolding ends_unit
inner_close b rest =
    let zero_no : (suc (suc b) == 0) ≡ false = eqb-suc-zero (suc b) in
    let one_no : (suc (suc b) == 1) ≡ false = ne_eqb (suc (suc b)) 1 (λ e. absurd (omega arith)) in
    rw (zero_no, one_no) refl

-- tokens that stay inside a unit do so in braces
pub inside-braces : (ts : List Tok) → Inside ts → Inside (symbol s.OpenBrace ∷ (ts ++ symbol s.CloseBrace ∷ []))
inside-braces ts x = record { goes = goes } where
  goes : (b : ℕ) (rest : List Tok)
      → cut (suc b) (symbol s.OpenBrace ∷ ((ts ++ symbol s.CloseBrace ∷ []) ++ rest)) ≡ to_first (symbol s.OpenBrace)
      (all_first (ts ++ symbol s.CloseBrace ∷ []) (cut (suc b) rest))
  goes b rest =
      on (suc b) (symbol s.OpenBrace) ((ts ++ symbol s.CloseBrace ∷ []) ++ rest) (no_end b s.OpenBrace ((ts ++ symbol s.CloseBrace ∷ []) ++ rest) refl)
      ∙ ap (λ (k : ℕ). to_first (symbol s.OpenBrace) (cut k ((ts ++ symbol s.CloseBrace ∷ []) ++ rest))) (open_up b)
      ∙ ap (λ (l : List Tok). to_first (symbol s.OpenBrace) (cut (suc (suc b)) l)) (append_assoc ts (symbol s.CloseBrace ∷ []) rest)
      ∙ ap (to_first (symbol s.OpenBrace)) (x.goes (suc b) (symbol s.CloseBrace ∷ rest)
      ∙ ap (all_first ts) (on (suc (suc b)) (symbol s.CloseBrace) rest (inner_close b rest)
      ∙ ap (λ (k : ℕ). to_first (symbol s.CloseBrace) (cut k rest)) (close_down b))
      ∙ sym (all_first-append ts (symbol s.CloseBrace ∷ []) (cut (suc b) rest)))

-- symbols that are no braces
pub plain-Open : IsPlain s.Open
plain-Open = record { no_open = refl; no_close = refl }

-- `)` is no brace
pub plain-Close : IsPlain s.Close
plain-Close = record { no_open = refl; no_close = refl }

-- `[` is no brace
pub plain-OpenBracket : IsPlain s.OpenBracket
plain-OpenBracket = record { no_open = refl; no_close = refl }

-- `]` is no brace
pub plain-CloseBracket : IsPlain s.CloseBracket
plain-CloseBracket = record { no_open = refl; no_close = refl }

-- `,` is no brace
pub plain-Comma : IsPlain s.Comma
plain-Comma = record { no_open = refl; no_close = refl }

-- `;` is no brace
pub plain-Semicolon : IsPlain s.Semicolon
plain-Semicolon = record { no_open = refl; no_close = refl }

-- `:` is no brace
pub plain-Colon : IsPlain s.Colon
plain-Colon = record { no_open = refl; no_close = refl }

-- `=` is no brace
pub plain-Assign : IsPlain s.Assign
plain-Assign = record { no_open = refl; no_close = refl }

-- `<` is no brace
pub plain-Less : IsPlain s.Less
plain-Less = record { no_open = refl; no_close = refl }

-- `<=` is no brace
pub plain-LessEqual : IsPlain s.LessEqual
plain-LessEqual = record { no_open = refl; no_close = refl }

-- `++` is no brace
pub plain-Increment : IsPlain s.Increment
plain-Increment = record { no_open = refl; no_close = refl }

-- `-` is no brace
pub plain-Minus : IsPlain s.Minus
plain-Minus = record { no_open = refl; no_close = refl }

-- `!` is no brace
pub plain-Not : IsPlain s.Not
plain-Not = record { no_open = refl; no_close = refl }
