-- What is true of all texts.
use Rattle.std.specs.Prelude.{◌≡◌, ◌⊎◌, ℕ, true, List, [], ◌∷◌, Ok}
use Rattle.text_tokens.specs.Cut.{units_of}
use Rattle.text_tokens.specs.Lexis.{tokens_in}
use Rattle.text_tokens.specs.Tok.{Tok, name, var, number, symbol, Mark, toks}
use Rattle.text_forms.specs.Texts.{IsFirstBad, IsEmpty}
use Rattle.streamit_text.specs.Program.{Program}
use Rattle.streamit_text.specs.Grammar.{IsText, IsUnitAt, next_unit}
use Rattle.streamit_text.specs.Words.{is_plain, is_own}
use Rattle.text_forms.specs.Exact.{Exact}
use Rattle.text_blocks.specs.Seven.{Ends}
use Rattle.streamit_text.specs.Expressions.{IsExpression, expr_at}
use Rattle.streamit_text.specs.Leaves.{IsLeaf, leaf_at}

-- a text stands for one program at most
abbrev pub OneProgram : Type 0
OneProgram = (text : List ℕ) (p q : Program) → IsText text p → IsText text q → p ≡ q

-- the text has tokens, and the unit with this number, from 1, is the first that is not in the grammar; of a text without a unit it is the first
pub record IsBadAt (text : List ℕ) (n : ℕ) : Type 0 where
  pub marks : List Mark
  pub lexed : tokens_in text ≡ Ok marks
  pub first : IsFirstBad IsUnitAt next_unit tt (units_of (toks marks)) n ⊎ IsEmpty (units_of (toks marks)) n

-- a name that users may give begins with a letter or _
abbrev pub IsOwn : Tok → Type 0
IsOwn (name text) = is_plain text ≡ true → is_own text ≡ true
IsOwn (var text) = Unit {0}
IsOwn (number value) = Unit {0}
IsOwn (symbol sign) = Unit {0}

abbrev pub AreOwnMarks : List Mark → Type 0
AreOwnMarks [] = Unit {0}
AreOwnMarks (m ∷ ms) = IsOwn m.tok × AreOwnMarks ms

-- so no text is refused for a name that is none of plans
abbrev pub NamesAreNames : Type 0
NamesAreNames = (text : List ℕ) (ms : List Mark) → tokens_in text ≡ Ok ms → AreOwnMarks ms

-- What is read as an expression is one by the grammar; and an expression is read, with the tree that the grammar says,
-- wherever no operator follows.
abbrev pub ExpressionsAreExact : Type 0
ExpressionsAreExact = (n : ℕ) → Exact (IsExpression IsLeaf n) (expr_at leaf_at n) (Ends 6)
