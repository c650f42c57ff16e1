-- What is true of all texts.
use Rattle.std.specs.Prelude.{◌≡◌, ◌↔◌, ℕ, List, Some, Ok}
use Rattle.text_tokens.specs.Cut.{units_of}
use Rattle.text_tokens.specs.Lexis.{tokens_in}
use Rattle.text_tokens.specs.Tok.{Tok, Mark, toks}
use Rattle.text_forms.specs.Texts.{IsFirstBad, whole}
use Rattle.cql_text.specs.Grammar.{IsText, IsUnit, IsUnitAt, next_unit}
use Rattle.cql_text.specs.Reading.{unit_at}
use Rattle.cql_text.specs.Tree.{UnitForm}

-- a text stands for one program at most
abbrev pub OneProgram : Type 0
OneProgram = (text : List ℕ) (p q : List UnitForm) → IsText text p → IsText text q → p ≡ q

-- a unit is read exactly: what is read stands for what is given, and what stands for a part is read as it
abbrev pub ReadsWhatStands : Type 0
ReadsWhatStands = (ts : List Tok) (p : UnitForm) → whole unit_at ts ≡ Some p ↔ IsUnit p ts

-- the text has tokens, and the unit with this number, from 1, is the first that is not in the grammar
pub record IsBadAt (text : List ℕ) (n : ℕ) : Type 0 where
  pub marks : List Mark
  pub lexed : tokens_in text ≡ Ok marks
  pub first : IsFirstBad IsUnitAt next_unit tt (units_of (toks marks)) n
