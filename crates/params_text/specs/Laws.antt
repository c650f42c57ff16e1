-- What is true of all texts of programs with parameters, and of the texts of plain programs.
use Rattle.std.specs.Prelude.{◌≡◌, ◌⊎◌, ℕ, List, Ok}
use Rattle.text_tokens.specs.Cut.{units_of}
use Rattle.text_tokens.specs.Lexis.{tokens_in}
use Rattle.text_tokens.specs.Tok.{Mark, toks}
use Rattle.text_forms.specs.Texts.{IsFirstBad, IsEmpty}
use Rattle.streamit_text.specs.Grammar as plain
use Rattle.streamit_text.specs.Program.{Program}
use Rattle.params_text.specs.Grammar.{IsText, IsUnitAt, next_unit}
use Rattle.params_text.specs.Program.{ParamProgram}
use Rattle.params_text.specs.Told.{IsToldProgram}
use Rattle.params_text.specs.Toks.{plain_text}

-- a text stands for one program with parameters at most
abbrev pub OneParamProgram : Type 0
OneParamProgram = (text : List ℕ) (p q : ParamProgram) → IsText text p → IsText text q → p ≡ q

-- the text has tokens, and the unit with this number, from 1, is the first that is
-- not in the grammar; of a text without a unit it is the first
pub record IsBadAt (text : List ℕ) (n : ℕ) : Type 0 where
  pub marks : List Mark
  pub lexed : tokens_in text ≡ Ok marks
  pub first : IsFirstBad IsUnitAt next_unit tt (units_of (toks marks)) n ⊎ IsEmpty (units_of (toks marks)) n

-- the text of a plain program that a text can stand for stands for it, and for no other
abbrev pub TextStands : Type 0
TextStands =
    (p : Program) → plain.IsSome p → IsToldProgram p → plain.IsText (plain_text p) p × ((q : Program) → plain.IsText (plain_text p) q → q ≡ p)
