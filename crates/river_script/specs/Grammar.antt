-- The grammar of scripts.
--
--     script = { "fuse" NAME ";" | "hoist" NAME ";" | "fission" NAME N ";" }
--
-- A NAME has at most 64 bytes, and an N is at most 4294967295. Each step is one unit of the text.
use Rattle.std.specs.Prelude.{◌≡◌, ℕ, List, [], ◌∷◌, Ok, codes}
use Rattle.std.specs.Str.{bytes_eq}
use Rattle.text_tokens.specs.Cut.{units_of}
use Rattle.text_tokens.specs.Lexis.{tokens_in}
use Rattle.text_tokens.specs.Tok.{Tok, Mark, toks}
use Rattle.text_tokens.specs.declared.sign.Symbol.TheVariants as s
use Rattle.river_base.specs.Name.{is_name}
use Rattle.text_forms.specs.Forms.{NameToken, Number, Never, Both, Before, Tested, Seen, Choose, Headed}
use Rattle.text_forms.specs.Parse.{is_count}
use Rattle.text_forms.specs.Texts.{AllFormed, IsFirstBad}
use Rattle.river_script.specs.Script.{StepForm, fusing, hoisting, splitting}

-- NAME ";"
abbrev pub NameAndEnd : List ℕ → List Tok → Type 0
NameAndEnd = Before (Tested is_name NameToken) (s.Semicolon ∷ [])

-- NAME N ";"
abbrev pub Counted : List ℕ × ℕ → List Tok → Type 0
Counted = Both (Tested is_name NameToken) (Before (Tested is_count Number) (s.Semicolon ∷ []))

abbrev pub split_into : List ℕ × ℕ → StepForm
split_into v = splitting v.0 v.1

-- what stands behind the word of a step
abbrev pub StepAfter : List ℕ → StepForm → List Tok → Type 0
StepAfter w =
    Choose (bytes_eq w (codes "fuse")) (Seen fusing NameAndEnd)
    (Choose (bytes_eq w (codes "hoist")) (Seen hoisting NameAndEnd)
    (Choose (bytes_eq w (codes "fission")) (Seen split_into Counted)
    Never))

abbrev pub IsStep : StepForm → List Tok → Type 0
IsStep = Headed StepAfter

-- any step may follow any step
abbrev pub StepIn : Unit {0} → StepForm → List Tok → Type 0
StepIn s = IsStep

abbrev pub go_on : Unit {0} → StepForm → Unit {0}
go_on s step = tt

-- the text stands for these steps: it has tokens, and their units stand for the steps, one after another
pub record IsScript (text : List ℕ) (steps : List StepForm) : Type 0 where
  pub marks : List Mark
  pub lexed : tokens_in text ≡ Ok marks
  pub formed : AllFormed StepIn go_on tt steps (units_of (toks marks))

-- the text has tokens, and this unit, from 1, is the first that is no step
pub record IsBadAt (text : List ℕ) (unit : ℕ) : Type 0 where
  pub marks : List Mark
  pub lexed : tokens_in text ≡ Ok marks
  pub first : IsFirstBad StepIn go_on tt (units_of (toks marks)) unit

-- a text stands for one list of steps at most
abbrev pub OneScript : Type 0
OneScript = (text : List ℕ) (ss ts : List StepForm) → IsScript text ss → IsScript text ts → ss ≡ ts
