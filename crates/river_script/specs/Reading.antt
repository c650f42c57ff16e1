-- How scripts are read: the grammar in the words of reading functions.
use Rattle.std.specs.Prelude.{ℕ, ◌+◌, ◌++◌, List, [], ◌∷◌, Option, None, Some, Result, Ok, Err, codes, if◌then◌else◌}
use Rattle.std.specs.Str.{bytes_eq}
use Rattle.text_tokens.specs.Tok.{Tok}
use Rattle.text_tokens.specs.declared.sign.Symbol.TheVariants as s
use Rattle.text_forms.specs.AllUnits.{by_units, text_by}
use Rattle.text_forms.specs.Parse.{Parse, short_name_at, count_at, both, before, seen, headed}
use Rattle.text_forms.specs.Texts.{whole}
use Rattle.text_forms.specs.declared.text_fault.TextFault.{TextFault}
use Rattle.river_script.specs.Script.{StepForm, fusing, hoisting}
use Rattle.river_script.specs.Grammar.{split_into}

unfoldable pub named_at : Parse (List ℕ)
named_at ts = before short_name_at (s.Semicolon ∷ []) ts

unfoldable pub counted_at : Parse (List ℕ × ℕ)
counted_at ts = both short_name_at (before count_at (s.Semicolon ∷ [])) ts

unfoldable pub step_after : List ℕ → Parse StepForm
step_after w ts =
    if bytes_eq w (codes "fuse") then seen fusing named_at ts
    else if bytes_eq w (codes "hoist") then seen hoisting named_at ts
    else if bytes_eq w (codes "fission") then seen split_into counted_at ts
    else None

unfoldable pub step_at : Parse StepForm
step_at ts = headed step_after ts

-- the steps of the units, of which the first has number n, behind these steps; or the first unit that is none
abbrev pub with_step : ℕ → (StepForm → Result (List StepForm) ℕ) → Option StepForm → Result (List StepForm) ℕ
with_step n more None = Err n
with_step n more (Some e) = more e

unfoldable pub read_steps : ℕ → List StepForm → List (List Tok) → Result (List StepForm) ℕ
read_steps n done [] = Ok done
read_steps n done (u ∷ us) = with_step n (λ e. read_steps (n + 1) (done ++ e ∷ []) us) (whole step_at u)

-- the steps of the units of a text, or which unit is the first that is none
abbrev pub steps_of : List (List Tok) → Result (List StepForm) ℕ
steps_of units = read_steps 1 [] units

-- the steps of a text, or why it is not read
abbrev pub steps_in : List ℕ → Result (List StepForm) TextFault
steps_in text = text_by (by_units steps_of) text
