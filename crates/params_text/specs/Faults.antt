-- What a program that is read stands for, and what a refusal says of the tokens.
use Rattle.std.specs.Prelude.{◌⊎◌, ℕ, List}
use Rattle.text_tokens.specs.Cut.{units_of}
use Rattle.text_tokens.specs.Tok.{Tok, Mark, toks}
use Rattle.text_forms.specs.Texts.{IsFirstBad, IsEmpty}
use Rattle.text_forms.specs.declared.text_fault.TextFault.{TextFault}
use Rattle.text_forms.specs.declared.text_fault.TextFault.TheVariants.{BadByte, BigNumber, Syntax, NoMemory}
use Rattle.params_text.specs.Program.{ParamProgram}
use Rattle.params_text.specs.Grammar.{AreUnits, IsSome, IsUnitAt, next_unit}

-- the units of the tokens, of which there are some, stand for the program
abbrev pub StandFor : List Mark → ParamProgram → Type 0
StandFor marks p = AreUnits p (units_of (toks marks)) × IsSome p

-- the unit with this number, from 1, is the first that is not in the grammar; where there is no unit it is the first
abbrev pub IsBadUnit : List (List Tok) → ℕ → Type 0
IsBadUnit units n = IsFirstBad IsUnitAt next_unit tt units n ⊎ IsEmpty units n

-- the unit is the first that is not in the grammar, and the tokens stand for no program; of its bytes a text with tokens has no fault
abbrev pub Refuses : List Mark → TextFault → Type 0
Refuses marks (BadByte at) = ⊥
Refuses marks (BigNumber at) = ⊥
Refuses marks (Syntax unit) = IsBadUnit (units_of (toks marks)) unit × ((p : ParamProgram) → StandFor marks p → ⊥)
Refuses marks NoMemory = Unit {0}
