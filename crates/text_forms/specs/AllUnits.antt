-- How texts are read whose units depend on none before them.
use Rattle.std.specs.Prelude.{◌≡◌, ℕ, List, [], ◌∷◌, Result, Ok, Err}
use Rattle.text_tokens.specs.Cut.{units_of}
use Rattle.text_tokens.specs.Lexis.{tokens_in}
use Rattle.text_tokens.specs.Tok.{Tok, Mark, toks}
use Rattle.text_tokens.specs.declared.fault.LexFault.{LexFault}
use Rattle.text_forms.specs.Parse.{Parse}
use Rattle.text_forms.specs.TextFaults.{of_lexer}
use Rattle.text_forms.specs.Texts.{read_units}
use Rattle.text_forms.specs.declared.text_fault.TextFault.{TextFault}
use Rattle.text_forms.specs.declared.text_fault.TextFault.TheVariants.{Syntax, NoMemory}

-- the values of the units, of which the first has number n; or which unit is the first that is none
abbrev pub units_from : {A : Type 0} → Parse A → ℕ → List (List Tok) → Result (List A) ℕ
units_from {A} unit n us = read_units {S = Unit {0}} {A = A} (λ u. unit) (λ u v. tt) tt n us

-- the units of a text
abbrev pub all_units : {A : Type 0} → Parse A → List (List Tok) → Result (List A) ℕ
all_units unit us = units_from unit 1 us

-- the units of a text, of which there has to be one
abbrev pub some_units : {A : Type 0} → Parse A → List (List Tok) → Result (List A) ℕ
some_units unit [] = Err 1
some_units unit (u ∷ us) = all_units unit (u ∷ us)

-- the number of a unit that is none is a fault of its text
abbrev pub or_syntax : {A : Type 0} → Result A ℕ → Result A TextFault
or_syntax (Ok v) = Ok v
or_syntax (Err unit) = Err (Syntax unit)

-- what is lexed is read
abbrev pub then_read : {A : Type 0} → (List Mark → Result A ℕ) → Result (List Mark) LexFault → Result A TextFault
then_read read (Ok marks) = or_syntax (read marks)
then_read read (Err fault) = Err (of_lexer fault)

-- what is read of a text by its tokens, or why it is not read
abbrev pub text_by : {A : Type 0} → (List Mark → Result A ℕ) → List ℕ → Result A TextFault
text_by read text = then_read read (tokens_in text)

-- what is read of the units of some tokens
abbrev pub by_units : {A : Type 0} → (List (List Tok) → Result A ℕ) → List Mark → Result A ℕ
by_units read marks = read (units_of (toks marks))

-- what was read, of which this is the view, or why the text is not read; want of memory says nothing
abbrev pub GivesText : {X A : Type 0} → (X → A) → Result X TextFault → Result A TextFault → Type 0
GivesText view (Ok x) read = read ≡ Ok (view x)
GivesText view (Err NoMemory) read = Unit {0}
GivesText view (Err fault) read = read ≡ Err fault
