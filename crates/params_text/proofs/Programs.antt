-- What is read of tokens is what they stand for.
use Rattle.std.proofs.Common.{◌≡◌, ℕ, List, Result, Ok, Err, refl, sym, ◌∙◌, subst, Vec, Global}
use Rattle.std.specs.Prelude.{map}
use Rattle.text_tokens.specs.Cut.{units_of}
use Rattle.text_tokens.specs.Tok.{Mark, toks}
use Rattle.text_forms.specs.AllUnits.{or_syntax, GivesText}
use Rattle.text_forms.specs.declared.text_fault.TextFault.{TextFault}
use Rattle.text_forms.specs.declared.text_fault.TextFault.TheVariants.{Syntax}
use Rattle.text_forms.proofs.TextsBy.{given-fault}
use Rattle.params_text.specs.Program.{ParamProgram, unit_form, unit_forms}
use Rattle.params_text.specs.Faults.{StandFor, Refuses}
use Rattle.params_text.specs.Reading.{some_units}
use Rattle.params_text.specs.declared.program.Unit.{Unit}
use Rattle.params_text.proofs.ParamTexts.{units-read, units-reads, units-bad}

abbrev read_of : List Mark → Result ParamProgram ℕ
read_of marks = some_units (units_of (toks marks))

-- what is read of tokens is what they stand for
pub program-read : (marks : List Mark) (p : ParamProgram) → or_syntax (read_of marks) ≡ Ok p → StandFor marks p
program-read marks p e = by (read_of marks) refl e where
  same : (q : ParamProgram) → ◌≡◌ {A = Result ParamProgram TextFault} (Ok q) (Ok p) → q ≡ p
  same q f = cc

  by : (r : Result ParamProgram ℕ) → read_of marks ≡ r → or_syntax r ≡ Ok p → StandFor marks p
  by (Ok q) d f = subst (StandFor marks) (same q f) (units-read (units_of (toks marks)) q d)
  by (Err n) d f = absurd (cc f)

-- what is told of them is their first unit that is not in the grammar
told-refused : (marks : List Mark) (f : TextFault) → or_syntax (read_of marks) ≡ Err f → Refuses marks f
told-refused marks f e = by (read_of marks) refl e where
  same : (n : ℕ) → ◌≡◌ {A = Result ParamProgram TextFault} (Err (Syntax n)) (Err f) → Syntax n ≡ f
  same n g = cc

  never : (n : ℕ) (p : ParamProgram) → ◌≡◌ {A = Result ParamProgram ℕ} (Err n) (Ok p) → ⊥
  never n p g = cc

  by : (r : Result ParamProgram ℕ) → read_of marks ≡ r → or_syntax r ≡ Err f → Refuses marks f
  by (Ok q) d g = absurd (cc g)
  by (Err n) d g =
      subst (Refuses marks) (same n g)
      (units-bad (units_of (toks marks)) n d, λ p h. never n p (sym d ∙ units-reads (units_of (toks marks)) p h.0 h.1))

-- and so is a fault with which the reader answers
pub program-refused : (marks : List Mark) (f : TextFault)
    → GivesText {X = Vec Unit Global} (λ us. map unit_form us.items) (Err f) (or_syntax (read_of marks)) → Refuses marks f
program-refused marks f h =
    given-fault {X = Vec Unit Global} (λ us. map unit_form us.items) (or_syntax (read_of marks)) (Refuses marks) f tt (told-refused marks) h

pub ruleset programs = (program-read, program-refused)
