-- Texts of StreamIt as a whole.
use Rattle.std.proofs.Common.{◌≡◌, ◌⊎◌, ℕ, List, [], ◌∷◌, Result, Ok, Err, inl, inr, refl, sym, ap, ◌∙◌, Vec, Global}
use Rattle.std.specs.Prelude.{map}
use Rattle.text_tokens.specs.Cut.{units_of}
use Rattle.text_tokens.specs.Lexis.{tokens_in}
use Rattle.text_tokens.specs.Tok.{Tok, Mark, toks}
use Rattle.text_forms.specs.AllUnits.{or_syntax, then_read, by_units, GivesText}
use Rattle.text_forms.specs.Texts.{IsFirstBad, IsEmpty, read_units}
use Rattle.text_forms.specs.declared.text_fault.TextFault.{TextFault}
use Rattle.text_forms.specs.declared.text_fault.TextFault.TheVariants.{Syntax}
use Rattle.text_forms.proofs.Texts.{all-formed, formed-read, first-bad, bad-read}
use Rattle.text_forms.proofs.TextsBy.{text-stands, text-has, text-tells, one-value, text-refused, given-fault}
use Rattle.streamit_text.specs.Program.{Program, unit_form}
use Rattle.streamit_text.specs.Grammar.{AreUnits, IsSome, IsText, IsUnitAt, next_unit}
use Rattle.streamit_text.specs.Laws.{OneProgram, IsBadAt}
use Rattle.streamit_text.specs.Faults.{HasFault, Refuses}
use Rattle.streamit_text.specs.Reading.{unit_from, some_units, program_in}
use Rattle.streamit_text.specs.declared.program.Unit.{Unit}
use Rattle.streamit_text.proofs.Units.{exact-unit_from}

-- units that were read stand for the program
pub units-read : (units : List (List Tok)) (p : Program) → some_units units ≡ Ok p → AreUnits p units × IsSome p
units-read [] p e = cc
units-read (u ∷ us) [] e = absurd (all-formed tt next_unit exact-unit_from tt 1 (u ∷ us) [] e)
units-read (u ∷ us) (d ∷ ds) e = (all-formed tt next_unit exact-unit_from tt 1 (u ∷ us) (d ∷ ds) e, tt)

-- units that stand for the program are read
pub units-reads : (units : List (List Tok)) (p : Program) → AreUnits p units → IsSome p → some_units units ≡ Ok p
units-reads [] [] h k = absurd k
units-reads [] (d ∷ ds) h k = absurd h
units-reads (u ∷ us) p h k = formed-read tt next_unit exact-unit_from tt 1 (u ∷ us) p h

-- the unit that is told is the first
pub units-bad : (units : List (List Tok)) (m : ℕ) → some_units units ≡ Err m → IsFirstBad IsUnitAt next_unit tt units m ⊎ IsEmpty units m
units-bad [] m e = inr (refl, same e) where
  same : ◌≡◌ {A = Result Program ℕ} (Err 1) (Err m) → m ≡ 1
  same f = cc
units-bad (u ∷ us) m e = inl (first-bad tt next_unit exact-unit_from tt (u ∷ us) m e)

-- the first is told
units-told : (units : List (List Tok)) (m : ℕ) → IsFirstBad IsUnitAt next_unit tt units m ⊎ IsEmpty units m → some_units units ≡ Err m
units-told units n (inl b) = by units (bad-read tt next_unit exact-unit_from tt units n b) where
  by : (us : List (List Tok)) → read_units unit_from next_unit tt 1 us ≡ Err n → some_units us ≡ Err n
  by [] e = absurd (cc e)
  by (u ∷ us) e = e
units-told units n (inr e) = ap some_units e.0 ∙ ap Err (sym e.1)

-- the text stands for what is read of its units
text-sound : (text : List ℕ) (marks : List Mark) (p : Program) → tokens_in text ≡ Ok marks → by_units some_units marks ≡ Ok p → IsText text p
text-sound text marks p lexed read =
    let f = units-read (units_of (toks marks)) p read in
    record { marks = marks; lexed = lexed; formed = f.0; some = f.1 }

-- what a text stands for is read
pub text-reads : (text : List ℕ) (p : Program) → IsText text p → program_in text ≡ Ok p
text-reads text p t = ap (then_read (by_units some_units)) t.lexed ∙ ap or_syntax (units-reads (units_of (toks t.marks)) p t.formed t.some)

-- the unit that is told is the first that is not in the grammar
text-first : (text : List ℕ) (marks : List Mark) (n : ℕ) → tokens_in text ≡ Ok marks → by_units some_units marks ≡ Err n → IsBadAt text n
text-first text marks n lexed e = record { marks = marks; lexed = lexed; first = units-bad (units_of (toks marks)) n e }

-- and the first is told
text-told : (text : List ℕ) (n : ℕ) → IsBadAt text n → program_in text ≡ Err (Syntax n)
text-told text n b = ap (then_read (by_units some_units)) b.lexed ∙ ap or_syntax (units-told (units_of (toks b.marks)) n b.first)

-- the text stands for what is read of it
pub text-read : (text : List ℕ) (p : Program) → program_in text ≡ Ok p → IsText text p
text-read text p e = text-stands (by_units some_units) IsText IsBadAt text-sound text-reads text-first text-told text p e

-- a text that is not read has the fault that is told
pub text-faulty : (text : List ℕ) (f : TextFault) → program_in text ≡ Err f → HasFault text f
text-faulty text f e = text-has (by_units some_units) IsText IsBadAt text-sound text-reads text-first text-told text f e

-- and the fault that it has is told
pub faulty-told : (text : List ℕ) (f : TextFault) → HasFault text f → program_in text ≡ Err f
faulty-told text f h = text-tells (by_units some_units) IsText IsBadAt text-sound text-reads text-first text-told text f h

-- the law: a text stands for one program at most
pub one_program : OneProgram
one_program text p q s t = one-value (by_units some_units) IsText IsBadAt text-sound text-reads text-first text-told text p q s t

-- a fault with which the reader answers is that of the text
pub given-refused : (text : List ℕ) (f : TextFault) → GivesText {X = Vec Unit Global} (λ us. map unit_form us.items) (Err f) (program_in text) → Refuses text f
given-refused text f h =
    given-fault {X = Vec Unit Global} (λ us. map unit_form us.items) (program_in text) (Refuses text) f tt
    (text-refused (by_units some_units) IsText IsBadAt text-sound text-reads text-first text-told text) h

pub ruleset programs = (text-read, given-refused)
