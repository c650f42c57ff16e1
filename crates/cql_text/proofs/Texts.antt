-- Texts of CQL as a whole.
use Rattle.std.proofs.Common.{◌≡◌, ℕ, List, Ok, Err, ap, ◌∙◌, Vec, Global}
use Rattle.std.specs.Prelude.{map}
use Rattle.text_tokens.specs.Cut.{units_of}
use Rattle.text_tokens.specs.Lexis.{tokens_in}
use Rattle.text_tokens.specs.Tok.{Tok, Mark, toks}
use Rattle.text_forms.specs.AllUnits.{or_syntax, then_read, by_units, GivesText}
use Rattle.text_forms.specs.declared.text_fault.TextFault.{TextFault}
use Rattle.text_forms.specs.declared.text_fault.TextFault.TheVariants.{Syntax}
use Rattle.text_forms.proofs.Texts.{all-formed, formed-read, first-bad, bad-read, whole-sound, whole-complete}
use Rattle.text_forms.proofs.TextsBy.{text-stands, text-has, text-tells, one-value, text-refused, given-fault}
use Rattle.cql_text.specs.Faults.{HasFault, Refuses}
use Rattle.cql_text.specs.Grammar.{AreUnits, IsText, IsUnitAt, next_unit}
use Rattle.cql_text.specs.Laws.{OneProgram, ReadsWhatStands, IsBadAt}
use Rattle.cql_text.specs.Reading.{units_in, program_in}
use Rattle.cql_text.specs.Tree.{UnitForm, unit_form}
use Rattle.cql_text.specs.declared.tree.Unit.{Unit}
use Rattle.cql_text.proofs.Units.{exact-part, exact-part_from}

-- units that were read stand for the program
pub units-read : (units : List (List Tok)) (p : List UnitForm) → units_in units ≡ Ok p → AreUnits p units
units-read units p e = all-formed tt next_unit exact-part_from tt 1 units p e

-- units that stand for the program are read
pub units-reads : (units : List (List Tok)) (p : List UnitForm) → AreUnits p units → units_in units ≡ Ok p
units-reads units p h = formed-read tt next_unit exact-part_from tt 1 units p h

-- the text stands for what is read of its units
text-sound : (text : List ℕ) (marks : List Mark) (p : List UnitForm) → tokens_in text ≡ Ok marks → units_in (units_of (toks marks)) ≡ Ok p → IsText text p
text-sound text marks p lexed read = record { marks = marks; lexed = lexed; formed = units-read (units_of (toks marks)) p read }

-- what a text stands for is read
pub text-reads : (text : List ℕ) (p : List UnitForm) → IsText text p → program_in text ≡ Ok p
text-reads text p t = ap (then_read (by_units units_in)) t.lexed ∙ ap or_syntax (units-reads (units_of (toks t.marks)) p t.formed)

-- the unit that is told is the first that is not in the grammar
text-first : (text : List ℕ) (marks : List Mark) (n : ℕ) → tokens_in text ≡ Ok marks → units_in (units_of (toks marks)) ≡ Err n → IsBadAt text n
text-first text marks n lexed e =
    record { marks = marks; lexed = lexed; first = first-bad tt next_unit exact-part_from tt (units_of (toks marks)) n e }

-- and the first is told
text-told : (text : List ℕ) (n : ℕ) → IsBadAt text n → program_in text ≡ Err (Syntax n)
text-told text n b = ap (then_read (by_units units_in)) b.lexed ∙ ap or_syntax (bad-read tt next_unit exact-part_from tt (units_of (toks b.marks)) n b.first)

-- the text stands for what is read of it
pub text-read : (text : List ℕ) (p : List UnitForm) → program_in text ≡ Ok p → IsText text p
text-read text p e = text-stands (by_units units_in) IsText IsBadAt text-sound text-reads text-first text-told text p e

-- a text that is not read has the fault that is told
pub text-faulty : (text : List ℕ) (f : TextFault) → program_in text ≡ Err f → HasFault text f
text-faulty text f e = text-has (by_units units_in) IsText IsBadAt text-sound text-reads text-first text-told text f e

-- and the fault that it has is told
pub faulty-told : (text : List ℕ) (f : TextFault) → HasFault text f → program_in text ≡ Err f
faulty-told text f h = text-tells (by_units units_in) IsText IsBadAt text-sound text-reads text-first text-told text f h

-- the law: a text stands for one program at most
pub one_program : OneProgram
one_program text p q s t = one-value (by_units units_in) IsText IsBadAt text-sound text-reads text-first text-told text p q s t

-- the law: a unit is read exactly
pub reads_what_stands : ReadsWhatStands
reads_what_stands ts p = ((λ e. whole-sound tt exact-part ts p e), (λ h. whole-complete tt exact-part ts p h))

-- a fault with which the reader answers is that of the text
pub given-refused : (text : List ℕ) (f : TextFault) → GivesText {X = Vec Unit Global} (λ us. map unit_form us.items) (Err f) (program_in text) → Refuses text f
given-refused text f h =
    given-fault {X = Vec Unit Global} (λ us. map unit_form us.items) (program_in text) (Refuses text) f tt
    (text-refused (by_units units_in) IsText IsBadAt text-sound text-reads text-first text-told text) h

pub ruleset programs = (text-read, given-refused)
