-- What is made of a text is made of the program that it has in the grammar, and is what the front answers.
use Rattle.std.proofs.Common.{◌≡◌, ◌⊎◌, ℕ, ℤ, suc, ◌≤◌, List, [], ◌∷◌, length, Result, Ok, Err, refl, sym, ap, ◌∙◌, subst, inl, inr, arith}
use Rattle.std.proofs.lemmas.List.{length-map}
use Rattle.text_tokens.specs.Cut.{units_of as cut_units}
use Rattle.text_tokens.specs.Lexis.{tokens_in, Lexes}
use Rattle.text_tokens.specs.Tok.{Tok, Mark, toks}
use Rattle.text_tokens.specs.declared.fault.LexFault.{LexFault}
use Rattle.text_tokens.specs.declared.fault.LexFault.TheVariants as lex
use Rattle.text_tokens.proofs.Slices.{no_want}
use Rattle.text_tokens.proofs.Counts.{units-few}
use Rattle.text_forms.specs.AllUnits.{or_syntax}
use Rattle.text_forms.specs.TextFaults.{of_lexer}
use Rattle.text_forms.specs.Texts.{read_units, IsFirstBad, IsEmpty}
use Rattle.text_forms.specs.declared.text_fault.TextFault.{TextFault}
use Rattle.text_forms.specs.declared.text_fault.TextFault.TheVariants.{BadByte, BigNumber, Syntax, NoMemory}
use Rattle.text_forms.proofs.Texts.{bad-read}
use Rattle.streamit_text.specs.Grammar as plain_text_of
use Rattle.streamit_text.specs.Program as plain
use Rattle.streamit_text.proofs.Texts.{one_program}
use Rattle.params_text.specs.Faults.{StandFor, Refuses}
use Rattle.params_text.specs.Grammar.{AreUnits, IsText, IsUnitAt, next_unit}
use Rattle.params_text.specs.Laws.{IsBadAt}
use Rattle.params_text.specs.Program.{ParamProgram, unit_form, unit_forms}
use Rattle.params_text.specs.Reading.{some_units, unit_from}
use Rattle.params_text.specs.Toks.{plain_text}
use Rattle.params_text.specs.declared.program.Unit as code_unit
use Rattle.params_text.proofs.ParamTexts.{text-reads, units-read, units-bad, units-reads}
use Rattle.params_text.proofs.UnitReads.{exact-unit_from}
use Rattle.params_model.specs.Constants.{AreFitUnits}
use Rattle.params_model.specs.Judged.{Judgement, no_fault, units_judged, source_units, top_judged, elaborated_program}
use Rattle.params_model.specs.declared.fault.Fault as model
use Rattle.params_model.specs.declared.fault.Fault.TheVariants as model_fault
use Rattle.params_model.specs.declared.fault.Refusal.{Refusal}
use Rattle.params_model.specs.Making.{Made, on_fine, last_made}
use Rattle.params_model.proofs.FitConstants.{units-fit}
use Rattle.params_model.proofs.MadeStands.{elaborated_stands}
use Rattle.params_model.proofs.Readable.{texts_are_written}
use Rattle.params_model.proofs.Refused.{refusals_are, accepted_are}
use Rattle.params_build.specs.declared.refused.Refused as code
use Rattle.params_build.specs.Judging.{IsWhyRefused, JudgesAll}
use Rattle.params_front.proofs.Faults.{told-on}
use Rattle.params_front.specs.Written.{MakesText}
use Rattle.params_front.specs.declared.make.Written.{Written}
use Rattle.params_front.specs.Laws.{IsProgramFault, HasProgramFault, HasMade, ElaborationHas}
use Rattle.params_front.specs.Meaning.{Elaboration, fault_at, or_fault, then_elaborated, of_tokens, then_read, elaboration, WritesPlainText, StandsForMade, Refused}
use Rattle.params_front.specs.Sizes.{sizes_of}
use Rattle.params_front.specs.declared.fault.ParamFault.{ParamFault}
use Rattle.params_front.specs.declared.fault.ParamFault.TheVariants.{Text, UnknownName, NameTwice, Arity, NotConstant, Top, Range, Empty, Budget, Inner}

abbrev read_of : List Mark → Result ParamProgram ℕ
read_of marks = some_units (cut_units (toks marks))

-- ---- FROM THE GRAMMAR

-- of a text that stands for a program is made what is made of that
pub stands-made : (text : List ℕ) (p : ParamProgram) (t : IsText text p) → elaboration text ≡ or_fault p (elaborated_program p (sizes_of t.marks))
unfolding elaboration
stands-made text p t = ap then_read t.lexed ∙ ap (λ r. then_elaborated (sizes_of t.marks) (or_syntax r)) (text-reads text p t)

bad-units : (units : List (List Tok)) (n : ℕ) → IsFirstBad IsUnitAt next_unit tt units n ⊎ IsEmpty units n → some_units units ≡ Err n
bad-units units n (inl b) = by units (bad-read tt next_unit exact-unit_from tt units n b) where
  by : (us : List (List Tok)) → read_units unit_from next_unit tt 1 us ≡ Err n → some_units us ≡ Err n
  by [] e = absurd (cc e)
  by (u ∷ us) e = e
bad-units units n (inr e) = ap some_units e.0 ∙ ap Err (sym e.1)

-- of one with a unit that is not in the grammar, the first of them is told
pub bad-made : (text : List ℕ) (unit : ℕ) → IsBadAt text unit → elaboration text ≡ Err (Text (Syntax unit))
unfolding elaboration
bad-made text unit b = ap then_read b.lexed ∙ ap (λ r. then_elaborated (sizes_of b.marks) (or_syntax r)) (bad-units (cut_units (toks b.marks)) unit b.first)

-- of one with a fault of its bytes, this fault
pub lexed-made : (text : List ℕ) (fault : LexFault) → tokens_in text ≡ Err fault → elaboration text ≡ Err (Text (of_lexer fault))
unfolding elaboration
lexed-made text fault e = ap then_read e

-- what is told first is what elaboration tells
first-told : (p : ParamProgram) (sizes : List ℕ) (unit : ℕ) (f : model.Fault) → IsProgramFault p sizes unit f
    → elaborated_program p sizes ≡ Err (record { unit = unit; fault = f })
first-told p sizes unit f (inl h) =
    ap (λ r. on_fine r (λ x. on_fine (top_judged (source_units p sizes)) (λ y. last_made (source_units p sizes)))) ((refusals_are p unit f).1 h)
first-told p sizes unit f (inr h) =
    ap (λ r. on_fine r (λ x. on_fine (top_judged (source_units p sizes)) (λ y. last_made (source_units p sizes)))) ((accepted_are p).1 h.0) ∙ h.1

fault-made : (text : List ℕ) (fault : ParamFault) → HasProgramFault text fault → elaboration text ≡ Err fault
fault-made text fault h =
    stands-made text h.tree h.stands ∙ ap (or_fault h.tree) (first-told h.tree (sizes_of h.stands.marks) h.unit h.told h.first) ∙ ap Err (sym h.is)

has-made : (text : List ℕ) (meant : Result Elaboration ParamFault) → HasMade text meant → elaboration text ≡ meant
has-made text (Ok e) (t, made) = stands-made text e.tree t ∙ ap (or_fault e.tree) made
has-made text (Err (Text (BadByte at))) h = lexed-made text (lex.BadByte at) h
has-made text (Err (Text (BigNumber at))) h = lexed-made text (lex.BigNumber at) h
has-made text (Err (Text (Syntax unit))) h = bad-made text unit h
has-made text (Err (Text NoMemory)) h = absurd h
has-made text (Err (UnknownName unit)) h = fault-made text (UnknownName unit) h
has-made text (Err (NameTwice unit)) h = fault-made text (NameTwice unit) h
has-made text (Err (Arity unit)) h = fault-made text (Arity unit) h
has-made text (Err (NotConstant unit)) h = fault-made text (NotConstant unit) h
has-made text (Err (Top unit)) h = fault-made text (Top unit) h
has-made text (Err (Range unit)) h = fault-made text (Range unit) h
has-made text (Err (Empty unit)) h = fault-made text (Empty unit) h
has-made text (Err (Budget unit)) h = fault-made text (Budget unit) h
has-made text (Err (Inner unit fault)) h = absurd h

-- ---- TO THE GRAMMAR

-- what is made of units that are judged
abbrev behind : ParamProgram → List ℕ → Result Made Refusal
behind p sizes = on_fine (top_judged (source_units p sizes)) (λ y. last_made (source_units p sizes))

-- what elaboration tells is what is told first
told-first : (p : ParamProgram) (sizes : List ℕ) (e : Refusal) → elaborated_program p sizes ≡ Err e → IsProgramFault p sizes e.unit e.fault
told-first p sizes e is = by (units_judged 1 [] p) refl is where
  same : (a b : Refusal) → ◌≡◌ {A = Result Made Refusal} (Err a) (Err b) → ◌≡◌ {A = Judgement} (Err a) (Err b)
  same a b h = cc

  by : (r : Judgement) → units_judged 1 [] p ≡ r → on_fine r (λ x. behind p sizes) ≡ Err e → IsProgramFault p sizes e.unit e.fault
  by (Ok u) j h = inr ((accepted_are p).0 j, h)
  by (Err a) j h = inl ((refusals_are p e.unit e.fault).0 (j ∙ same a e h))

fault-has : (text : List ℕ) (p : ParamProgram) (e : Refusal) (t : IsText text p) → elaborated_program p (sizes_of t.marks) ≡ Err e
    → HasMade text (Err (fault_at e.unit e.fault))
fault-has text p e t is = by e.fault (told-first p (sizes_of t.marks) e is) where
  has : (f : model.Fault) → IsProgramFault p (sizes_of t.marks) e.unit f → HasProgramFault text (fault_at e.unit f)
  has f first = record { tree = p; unit = e.unit; told = f; stands = t; first = first; is = refl }

  by : (f : model.Fault) → IsProgramFault p (sizes_of t.marks) e.unit f → HasMade text (Err (fault_at e.unit f))
  by model_fault.UnknownName first = has model_fault.UnknownName first
  by model_fault.NameTwice first = has model_fault.NameTwice first
  by model_fault.Arity first = has model_fault.Arity first
  by model_fault.NotConstant first = has model_fault.NotConstant first
  by model_fault.Top first = has model_fault.Top first
  by model_fault.Range first = has model_fault.Range first
  by model_fault.Empty first = has model_fault.Empty first
  by model_fault.Budget first = has model_fault.Budget first

accepted-has : (text : List ℕ) (p : ParamProgram) (t : IsText text p) → HasMade text (or_fault p (elaborated_program p (sizes_of t.marks)))
accepted-has text p t = by (elaborated_program p (sizes_of t.marks)) refl where
  by : (r : Result Made Refusal) → elaborated_program p (sizes_of t.marks) ≡ r → HasMade text (or_fault p r)
  by (Ok m) j = (t, j)
  by (Err e) j = fault-has text p e t j

made-has : (text : List ℕ) → HasMade text (elaboration text)
unfolding elaboration
made-has text = by (tokens_in text) refl where
  read : (marks : List Mark) → tokens_in text ≡ Ok marks → (r : Result ParamProgram ℕ) → read_of marks ≡ r → HasMade text (then_elaborated (sizes_of marks) (or_syntax r))
  read marks lexed (Ok p) e =
      let f = units-read (cut_units (toks marks)) p e in
      accepted-has text p (record { marks = marks; lexed = lexed; formed = f.0; some = f.1 })
  read marks lexed (Err unit) e = record { marks = marks; lexed = lexed; first = units-bad (cut_units (toks marks)) unit e }

  by : (r : Result (List Mark) LexFault) → tokens_in text ≡ r → HasMade text (then_read r)
  by (Ok marks) lexed = read marks lexed (read_of marks) refl
  by (Err (lex.BadByte at)) e = e
  by (Err (lex.BigNumber at)) e = e
  by (Err lex.NoMemory) e = absurd (no_want text e)

-- the law: what is made of a text
pub elaboration_has : ElaborationHas
elaboration_has text meant = (λ e. subst (HasMade text) e (made-has text), has-made text meant)

-- what is made of a text can be written out, and its text stands for it alone
pub made-stands : (text : List ℕ) (e : Elaboration) → elaboration text ≡ Ok e
    → plain_text_of.IsText (plain_text e.made.units) e.made.units × ((q : plain.Program) → plain_text_of.IsText (plain_text e.made.units) q → q ≡ e.made.units)
made-stands text e is =
    let h : HasMade text (Ok e) = subst (HasMade text) is (made-has text) in
    let w = texts_are_written text e.tree h.0 in
    let s = (elaborated_stands e.tree (sizes_of h.0.marks) e.made w.0 w.1 h.1).0 in
    (s, λ q t. one_program (plain_text e.made.units) q e.made.units t s)

-- ---- WHAT THE FRONT ANSWERS

-- the text that was written stands for what is made
pub written-stands : (text : List ℕ) (p : ParamProgram) (plain : List ℕ) (from : List ℤ) → WritesPlainText (elaboration text) p plain from
    → StandsForMade (elaboration text) plain
written-stands text p plain from (m, is, same, units) =
    let e : Elaboration = record { tree = p; made = m } in
    subst (λ (r : Result Elaboration ParamFault). StandsForMade r plain) (sym is)
    (subst (λ (l : List ℕ). StandsForMade (Ok e) l) (sym same) (made-stands text e is))

-- tokens that stand for a program mean what is made of it
tokens-made : (marks : List Mark) (p : ParamProgram) → StandFor marks p → of_tokens marks ≡ or_fault p (elaborated_program p (sizes_of marks))
tokens-made marks p h = ap (λ r. then_elaborated (sizes_of marks) (or_syntax r)) (units-reads (cut_units (toks marks)) p h.0 h.1)

-- what is told of tokens that are not read is what they mean
pub read-faulty : (marks : List Mark) (fault : TextFault) → Refuses marks fault → Refused (of_tokens marks) (Text fault)
read-faulty marks (BadByte at) h = absurd h
read-faulty marks (BigNumber at) h = absurd h
read-faulty marks (Syntax unit) h = ap (λ r. then_elaborated (sizes_of marks) (or_syntax r)) (bad-units (cut_units (toks marks)) unit h.0)
read-faulty marks NoMemory h = tt

-- the units have values for numbers
pub read-fit : (marks : List Mark) (ds : List code_unit.Unit) → StandFor marks (unit_forms ds) → AreFitUnits (unit_forms ds)
read-fit marks ds h = units-fit (unit_forms ds) (cut_units (toks marks)) h.0

formed-few : (p : ParamProgram) (units : List (List Tok)) → AreUnits p units → length p ≡ length units
formed-few [] [] h = refl
formed-few [] (u ∷ us) h = absurd h
formed-few (d ∷ ds) [] h = absurd h
formed-few (d ∷ ds) (u ∷ us) h = ap suc (formed-few ds us h.1)

-- and there are no more of them than tokens
pub read-few : (marks : List Mark) (ds : List code_unit.Unit) → StandFor marks (unit_forms ds) → length ds ≤ length marks
read-few marks ds e =
    let same = formed-few (unit_forms ds) (cut_units (toks marks)) e.0 in
    let each = length-map ds unit_form in
    let few = units-few marks in
    omega (arith, same, each, few)

-- what was made of the units is made of the tokens
pub read-written : (marks : List Mark) (ds : List code_unit.Unit) (sizes : List ℕ) (w : Written) → StandFor marks (unit_forms ds) → sizes ≡ sizes_of marks
    → MakesText (Ok w) (elaborated_program (unit_forms ds) sizes) → WritesPlainText (of_tokens marks) (unit_forms ds) w.plain w.from
read-written marks ds sizes w h are made = (
  made.0,
  tokens-made marks (unit_forms ds) h ∙ ap (λ l. or_fault (unit_forms ds) (elaborated_program (unit_forms ds) l)) (sym are)
      ∙ ap (or_fault (unit_forms ds)) made.1,
  made.2,
  made.3,
)

-- the fault of a program is the fault of the tokens that stand for it
pub read-refused : (marks : List Mark) (ds : List code_unit.Unit) (sizes : List ℕ) (fault : ParamFault) → StandFor marks (unit_forms ds) → sizes ≡ sizes_of marks
    → Refused (or_fault (unit_forms ds) (elaborated_program (unit_forms ds) sizes)) fault → Refused (of_tokens marks) fault
read-refused marks ds sizes fault h are is =
    subst (λ (r : Result Elaboration ParamFault). Refused r fault)
    (sym (tokens-made marks (unit_forms ds) h ∙ ap (λ l. or_fault (unit_forms ds) (elaborated_program (unit_forms ds) l)) (sym are))) is

-- what is told of bytes that have no tokens is what they mean
pub lexed-refused : (text : List ℕ) (fault : LexFault) → Lexes (Err fault) text → Refused (then_read (tokens_in text)) (Text (of_lexer fault))
lexed-refused text (lex.BadByte at) h = ap then_read h
lexed-refused text (lex.BigNumber at) h = ap then_read h
lexed-refused text lex.NoMemory h = tt

pub ruleset lexings = (lexed-refused)

pub ruleset fronts = (written-stands, read-faulty)

pub ruleset writings = (read-fit, read-few, read-written, read-refused)

-- units that are refused
pub judged-refused : (p : ParamProgram) (sizes : List ℕ) (e : code.Refused) → JudgesAll (Err e) (units_judged 1 [] p)
    → MakesText (Err e) (elaborated_program p sizes)
judged-refused p sizes e h = told-on e (units_judged 1 [] p) (λ x. behind p sizes) h

after-judged : (p : ParamProgram) (sizes : List ℕ) → units_judged 1 [] p ≡ no_fault → elaborated_program p sizes ≡ behind p sizes
after-judged p sizes h = ap (λ r. on_fine r (λ x. behind p sizes)) h

-- units that are accepted, of which the last has parameters
pub top-refused : (p : ParamProgram) (sizes : List ℕ) (e : code.Refused) → units_judged 1 [] p ≡ no_fault
    → JudgesAll (Err e) (top_judged (source_units p sizes))
    → MakesText (Err e) (elaborated_program p sizes)
top-refused p sizes e j h =
    subst (λ (r : Result Made Refusal). IsWhyRefused r e) (sym (after-judged p sizes j))
    (told-on e (top_judged (source_units p sizes)) (λ y. last_made (source_units p sizes)) h)

-- units that are accepted, of which the last has none
pub judged-made : (p : ParamProgram) (sizes : List ℕ) (r : Result Written code.Refused) → units_judged 1 [] p ≡ no_fault
    → top_judged (source_units p sizes) ≡ no_fault
    → MakesText r (last_made (source_units p sizes)) → MakesText r (elaborated_program p sizes)
judged-made p sizes r j t h =
    subst (MakesText r) (sym (after-judged p sizes j ∙ ap (λ x. on_fine x (λ y. last_made (source_units p sizes))) t)) h

pub ruleset makings = (judged-refused, top-refused, judged-made)
