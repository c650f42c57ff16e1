-- River text as a whole.
use Rattle.std.proofs.Common.{◌≡◌, ℕ, ◌+◌, List, [], ◌∷◌, Option, Some, None, Result, Ok, Err, refl, sym, ap, ◌∙◌}
use Rattle.text_tokens.specs.Cut.{units_of}
use Rattle.text_tokens.specs.Lexis.{tokens_in, Lexes}
use Rattle.text_tokens.specs.Tok.{Tok, Mark, toks}
use Rattle.text_tokens.specs.declared.fault.LexFault.{LexFault}
use Rattle.text_tokens.specs.declared.fault.LexFault.TheVariants as lex
use Rattle.text_forms.specs.AllUnits.{or_syntax, then_read, GivesText}
use Rattle.text_forms.specs.TextFaults.{of_lexer}
use Rattle.text_forms.specs.Texts.{whole, after_unit, put_first, read_units}
use Rattle.text_forms.specs.declared.text_fault.TextFault.{TextFault}
use Rattle.text_forms.specs.declared.text_fault.TextFault.TheVariants.{BadByte, BigNumber, Syntax}
use Rattle.text_forms.proofs.Texts.{all-formed, formed-read, first-bad, bad-read}
use Rattle.text_forms.proofs.TextsBy.{text-stands, text-has, text-tells, one-value, text-refused, given-fault}
use Rattle.river_text.specs.Entries.{text_form}
use Rattle.river_text.specs.Faults.{HasFault, Refuses}
use Rattle.river_text.specs.Laws.{OnePlan}
use Rattle.river_text.specs.Plans.{EntryForm, TextForm, add_entry, add_all, empty_text, first_place, next_place, IsText, IsBadAt}
use Rattle.river_text.specs.ReadPlans.{unit_from, with_entry, read_plan, lists_of, lists_in}
use Rattle.river_text.specs.declared.entry.Place.{Place}
use Rattle.river_text.specs.declared.entry.RiverText.{RiverText}
use Rattle.river_text.proofs.Plans.{exact-unit_from}

-- the entries of a reading, added to what was read
abbrev pub added : TextForm → Result (List EntryForm) ℕ → Result TextForm ℕ
added p (Ok es) = Ok (add_all p es)
added p (Err n) = Err n

-- a text is read as its entries are
pub plan-read : (place : Place) (n : ℕ) (p : TextForm) (units : List (List Tok))
    → read_plan place n p units ≡ added p (read_units unit_from next_place place n units)
unfolding read_plan
plan-read place n p [] = refl
plan-read place n p (u ∷ us) = by (whole (unit_from place) u) (λ e. plan-read (next_place place e) (n + 1) (add_entry p e) us) where
  first : (e : EntryForm) (r : Result (List EntryForm) ℕ) → added (add_entry p e) r ≡ added p (put_first e r)
  first e (Ok es) = refl
  first e (Err m) = refl

  by : (o : Option EntryForm)
      → ((e : EntryForm) → read_plan (next_place place e) (n + 1) (add_entry p e) us
      ≡ added (add_entry p e) (read_units unit_from next_place (next_place place e) (n + 1) us))
      → with_entry n (λ e. read_plan (next_place place e) (n + 1) (add_entry p e) us) o ≡ added p
      (after_unit n (λ e. read_units unit_from next_place (next_place place e) (n + 1) us) o)
  by None more = refl
  by (Some e) more = more e ∙ first e (read_units unit_from next_place (next_place place e) (n + 1) us)

-- what was read is what the text stands for
added-ok : (p : TextForm) (r : Result (List EntryForm) ℕ) (q : TextForm) → added p r ≡ Ok q → (es : List EntryForm) × (r ≡ Ok es) × (q ≡ add_all p es)
added-ok p (Ok es) q e = (es, refl, same e) where
  same : added p (Ok es) ≡ Ok q → q ≡ add_all p es
  same f = cc
added-ok p (Err n) q e = cc

added-err : (p : TextForm) (r : Result (List EntryForm) ℕ) (m : ℕ) → added p r ≡ Err m → r ≡ Err m
added-err p (Ok es) m e = cc
added-err p (Err n) m e = same e where
  same : added p (Err n) ≡ Err m → ◌≡◌ {A = Result (List EntryForm) ℕ} (Err n) (Err m)
  same f = cc

-- the text stands for the lists that are read of its tokens
text-sound : (text : List ℕ) (marks : List Mark) (q : TextForm) → tokens_in text ≡ Ok marks → lists_of marks ≡ Ok q → IsText text q
text-sound text marks q lexed read =
    let (es, is_es, is_q) =
    added-ok empty_text (read_units unit_from next_place (first_place marks) 1 (units_of (toks marks))) q
    (sym (plan-read (first_place marks) 1 empty_text (units_of (toks marks))) ∙ read) in
    record {
      marks = marks;
      lexed = lexed;
      entries = es;
      formed =
          all-formed tt next_place exact-unit_from (first_place marks) 1 (units_of (toks marks)) es is_es;
      is = is_q;
    }

-- the unit that is told is the first that is not in the grammar
text-first : (text : List ℕ) (marks : List Mark) (m : ℕ) → tokens_in text ≡ Ok marks → lists_of marks ≡ Err m → IsBadAt text m
text-first text marks m lexed read =
    record {
      marks = marks;
      lexed = lexed;
      first =
          first-bad tt next_place exact-unit_from (first_place marks) (units_of (toks marks)) m
          (added-err empty_text (read_units unit_from next_place (first_place marks) 1 (units_of (toks marks))) m
          (sym (plan-read (first_place marks) 1 empty_text (units_of (toks marks))) ∙ read));
    }

-- what a text stands for is read
pub text-reads : (text : List ℕ) (q : TextForm) → IsText text q → lists_in text ≡ Ok q
text-reads text q t = ap (then_read lists_of) t.lexed ∙ ap or_syntax read where
  read : lists_of t.marks ≡ Ok q
  read =
      plan-read (first_place t.marks) 1 empty_text (units_of (toks t.marks))
      ∙ ap (added empty_text) (formed-read tt next_place exact-unit_from (first_place t.marks) 1 (units_of (toks t.marks)) t.entries t.formed)
      ∙ ap (λ (p : TextForm). Ok p) (sym t.is)

-- the first unit that is not in the grammar is told
text-told : (text : List ℕ) (n : ℕ) → IsBadAt text n → lists_in text ≡ Err (Syntax n)
text-told text n b = ap (then_read lists_of) b.lexed ∙ ap or_syntax read where
  read : lists_of b.marks ≡ Err n
  read =
      plan-read (first_place b.marks) 1 empty_text (units_of (toks b.marks))
      ∙ ap (added empty_text) (bad-read tt next_place exact-unit_from (first_place b.marks) (units_of (toks b.marks)) n b.first)

-- the text stands for what is read of it
pub text-read : (text : List ℕ) (q : TextForm) → lists_in text ≡ Ok q → IsText text q
text-read text q e = text-stands lists_of IsText IsBadAt text-sound text-reads text-first text-told text q e

-- a text that is not read has the fault that is told
pub text-faulty : (text : List ℕ) (f : TextFault) → lists_in text ≡ Err f → HasFault text f
text-faulty text f e = text-has lists_of IsText IsBadAt text-sound text-reads text-first text-told text f e

-- and the fault that it has is told
pub faulty-told : (text : List ℕ) (f : TextFault) → HasFault text f → lists_in text ≡ Err f
faulty-told text f h = text-tells lists_of IsText IsBadAt text-sound text-reads text-first text-told text f h

-- the law: a text stands for one plan at most
pub one_plan : OnePlan
one_plan text p q t u = one-value lists_of IsText IsBadAt text-sound text-reads text-first text-told text p q t u

-- a text of which a fault is told stands for no plan
refused : (text : List ℕ) (f : TextFault) → lists_in text ≡ Err f → Refuses text f
refused text f e = text-refused lists_of IsText IsBadAt text-sound text-reads text-first text-told text f e

-- what the lexer tells is a fault of the text
pub lexed-refused : (text : List ℕ) (f : LexFault) → Lexes (Err f) text → Refuses text (of_lexer f)
lexed-refused text (lex.BadByte at) h = refused text (BadByte at) (ap (then_read lists_of) h)
lexed-refused text (lex.BigNumber at) h = refused text (BigNumber at) (ap (then_read lists_of) h)
lexed-refused text lex.NoMemory h = tt

-- what is read of its tokens is what the text stands for
pub tokens-read : (text : List ℕ) (marks : List Mark) (t : RiverText) → tokens_in text ≡ Ok marks → or_syntax (lists_of marks) ≡ Ok (text_form t)
    → IsText text (text_form t)
tokens-read text marks t lexed read = text-read text (text_form t) (ap (then_read lists_of) lexed ∙ read)

-- and what is told of them is a fault of the text
pub tokens-refused : (text : List ℕ) (marks : List Mark) (f : TextFault) → tokens_in text ≡ Ok marks
    → GivesText {X = RiverText} text_form (Err f) (or_syntax (lists_of marks)) → Refuses text f
tokens-refused text marks f lexed h =
    given-fault {X = RiverText} text_form (or_syntax (lists_of marks)) (Refuses text) f tt
    (λ g e. refused text g (ap (then_read lists_of) lexed ∙ e)) h

pub ruleset texts = (lexed-refused, tokens-read, tokens-refused)
