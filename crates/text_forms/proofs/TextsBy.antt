-- From what tokens stand for to what texts stand for, in any language that is read unit by unit.
use Rattle.std.proofs.Common.{◌≡◌, ℕ, List, Result, Ok, Err, refl, sym, ap, ◌∙◌, subst}
use Rattle.text_tokens.specs.Lexis.{tokens_in}
use Rattle.text_tokens.specs.Tok.{Mark}
use Rattle.text_tokens.specs.declared.fault.LexFault.{LexFault}
use Rattle.text_tokens.specs.declared.fault.LexFault.TheVariants as lex
use Rattle.text_tokens.proofs.Slices.{no_want}
use Rattle.text_forms.specs.AllUnits.{or_syntax, then_read, text_by, GivesText}
use Rattle.text_forms.specs.TextFaults.{HasTextFault, RefusesText}
use Rattle.text_forms.specs.declared.text_fault.TextFault.{TextFault}
use Rattle.text_forms.specs.declared.text_fault.TextFault.TheVariants.{BadByte, BigNumber, Syntax, NoMemory}

same-ok : {A : Type 0} {a b : A} → ◌≡◌ {A = Result A TextFault} (Ok a) (Ok b) → a ≡ b
same-ok e = cc

same-err : {A : Type 0} {f g : TextFault} → ◌≡◌ {A = Result A TextFault} (Err f) (Err g) → f ≡ g
same-err e = cc

never-both : {A : Type 0} {a : A} {f : TextFault} → ◌≡◌ {A = Result A TextFault} (Err f) (Ok a) → ⊥
never-both e = cc

-- A language by its reading of tokens: what texts stand for, which unit of a text is the first that is not in the grammar, and that
-- the reading gives the one and the other.
module _ {A : Type 0} (read : List Mark → Result A ℕ) (Stands : List ℕ → A → Type 0) (IsBad : List ℕ → ℕ → Type 0)
    (sound : (text : List ℕ) (marks : List Mark) (a : A) → tokens_in text ≡ Ok marks → read marks ≡ Ok a → Stands text a)
    (complete : (text : List ℕ) (a : A) → Stands text a → text_by read text ≡ Ok a)
    (first : (text : List ℕ) (marks : List Mark) (n : ℕ) → tokens_in text ≡ Ok marks → read marks ≡ Err n → IsBad text n)
    (told : (text : List ℕ) (n : ℕ) → IsBad text n → text_by read text ≡ Err (Syntax n)) where
  -- a text stands for what is read of it
  pub text-stands : (text : List ℕ) (a : A) → text_by read text ≡ Ok a → Stands text a
  text-stands text a e = by (tokens_in text) refl e where
    units : (marks : List Mark) → tokens_in text ≡ Ok marks → (r : Result A ℕ) → read marks ≡ r → or_syntax r ≡ Ok a → Stands text a
    units marks lexed (Ok b) f g = sound text marks a lexed (f ∙ ap Ok (same-ok g))
    units marks lexed (Err n) f g = absurd (never-both g)

    by : (r : Result (List Mark) LexFault) → tokens_in text ≡ r → then_read read r ≡ Ok a → Stands text a
    by (Ok marks) lexed g = units marks lexed (read marks) refl g
    by (Err fault) lexed g = absurd (never-both g)

  -- a text that is not read has the fault that is told
  pub text-has : (text : List ℕ) (f : TextFault) → text_by read text ≡ Err f → HasTextFault (IsBad text) text f
  text-has text f e = by (tokens_in text) refl e where
    units : (marks : List Mark) → tokens_in text ≡ Ok marks → (r : Result A ℕ) → read marks ≡ r → or_syntax r ≡ Err f
        → HasTextFault (IsBad text) text f
    units marks lexed (Ok b) g h = absurd (never-both (sym h))
    units marks lexed (Err n) g h = subst (HasTextFault (IsBad text) text) (same-err h) (first text marks n lexed g)

    by : (r : Result (List Mark) LexFault) → tokens_in text ≡ r → then_read read r ≡ Err f → HasTextFault (IsBad text) text f
    by (Ok marks) lexed g = units marks lexed (read marks) refl g
    by (Err (lex.BadByte at)) lexed g = subst (HasTextFault (IsBad text) text) (same-err g) lexed
    by (Err (lex.BigNumber at)) lexed g = subst (HasTextFault (IsBad text) text) (same-err g) lexed
    by (Err lex.NoMemory) lexed g = absurd (no_want text lexed)

  -- and the fault that it has is told
  pub text-tells : (text : List ℕ) (f : TextFault) → HasTextFault (IsBad text) text f → text_by read text ≡ Err f
  text-tells text (BadByte at) h = ap (then_read read) h
  text-tells text (BigNumber at) h = ap (then_read read) h
  text-tells text (Syntax unit) h = told text unit h
  text-tells text NoMemory h = absurd h

  -- a text stands for one value at most
  pub one-value : (text : List ℕ) (a b : A) → Stands text a → Stands text b → a ≡ b
  one-value text a b s t = same-ok (sym (complete text a s) ∙ complete text b t)

  -- a text of which a fault is told stands for nothing
  pub text-refused : (text : List ℕ) (f : TextFault) → text_by read text ≡ Err f → RefusesText (IsBad text) (Stands text) text f
  text-refused text f e = by f e (text-has text f e) where
    none : (g : TextFault) → text_by read text ≡ Err g → (a : A) → Stands text a → ⊥
    none g d a s = never-both (sym d ∙ complete text a s)

    by : (g : TextFault) → text_by read text ≡ Err g → HasTextFault (IsBad text) text g → RefusesText (IsBad text) (Stands text) text g
    by (BadByte at) d h = (h, none (BadByte at) d)
    by (BigNumber at) d h = (h, none (BigNumber at) d)
    by (Syntax unit) d h = (h, none (Syntax unit) d)
    by NoMemory d h = tt

-- a fault with which the code answers is that of the text, or says nothing
pub given-fault : {X A : Type 0} (view : X → A) (meant : Result A TextFault) (P : TextFault → Type 0) (f : TextFault) → P NoMemory
    → ((g : TextFault) → meant ≡ Err g → P g) → GivesText view (Err f) meant → P f
given-fault view meant P (BadByte at) want told h = told (BadByte at) h
given-fault view meant P (BigNumber at) want told h = told (BigNumber at) h
given-fault view meant P (Syntax unit) want told h = told (Syntax unit) h
given-fault view meant P NoMemory want told h = want
