-- The reading of scripts is exact.
use Rattle.std.proofs.Common.{◌≡◌, ℕ, ◌+◌, List, [], ◌∷◌, ◌++◌, length, Option, Some, None, Result, Ok, Err, refl, sym, ap, ◌∙◌, arith, append_assoc}
use Rattle.std.proofs.Common.{append-nil}
use Rattle.std.specs.Prelude.{codes}
use Rattle.std.specs.Str.{bytes_eq}
use Rattle.std.proofs.lemmas.List.{length_push}
use Rattle.text_tokens.specs.Cut.{units_of}
use Rattle.text_tokens.specs.Lexis.{tokens_in}
use Rattle.text_tokens.specs.Tok.{Tok, Mark, toks}
use Rattle.text_tokens.specs.declared.sign.Symbol.TheVariants as s
use Rattle.river_base.specs.Name.{is_name}
use Rattle.text_forms.specs.AllUnits.{or_syntax, then_read, by_units}
use Rattle.text_forms.specs.Parse.{Parse, short_name_at, is_count}
use Rattle.text_forms.specs.TextFaults.{HasTextFault}
use Rattle.text_forms.specs.declared.text_fault.TextFault.{TextFault}
use Rattle.text_forms.specs.declared.text_fault.TextFault.TheVariants.{Syntax}
use Rattle.text_forms.specs.Texts.{whole, after_unit, put_first, read_units}
use Rattle.text_forms.proofs.Choices.{exact-never, exact-choose, exact-headed}
use Rattle.text_forms.proofs.Exact.{Exact, Any, exact-both, exact-before, exact-tested, exact-seen, exact-name, exact-number}
use Rattle.text_forms.proofs.Texts.{all-formed, formed-read, first-bad, bad-read}
use Rattle.text_forms.proofs.TextsBy.{text-stands, text-has, text-tells, one-value}
use Rattle.river_script.specs.Script.{StepForm, fusing, hoisting}
use Rattle.river_script.specs.Grammar.{NameAndEnd, Counted, split_into, IsStep, StepIn, go_on, IsScript, IsBadAt, OneScript}
use Rattle.river_script.specs.Reading.{named_at, counted_at, step_after, step_at, with_step, read_steps, steps_of, steps_in}

exact-named : Exact NameAndEnd named_at Any
unfolding named_at short_name_at
exact-named = exact-before (s.Semicolon ∷ []) (exact-tested is_name exact-name) (λ rest. tt)

exact-counted : Exact Counted counted_at Any
unfolding counted_at short_name_at
exact-counted =
    exact-both (exact-tested is_name exact-name) (exact-before (s.Semicolon ∷ []) (exact-tested is_count exact-number) (λ rest. tt)) (λ y ts rest g d. tt)

-- a step is read exactly
pub exact-step : Exact IsStep step_at Any
unfolding step_at step_after
exact-step = exact-headed (λ w.
    exact-choose (bytes_eq w (codes "fuse")) (exact-seen fusing exact-named)
    (exact-choose (bytes_eq w (codes "hoist")) (exact-seen hoisting exact-named)
    (exact-choose (bytes_eq w (codes "fission")) (exact-seen split_into exact-counted) exact-never)))

-- any step may follow any step
abbrev pub in_any : Unit {0} → Parse StepForm
in_any u = step_at

-- the same, for the units of a text
pub exact-in : (u : Unit {0}) → Exact (StepIn u) (in_any u) Any
exact-in u = exact-step

-- WHOLE SCRIPTS

-- steps behind others
abbrev added : List StepForm → Result (List StepForm) ℕ → Result (List StepForm) ℕ
added done (Ok ss) = Ok (done ++ ss)
added done (Err n) = Err n

-- a script is read as its units are
steps-read : (n : ℕ) (done : List StepForm) (units : List (List Tok)) → read_steps n done units ≡ added done (read_units in_any go_on tt n units)
unfolding read_steps
steps-read n done [] = ap (λ (l : List StepForm). Ok l) (sym (append-nil done))
steps-read n done (u ∷ us) = by (whole step_at u) (λ e. steps-read (n + 1) (done ++ e ∷ []) us) where
  first : (e : StepForm) (r : Result (List StepForm) ℕ) → added (done ++ e ∷ []) r ≡ added done (put_first e r)
  first e (Ok es) = ap (λ (l : List StepForm). Ok l) (append_assoc done (e ∷ []) es)
  first e (Err m) = refl

  by : (o : Option StepForm) → ((e : StepForm) → read_steps (n + 1) (done ++ e ∷ []) us ≡ added (done ++ e ∷ []) (read_units in_any go_on tt (n + 1) us))
      → with_step n (λ e. read_steps (n + 1) (done ++ e ∷ []) us) o ≡ added done (after_unit n (λ e. read_units in_any go_on tt (n + 1) us) o)
  by None more = refl
  by (Some e) more = more e ∙ first e (read_units in_any go_on tt (n + 1) us)

added-none : (r : Result (List StepForm) ℕ) → added [] r ≡ r
added-none (Ok ss) = refl
added-none (Err n) = refl

-- the steps of the units
pub units-read : (units : List (List Tok)) → read_steps 1 [] units ≡ read_units in_any go_on tt 1 units
units-read units = steps-read 1 [] units ∙ added-none (read_units in_any go_on tt 1 units)

-- as many steps as units
steps-many : (n : ℕ) (done ss : List StepForm) (units : List (List Tok)) → read_steps n done units ≡ Ok ss → length ss ≡ length done + length units
unfolding read_steps
steps-many n done ss [] e = let same : length ss ≡ length done = sames e in omega (arith, same) where
  sames : ◌≡◌ {A = Result (List StepForm) ℕ} (Ok done) (Ok ss) → length ss ≡ length done
  sames f = cc
steps-many n done ss (u ∷ us) e = by (whole step_at u) e (λ s f. steps-many (n + 1) (done ++ s ∷ []) ss us f) where
  by : (o : Option StepForm) → with_step n (λ s. read_steps (n + 1) (done ++ s ∷ []) us) o ≡ Ok ss
      → ((s : StepForm) → read_steps (n + 1) (done ++ s ∷ []) us ≡ Ok ss → length ss ≡ length (done ++ s ∷ []) + length us)
      → length ss ≡ length done + length (u ∷ us)
  by None f more = cc
  by (Some s) f more = let k = more s f in let l = length_push done s in omega (arith, k, l)

-- as many steps as units
pub script-few : (ss : List StepForm) (units : List (List Tok)) → read_steps 1 [] units ≡ Ok ss → length ss ≡ length units
script-few ss units e = let k = steps-many 1 [] ss units e in omega (arith, k)

-- what was read is in the grammar
script-sound : (text : List ℕ) (marks : List Mark) (ss : List StepForm) → tokens_in text ≡ Ok marks → by_units steps_of marks ≡ Ok ss → IsScript text ss
script-sound text marks ss lexed read =
    record {
      marks = marks;
      lexed = lexed;
      formed =
          all-formed tt go_on exact-in tt 1 (units_of (toks marks)) ss (sym (units-read (units_of (toks marks))) ∙ read);
    }

-- the unit that is told is the first that is no step
script-first : (text : List ℕ) (marks : List Mark) (m : ℕ) → tokens_in text ≡ Ok marks → by_units steps_of marks ≡ Err m → IsBadAt text m
script-first text marks m lexed read =
    record { marks = marks; lexed = lexed; first = first-bad tt go_on exact-in tt (units_of (toks marks)) m (sym (units-read (units_of (toks marks))) ∙ read) }

-- what a text stands for is read
pub script-reads : (text : List ℕ) (ss : List StepForm) → IsScript text ss → steps_in text ≡ Ok ss
script-reads text ss t =
    ap (then_read (by_units steps_of)) t.lexed
    ∙ ap or_syntax (units-read (units_of (toks t.marks)) ∙ formed-read tt go_on exact-in tt 1 (units_of (toks t.marks)) ss t.formed)

-- the first unit that is no step is told
script-told : (text : List ℕ) (n : ℕ) → IsBadAt text n → steps_in text ≡ Err (Syntax n)
script-told text n b =
    ap (then_read (by_units steps_of)) b.lexed
    ∙ ap or_syntax (units-read (units_of (toks b.marks)) ∙ bad-read tt go_on exact-in tt (units_of (toks b.marks)) n b.first)

-- a text stands for what is read of it
pub script-read : (text : List ℕ) (ss : List StepForm) → steps_in text ≡ Ok ss → IsScript text ss
script-read text ss e = text-stands (by_units steps_of) IsScript IsBadAt script-sound script-reads script-first script-told text ss e

-- a text that is not read has the fault that is told
pub script-faulty : (text : List ℕ) (f : TextFault) → steps_in text ≡ Err f → HasTextFault (IsBadAt text) text f
script-faulty text f e = text-has (by_units steps_of) IsScript IsBadAt script-sound script-reads script-first script-told text f e

-- and the fault that it has is told
pub faulty-told : (text : List ℕ) (f : TextFault) → HasTextFault (IsBadAt text) text f → steps_in text ≡ Err f
faulty-told text f h = text-tells (by_units steps_of) IsScript IsBadAt script-sound script-reads script-first script-told text f h

-- a text stands for one script at most
pub one_script : OneScript
one_script text ss ts t u = one-value (by_units steps_of) IsScript IsBadAt script-sound script-reads script-first script-told text ss ts t u
