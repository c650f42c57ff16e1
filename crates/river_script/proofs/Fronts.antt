-- What a script makes of a plan is what it has in the grammar, and what the code answers.
use Rattle.std.proofs.Common.{◌≡◌, ℕ, ◌<◌, ◌^◌, List, length, Result, Ok, Err, refl, ap, ◌∙◌, subst, arith}
use Rattle.std.specs.Prelude.{IfOk}
use Rattle.std.proofs.lemmas.List.{length-map}
use Rattle.text_tokens.specs.Cut.{units_of}
use Rattle.text_tokens.specs.Lexis.{tokens_in, Lexes}
use Rattle.text_tokens.specs.Tok.{Mark, toks}
use Rattle.text_tokens.specs.declared.fault.LexFault.{LexFault}
use Rattle.text_tokens.specs.declared.fault.LexFault.TheVariants as lex
use Rattle.text_tokens.proofs.Counts.{tokens-few, units-few}
use Rattle.text_forms.specs.AllUnits.{or_syntax, then_read, by_units, GivesText}
use Rattle.text_forms.specs.TextFaults.{HasTextFault, of_lexer}
use Rattle.text_forms.specs.declared.text_fault.TextFault.{TextFault}
use Rattle.text_forms.specs.declared.text_fault.TextFault.TheVariants.{BadByte, BigNumber, Syntax, NoMemory}
use Rattle.text_forms.proofs.TextsBy.{given-fault}
use Rattle.river_plan.specs.Forms.{PlanForm}
use Rattle.plan_edits.specs.declared.unfit.Unfit.{Unfit as Why}
use Rattle.river_script.specs.Grammar.{IsScript, IsBadAt}
use Rattle.river_script.specs.Laws.{Has, MakesWhatItHas}
use Rattle.river_script.specs.Meaning.{script_ended, then_applied, rewritten, Refused, IsEnded, IsUnread}
use Rattle.river_script.specs.Reading.{steps_of, steps_in}
use Rattle.river_script.specs.Script.{StepForm, script_of}
use Rattle.river_script.specs.Steps.{step_form, step_forms}
use Rattle.river_script.specs.declared.step.Step.{Step}
use Rattle.river_script.specs.declared.fault.ScriptFault.{ScriptFault}
use Rattle.river_script.specs.declared.fault.ScriptFault.TheVariants.{Text, Unfit}
use Rattle.river_script.proofs.Scripts.{script-read, script-faulty, faulty-told, script-reads, script-few}

-- FROM THE GRAMMAR

-- a text that stands for steps makes what these make
pub stands-makes : (p : PlanForm) (text : List ℕ) (ss : List StepForm) → IsScript text ss → rewritten p text ≡ script_ended (script_of p ss)
unfolding rewritten
stands-makes p text ss t = ap (then_applied p) (script-reads text ss t)

-- one that is not read makes no plan
faulty-makes : (p : PlanForm) (text : List ℕ) (fault : TextFault) → HasTextFault (IsBadAt text) text fault → rewritten p text ≡ Err (Text fault)
unfolding rewritten
faulty-makes p text fault h = ap (then_applied p) (faulty-told text fault h)

has-makes : (p : PlanForm) (text : List ℕ) (made : Result PlanForm ScriptFault) → Has p text made → rewritten p text ≡ made
has-makes p text (Ok q) h = stands-makes p text h.0 h.1 ∙ ap script_ended h.2
has-makes p text (Err (Text fault)) h = faulty-makes p text fault h
has-makes p text (Err (Unfit step why)) h = stands-makes p text h.0 h.1 ∙ ap script_ended h.2

-- TO THE GRAMMAR

makes-has : (p : PlanForm) (text : List ℕ) → Has p text (rewritten p text)
unfolding rewritten
makes-has p text = by (steps_in text) refl where
  last : (ss : List StepForm) → IsScript text ss → (r : Result PlanForm (ℕ × Why)) → script_of p ss ≡ r → Has p text (script_ended r)
  last ss t (Ok q) e = (ss, t, e)
  last ss t (Err f) e = (ss, t, e)

  by : (r : Result (List StepForm) TextFault) → steps_in text ≡ r → Has p text (then_applied p r)
  by (Ok ss) e = last ss (script-read text ss e) (script_of p ss) refl
  by (Err fault) e = script-faulty text fault e

-- what a script makes is what it has
pub makes_what_it_has : MakesWhatItHas
makes_what_it_has p text made = (λ e. subst (Has p text) e (makes-has p text), has-makes p text made)

-- WHAT THE CODE ANSWERS

-- what is told of a text that is not read is why it makes no plan
told-unread : (text : List ℕ) (fault : TextFault) → steps_in text ≡ Err fault → IsUnread text fault
told-unread text (BadByte at) e = λ p. faulty-makes p text (BadByte at) (script-faulty text (BadByte at) e)
told-unread text (BigNumber at) e = λ p. faulty-makes p text (BigNumber at) (script-faulty text (BigNumber at) e)
told-unread text (Syntax unit) e = λ p. faulty-makes p text (Syntax unit) (script-faulty text (Syntax unit) e)
told-unread text NoMemory e = tt

-- what the lexer tells
pub lexed-unread : (text : List ℕ) (fault : LexFault) → Lexes (Err fault) text → IsUnread text (of_lexer fault)
lexed-unread text (lex.BadByte at) e = told-unread text (BadByte at) (ap (then_read (by_units steps_of)) e)
lexed-unread text (lex.BigNumber at) e = told-unread text (BigNumber at) (ap (then_read (by_units steps_of)) e)
lexed-unread text lex.NoMemory e = tt

-- the text stands for what is read of its tokens
pub tokens-read : (text : List ℕ) (marks : List Mark) (steps : List Step) → tokens_in text ≡ Ok marks
    → or_syntax (by_units steps_of marks) ≡ Ok (step_forms steps) → IsScript text (step_forms steps)
tokens-read text marks steps lexed read = script-read text (step_forms steps) (ap (then_read (by_units steps_of)) lexed ∙ read)

-- the same for what the reading of its tokens answers
pub answer-read : (text : List ℕ) (marks : List Mark) (r : Result (List Step) TextFault) → tokens_in text ≡ Ok marks
    → GivesText {X = List Step} step_forms r (or_syntax (by_units steps_of marks)) → IfOk r (λ steps. IsScript text (step_forms steps))
answer-read text marks (Ok steps) lexed g = tokens-read text marks steps lexed g
answer-read text marks (Err f) lexed g = tt

-- what is told of its tokens
pub tokens-unread : (text : List ℕ) (marks : List Mark) (f : TextFault) → tokens_in text ≡ Ok marks
    → GivesText {X = List Step} step_forms (Err f) (or_syntax (by_units steps_of marks)) → IsUnread text f
tokens-unread text marks f lexed h =
    given-fault {X = List Step} step_forms (or_syntax (by_units steps_of marks)) (IsUnread text) f tt
    (λ g e. told-unread text g (ap (then_read (by_units steps_of)) lexed ∙ e)) h

-- as many steps as units, so fewer than bytes
few-steps : (text : List ℕ) (marks : List Mark) (ss : List StepForm) → length text < 2 ^ 32 → tokens_in text ≡ Ok marks → steps_of (units_of (toks marks)) ≡ Ok ss
    → length ss < 2 ^ 32
few-steps text marks ss short lexed read =
    let a = script-few ss (units_of (toks marks)) read in
    let b = units-few marks in
    let c = tokens-few text marks lexed in
    omega (arith, a, b, c, short)

was-read : (r : Result (List StepForm) ℕ) (ss : List StepForm) → or_syntax r ≡ Ok ss → r ≡ Ok ss
was-read (Ok ts) ss e = same e where
  same : ◌≡◌ {A = Result (List StepForm) TextFault} (Ok ts) (Ok ss) → ◌≡◌ {A = Result (List StepForm) ℕ} (Ok ts) (Ok ss)
  same f = cc
was-read (Err n) ss e = absurd (cc e)

-- the same for what was read
pub few-read : (text : List ℕ) (marks : List Mark) (r : Result (List Step) TextFault) → length text < 2 ^ 32 → tokens_in text ≡ Ok marks
    → GivesText {X = List Step} step_forms r (or_syntax (by_units steps_of marks)) → IfOk r (λ steps. length steps < 2 ^ 32)
few-read text marks (Ok steps) short lexed g =
    let a = few-steps text marks (step_forms steps) short lexed (was-read (by_units steps_of marks) (step_forms steps) g) in
    let b = length-map steps step_form in
    omega (arith, a, b)
few-read text marks (Err f) short lexed g = tt

-- the last plan of the steps
pub ended-made : (p q : PlanForm) (text : List ℕ) (ss : List StepForm) → IsScript text ss → script_of p ss ≡ Ok q → rewritten p text ≡ Ok q
ended-made p q text ss t e = stands-makes p text ss t ∙ ap script_ended e

-- the first step that fails
pub ended-refused : (p : PlanForm) (text : List ℕ) (ss : List StepForm) (f : ScriptFault) → IsScript text ss → IsEnded p ss (Err f)
    → Refused (rewritten p text) f
ended-refused p text ss (Text (BadByte at)) t e = absurd e
ended-refused p text ss (Text (BigNumber at)) t e = absurd e
ended-refused p text ss (Text (Syntax unit)) t e = absurd e
ended-refused p text ss (Text NoMemory) t e = tt
ended-refused p text ss (Unfit step why) t e = stands-makes p text ss t ∙ ap script_ended e

-- a text that is not read makes no plan
pub unread-refused : (p : PlanForm) (text : List ℕ) (f : TextFault) → IsUnread text f → Refused (rewritten p text) (Text f)
unread-refused p text (BadByte at) h = h p
unread-refused p text (BigNumber at) h = h p
unread-refused p text (Syntax unit) h = h p
unread-refused p text NoMemory h = tt

pub ruleset fronts = (ended-made, ended-refused, unread-refused)

pub ruleset reads = (tokens-read, lexed-unread, tokens-unread, few-read)
