-- The steps by which code reads lists.
use Rattle.std.proofs.Common.{◌≡◌, ℕ, ◌<◌, ◌≤◌, ◌+◌, Bool, true, false, cond, List, [], ◌∷◌, ◌++◌, length, map, Some, None, refl, sym, ap, ◌∙◌, arith, length-append, nat_le}
use Rattle.std.proofs.lemmas.Bool.Decides.{nat_tests}
use Rattle.std.proofs.lemmas.List.{map-append}
use Rattle.text_tokens.specs.Tok.{Tok}
use Rattle.text_tokens.specs.declared.sign.Symbol.TheVariants as s
use Rattle.text_forms.specs.Parse as parse
use Rattle.text_forms.specs.Repeat.{repeated}
use Rattle.text_forms.specs.Tail.{tail}
use Rattle.text_forms.proofs.Exact.{Exact}
use Rattle.text_forms.proofs.Many.{comma-more, comma-next, comma-stop, comma-bad, many-shortens}
use Rattle.text_forms.proofs.Repeat.{repeated-next, repeated-stop, repeated-fail}
use Rattle.text_forms.proofs.Symbols.{taken-shorter}
use Rattle.streamit_text.specs.Tree.{Expression, expression}
use Rattle.streamit_text.specs.declared.tree.Expr.{Expr}
use Rattle.params_text.specs.declared.program.Step as made
use Rattle.params_text.specs.ExactSteps.{exact-constant, exact-param}
use Rattle.params_text.specs.Program.{Step, step_of}
use Rattle.params_text.specs.Reading.{at_join, step_at}
use Rattle.params_text.specs.Steps.{constant_at, param_at}
use Rattle.params_text.proofs.UnitReads.{exact-step, listed-steps}

-- a name that is brief
pub brief-is : (n : ℕ) → n ≤ 32 → nat_le n 32 ≡ true
brief-is n h = grind (arith, nat_tests, h)

pub brief-no : (n : ℕ) → 32 < n → nat_le n 32 ≡ false
brief-no n h = grind (arith, nat_tests, h)

pub ruleset briefs = (brief-is, brief-no)

-- what is read exactly is no longer than what it was read of
shorter : {A : Type 0} {F : A → List Tok → Type 0} {p : parse.Parse A} {E : List Tok → Type 0} → Exact F p E → (ts us : List Tok) (v : A) → p ts ≡ Some (v, us)
    → length us ≤ length ts
shorter x ts us v e =
    let f = x.sound ts v us e in
    let size : length ts ≡ length f.front + length us = ap length f.is ∙ length-append f.front us in
    omega arith

-- PARAMETERS

-- one more parameter behind a comma leaves the same to read
pub params-next : (done : List (List ℕ)) (ts us : List Tok) (v : List ℕ) → parse.begins_with s.Comma ts ≡ true → param_at (tail ts) ≡ Some (v, us)
    → repeated (parse.comma_turn param_at) (done ++ v ∷ []) us ≡ repeated (parse.comma_turn param_at) done ts
params-next = comma-next exact-param (λ rest. tt)

-- so does a parameter
pub param-shorter : (ts us : List Tok) (v : List ℕ) → param_at ts ≡ Some (v, us) → length us ≤ length ts
param-shorter = shorter exact-param

pub ruleset params = (params-next, param-shorter, taken-shorter, comma-stop, comma-bad)

-- CONSTANTS

-- the loop over constants goes on: `b` says whether a comma was taken
pub constants-next : (n : ℕ) (old new : List Expr) (i : Expr) (ts mid us : List Tok) (b : Bool) → new ≡ old ++ i ∷ [] → b ≡ true
    → b ≡ parse.begins_with s.Comma ts
    → mid ≡ cond b (tail ts) ts → constant_at n mid ≡ Some (expression i, us)
    → repeated (parse.comma_turn (constant_at n)) (map expression new) us ≡ repeated (parse.comma_turn (constant_at n)) (map expression old) ts
constants-next n = comma-more (exact-constant n) (λ rest j h. refl) expression

-- a constant leaves no more than there was
pub constant-shorter : (n : ℕ) (ts us : List Tok) (v : Expression) → constant_at n ts ≡ Some (v, us) → length us ≤ length ts
constant-shorter n = shorter (exact-constant n)

pub ruleset constants = (constants-next, constant-shorter, taken-shorter, comma-stop, comma-bad)

-- STEPS UP TO A JOINER

pub steps-stop : (n : ℕ) (done : List Step) (ts : List Tok) → at_join ts ≡ true → repeated (parse.many_turn at_join (step_at n)) done ts ≡ Some (done, ts)
steps-stop n done ts e = repeated-stop (parse.many_turn at_join (step_at n)) done ts (rw e refl)

pub steps-bad : (n : ℕ) (done : List Step) (ts : List Tok) → at_join ts ≡ false → step_at n ts ≡ None
    → repeated (parse.many_turn at_join (step_at n)) done ts ≡ None
steps-bad n done ts e bad = repeated-fail (parse.many_turn at_join (step_at n)) done ts (rw (e, bad) refl)

-- one step more
pub steps-next : (n : ℕ) (old new : List made.Step) (i : made.Step) (ts us : List Tok) → new ≡ old ++ i ∷ [] → at_join ts ≡ false
    → step_at n ts ≡ Some (step_of i, us)
    → repeated (parse.many_turn at_join (step_at n)) (map step_of new) us ≡ repeated (parse.many_turn at_join (step_at n)) (map step_of old) ts
steps-next n old new i ts us is e read =
    ap (λ (l : List Step). repeated (parse.many_turn at_join (step_at n)) l us) (ap (map step_of) is ∙ map-append step_of old (i ∷ []))
    ∙ sym (repeated-next (parse.many_turn at_join (step_at n)) (many-shortens at_join (exact-step n) (listed-steps n)) (map step_of old) ts
    (map step_of old ++ step_of i ∷ []) us (rw (e, read) refl))

-- a step takes a token at least
pub step-shortens : (n : ℕ) (ts us : List Tok) (v : Step) → step_at n ts ≡ Some (v, us) → length us < length ts
step-shortens n ts us v e =
    let f = (exact-step n).sound ts v us e in
    let size : length ts ≡ length f.front + length us = ap length f.is ∙ length-append f.front us in
    let some : 0 < length f.front = (listed-steps n).some v f.front f.formed in
    omega arith

pub ruleset steps = (steps-stop, steps-bad, steps-next, step-shortens)
