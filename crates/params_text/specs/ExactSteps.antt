-- The reading of constants, of lists of them, and of steps is exact.
use Rattle.std.proofs.Common.{◌≡◌, ℕ, zero, suc, List, [], ◌∷◌, ◌++◌, true, false, refl}
use Rattle.std.specs.Prelude.{codes}
use Rattle.std.specs.Str.{bytes_eq}
use Rattle.text_tokens.specs.Tok.{Tok}
use Rattle.text_tokens.specs.declared.sign.Symbol.TheVariants as s
use Rattle.text_forms.specs.Parse as parse
use Rattle.text_forms.specs.Forms as form
use Rattle.text_forms.proofs.Exact.{Exact, Any, exact-less, exact-both, exact-before, exact-after_word, exact-tested, exact-seen, exact-maybe}
use Rattle.text_forms.proofs.Choices.{exact-never, exact-choose, exact-listing}
use Rattle.text_blocks.specs.Exact.{AreExact}
use Rattle.text_blocks.specs.Parts.{Round}
use Rattle.text_blocks.specs.Seven.{Ends}
use Rattle.text_blocks.proofs.Parts.{exact-round}
use Rattle.streamit_text.specs.ExactLeaves.{apart}
use Rattle.streamit_text.specs.ExactStatements.{exact-own, exact-term, exact-streamit}
use Rattle.streamit_text.specs.Grammar.{is_still}
use Rattle.params_text.specs.Begins.{expression-begins}
use Rattle.params_text.specs.Steps.{Constant, is_brief, StreamName, or_none, IsParam, Params, Constants, made_add, IsAdd, has_still, StepHead, StepAfter, style, holes}
use Rattle.params_text.specs.Steps.{constant_at, stream_name_at, param_at, round_params_at, params_at, round_constants_at, constants_at, add_at, step_head_at, step_after}

-- no bracket comes
abbrev pub NoOpen : List Tok → Type 0
NoOpen rest = parse.begins_with s.Open rest ≡ false

-- CONSTANTS AND LISTS OF THEM

pub exact-constant : (n : ℕ) → Exact (Constant n) (constant_at n) (Ends 6)
unfolding constant_at
exact-constant n = exact-tested is_still (exact-term apart n)

pub exact-stream_name : Exact StreamName stream_name_at Any
unfolding stream_name_at
exact-stream_name = exact-tested is_brief exact-own

pub exact-param : Exact IsParam param_at Any
unfolding param_at
exact-param = exact-after_word (codes "int") exact-own

exact-round_params : (n : ℕ) → Exact (Round (λ m. form.Listing IsParam) n) (round_params_at n) Any
unfolding round_params_at
exact-round_params n = exact-round (λ m. exact-listing s.Close exact-param (λ rest. tt) (λ v ts rest h. rw h.is refl)) (λ rest. (refl, (tt, refl))) n

pub round-begins : {A : Type 0} (F : ℕ → A → List Tok → Type 0) (n : ℕ) (v : A) (ts rest : List Tok)
    → Round F n v ts → parse.begins_with s.Open (ts ++ rest) ≡ true
round-begins F zero v ts rest h = absurd h
round-begins F (suc n) v ts rest h = rw h.is refl

pub exact-params : (n : ℕ) → Exact (Params n) (params_at n) NoOpen
unfolding params_at
exact-params n =
    exact-less (exact-seen or_none (exact-maybe (parse.begins_with s.Open) (exact-round_params n)
    (λ v ts rest h. round-begins (λ m. form.Listing IsParam) n v ts rest h)))
    (λ rest d. (tt, d))

exact-round_constants : (n : ℕ) → Exact (Round (λ m. form.Listing (Constant m)) n) (round_constants_at n) Any
unfolding round_constants_at
exact-round_constants n =
    exact-round (λ m. exact-listing s.Close (exact-constant m) (λ rest j h. refl) (λ v ts rest h. expression-begins m v ts rest h.formed))
    (λ rest. (refl, ((λ j h. refl), refl))) n

pub exact-constants : (n : ℕ) → Exact (Constants n) (constants_at n) NoOpen
unfolding constants_at
exact-constants n =
    exact-less (exact-maybe (parse.begins_with s.Open) (exact-round_constants n) (λ v ts rest h. round-begins (λ m. form.Listing (Constant m)) n v ts rest h))
    (λ rest d. (tt, d))

-- STEPS

exact-add : (n : ℕ) → Exact (IsAdd n) (add_at n) Any
unfolding add_at
exact-add n = exact-seen made_add (exact-both exact-stream_name (exact-before (s.Semicolon ∷ []) (exact-constants n) (λ rest. refl)) (λ y ts rest g d. tt))

exact-step_head : (n : ℕ) → Exact (StepHead n) (step_head_at n) Any
unfolding step_head_at
exact-step_head n = exact-tested has_still ((exact-streamit apart).head n [])

exact-step_after : (n : ℕ) (w : List ℕ) → Exact (StepAfter n w) (step_after n w) Any
unfolding step_after
exact-step_after n w = exact-choose (bytes_eq w (codes "add")) (exact-add n) exact-never

pub exact-steps_are : AreExact style holes
exact-steps_are = record {
  condition = λ n. exact-never;
  head = λ n w. exact-step_head n;
  plain = exact-step_after;
  else_opens = refl;
  no_else = λ n v ts h. h;
}
