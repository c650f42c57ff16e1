-- The reading of statements is exact.
use Rattle.std.proofs.Common.{ℕ, List, [], ◌∷◌, refl}
use Rattle.std.specs.Prelude.{codes}
use Rattle.std.specs.Str.{bytes_eq}
use Rattle.text_tokens.specs.declared.sign.Symbol.TheVariants as s
use Rattle.text_forms.specs.Forms as form
use Rattle.text_forms.specs.Parse as parse
use Rattle.text_forms.proofs.Exact.{Exact, Any, exact-both, exact-after, exact-before, exact-tested, exact-seen, exact-number}
use Rattle.text_forms.proofs.Many.{exact-commas}
use Rattle.text_forms.proofs.Choices.{exact-never, exact-choose}
use Rattle.text_blocks.specs.Exact.{AreExact}
use Rattle.text_blocks.specs.Parts.{Round}
use Rattle.text_blocks.proofs.Parts.{exact-round, exact-ended, exact-place}
use Rattle.river_text.specs.Bodies.{made_set, IsSet, made_push, IsPush, PlainAfter, set_at, some_terms_at, terms_at, push_at, plain_at, style, holes}
use Rattle.river_text.specs.ExactExpressions.{exact-term}
use Rattle.river_text.specs.Expressions.{IsTerm}

exact-set : (n : ℕ) → Exact (IsSet n) (set_at n) Any
unfolding set_at
exact-set n =
    exact-seen made_set (exact-both (exact-place n) (exact-after (s.Assign ∷ []) (exact-ended exact-term (λ rest j h. refl) n)) (λ y ts rest g d. tt))

-- expressions with commas between them, in round brackets
pub exact-terms : (n : ℕ) → Exact (Round (λ m. form.Commas (IsTerm m)) n) (terms_at n) Any
unfolding terms_at some_terms_at
exact-terms n = exact-round (λ m. exact-commas (exact-term m) (λ rest j h. refl)) (λ rest. (λ j h. refl, refl)) n

exact-push : (n : ℕ) → Exact (IsPush n) (push_at n) Any
unfolding push_at
exact-push n =
    exact-seen made_push (exact-both (exact-tested parse.is_count exact-number) (exact-before (s.Semicolon ∷ []) (exact-terms n) (λ rest. tt))
    (λ y ts rest g d. tt))

exact-plain : (n : ℕ) (w : List ℕ) → Exact (PlainAfter n w) (plain_at n w) Any
unfolding plain_at
exact-plain n w =
    exact-choose (bytes_eq w (codes "slot")) (exact-set n) (exact-choose (bytes_eq w (codes "push")) (exact-push n) exact-never)

-- so the reading of all statements is exact
pub exact-river : AreExact style holes
exact-river = record {
  condition = exact-round exact-term (λ rest j h. refl);
  head = λ n w. exact-never;
  plain = exact-plain;
  else_opens = refl;
  no_else = λ n v ts h. h;
}
