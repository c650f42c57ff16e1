-- The reading of statements is exact.
use Rattle.std.proofs.Common.{◌≡◌, ℕ, zero, suc, List, [], ◌∷◌, ◌++◌, true, false, Option, Some, None, refl, arith}
use Rattle.std.specs.Prelude.{codes}
use Rattle.std.specs.Str.{bytes_eq}
use Rattle.text_tokens.specs.Tok.{Tok, symbol}
use Rattle.text_tokens.specs.declared.sign.Symbol.TheVariants as s
use Rattle.text_forms.specs.Parse as parse
use Rattle.text_forms.specs.Forms as form
use Rattle.text_forms.proofs.Exact.{Exact, Any, exact-less, exact-both, exact-after, exact-before, exact-after_word, exact-tested, exact-seen, exact-merged}
use Rattle.text_forms.proofs.Exact.{exact-maybe, exact-name}
use Rattle.text_forms.proofs.Many.{Listed, exact-many}
use Rattle.text_forms.proofs.Choices.{exact-never, exact-choose}
use Rattle.text_blocks.specs.Exact.{AreExact}
use Rattle.text_blocks.specs.Parts.{Square, square_at}
use Rattle.text_blocks.specs.Seven.{Ends}
use Rattle.text_blocks.proofs.Parts.{exact-round, exact-square, exact-ended, exact-first}
use Rattle.saw_text.specs.Blocks.{UserName, IsDeclare, IsAssign, made_emit, Weighted, IsEmit, NamedAfter, PlainAfter, style, holes}
use Rattle.saw_text.specs.Blocks.{user_name_at, declare_at, assign_at, no_bracket, indexes_at, weight_at, emit_at, named_after, plain_at}
use Rattle.saw_text.specs.Expressions.{IsExpression, term_at}
use Rattle.saw_text.specs.Tree.{Expression, Statement, Declare, Assign}
use Rattle.saw_text.specs.Words.{is_plain, is_user}
use Rattle.saw_text.specs.ExactExpressions.{exact-term}

-- a name that users may give
pub exact-user : Exact UserName user_name_at Any
unfolding user_name_at
exact-user = exact-tested is_user exact-name

pub exact-declare : (w : List ℕ) (n : ℕ) → Exact (IsDeclare w n) (declare_at w n) Any
unfolding declare_at
exact-declare w n = exact-seen (Declare w) (exact-before (s.Semicolon ∷ []) (exact-first exact-term n) (λ rest. (λ j h. refl, refl)))

pub exact-assign : (w : List ℕ) (n : ℕ) → Exact (IsAssign w n) (assign_at w n) Any
unfolding assign_at
exact-assign w n = exact-seen (Assign w) (exact-after (s.Assign ∷ []) (exact-ended exact-term (λ rest j h. refl) n))

pub exact-index : (n : ℕ) → Exact (Square IsExpression n) (square_at term_at n) Any
exact-index n = exact-square exact-term (λ rest j h. refl) n

-- what stands in square brackets begins with one
pub square-word : {A : Type 0} (F : ℕ → A → List Tok → Type 0) (n : ℕ) (v : A) (ts : List Tok) → Square F n v ts
    → (back : List Tok) × (ts ≡ symbol s.OpenBracket ∷ back)
square-word F zero v ts h = absurd h
square-word F (suc n) v ts h = (h.back, h.is)

pub listed-squares : {A : Type 0} (F : ℕ → A → List Tok → Type 0) (n : ℕ) → Listed no_bracket (Square F n) Any
listed-squares F n = record {
  some = λ v ts h. let w = square-word F n v ts h in rw w.1 (omega arith);
  begins = λ v ts rest h. let w = square-word F n v ts h in rw w.1 refl;
  follows = λ v ts rest h. tt;
}

pub exact-indexes : (n : ℕ) → Exact (form.Many (Square IsExpression n)) (indexes_at n) (λ rest. no_bracket rest ≡ true)
unfolding indexes_at
exact-indexes n = exact-less (exact-many no_bracket (exact-index n) (listed-squares IsExpression n)) (λ rest d. (tt, d))

exact-weight : (n : ℕ)
    → Exact (form.Maybe (form.AfterWord (codes "weight") (IsExpression n))) (weight_at n)
    (λ rest. Ends 6 rest × (parse.is_word_at (codes "weight") rest ≡ false))
unfolding weight_at
exact-weight n = exact-maybe (parse.is_word_at (codes "weight")) (exact-after_word (codes "weight") (exact-term n)) (λ v ts rest h. rw h.is refl)

-- behind the value comes no operator
weighted-ends : (n : ℕ) (o : Option Expression) (ts rest : List Tok) → Weighted n o ts → Ends 6 (ts ++ rest)
weighted-ends n None ts rest h j le = rw (h.is, h.formed) refl
weighted-ends n (Some t) ts rest h j le = rw (h.is, h.formed.is) refl

exact-weighted : (n : ℕ) → Exact (Weighted n) (parse.before (weight_at n) (s.Semicolon ∷ [])) Any
exact-weighted n = exact-before (s.Semicolon ∷ []) (exact-weight n) (λ rest. (λ j h. refl, refl))

exact-emit : (n : ℕ) → Exact (IsEmit n) (emit_at n) Any
unfolding emit_at
exact-emit n =
    exact-seen made_emit (exact-both exact-user (exact-both (exact-indexes n) (exact-after (s.Less ∷ s.Minus ∷ [])
    (exact-both (exact-term n) (exact-weighted n) (λ y ts rest g d. weighted-ends n y ts rest g))) (λ y ts rest g d. rw g.is refl)) (λ y ts rest g d. tt))

pub exact-named : (w : List ℕ) (n : ℕ) → Exact (NamedAfter w n) (named_after w n) Any
unfolding named_after
exact-named w n =
    exact-less (exact-merged (parse.begins_with s.Colon) (exact-after (s.Colon ∷ []) (exact-after_word (codes "int") (exact-declare w n))) (exact-assign w n)
    (λ v ts rest h d. rw h.is refl) (λ v ts rest h d. rw h.formed.is refl)) (λ rest d. (tt, tt))

exact-plain : (n : ℕ) (w : List ℕ) → Exact (PlainAfter n w) (plain_at n w) Any
unfolding plain_at
exact-plain n w = exact-choose (bytes_eq w (codes "emit")) (exact-emit n) (exact-choose (is_user w) (exact-named w n) exact-never)

-- `else` is a keyword
no-else : (n : ℕ) (v : Statement) (ts : List Tok) → PlainAfter n (codes "else") v ts → ⊥
unfolding is_plain
no-else n v ts h = h

-- so the reading of all statements is exact
pub exact-sawzall : AreExact style holes
exact-sawzall = record {
  condition = exact-round exact-term (λ rest j h. refl);
  head = λ n w. exact-never;
  plain = exact-plain;
  else_opens = refl;
  no_else = no-else;
}
