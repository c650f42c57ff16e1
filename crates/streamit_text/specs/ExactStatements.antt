-- The reading of statements is exact, whatever the leaves of expressions are.
use Rattle.std.proofs.Common.{ℕ, List, [], ◌∷◌, true, false, refl}
use Rattle.std.specs.Prelude.{codes}
use Rattle.std.specs.Str.{bytes_eq}
use Rattle.text_tokens.specs.Tok.{Tok}
use Rattle.text_tokens.specs.declared.sign.Symbol.TheVariants as s
use Rattle.text_forms.specs.Parse as parse
use Rattle.text_forms.specs.Parse.{Parse}
use Rattle.text_forms.proofs.Exact.{Exact, Any, exact-less, exact-both, exact-after, exact-before, exact-after_word, exact-tested, exact-seen, exact-merged}
use Rattle.text_forms.proofs.Exact.{exact-name, exact-nothing}
use Rattle.text_forms.proofs.Choices.{exact-never, exact-choose, exact-headed}
use Rattle.text_blocks.specs.Exact.{AreExact}
use Rattle.text_blocks.specs.Parts.{Round}
use Rattle.text_blocks.specs.Seven.{Ends}
use Rattle.text_blocks.proofs.Parts.{exact-round, exact-ended, exact-first}
use Rattle.text_blocks.proofs.Clear as seven
use Rattle.streamit_text.specs.Blocks.{Own, own_at, Empty, empty_at, made_declare, discarding, made_head, Upto, upto_at, step_at, IsDeclare, IsAssign, IsPush}
use Rattle.streamit_text.specs.Blocks.{IsDiscard, IsPlain, HeadAfter, IsHead, holes, declare_at, assign_at, push_at, discard_at, plain_at, upper_at, head_after}
use Rattle.streamit_text.specs.Blocks.{named_head_at, head_at, round_head_at, style}
use Rattle.streamit_text.specs.Expressions.{marks, is_deeper, AreLeaves, IsExpression, expr_at}
use Rattle.streamit_text.specs.Tree.{Expression, Statement, Assign, Push}
use Rattle.streamit_text.specs.Words.{is_plain, is_own}

-- a name that users may give
pub exact-own : Exact Own own_at Any
unfolding own_at
exact-own = exact-tested is_own exact-name

-- nothing in brackets
pub exact-empty : (n : ℕ) → Exact (Empty n) (empty_at n) Any
unfolding empty_at
exact-empty n = exact-round (λ m. exact-nothing tt) (λ rest. tt) n

exact-upto : Exact Upto upto_at Any
unfolding upto_at
exact-upto =
    exact-less (exact-merged (parse.begins_with s.Less) (exact-after (s.Less ∷ []) (exact-nothing false)) (exact-after (s.LessEqual ∷ []) (exact-nothing true))
    (λ v ts rest h d. rw h.is refl) (λ v ts rest h d. rw h.is refl)) (λ rest d. (tt, tt))

module _ {F : ℕ → Expression → List Tok → Type 0} {e : ℕ → Parse Expression} (x : (n : ℕ) → Exact (F n) (e n) (Ends 6)) where
  exact-declare : (n : ℕ) → Exact (IsDeclare F n) (declare_at e n) Any
  unfolding declare_at
  exact-declare n =
      exact-seen made_declare (exact-both exact-own (exact-before (s.Semicolon ∷ []) (exact-first x n) (λ rest. (λ j h. refl, refl))) (λ y ts rest g d. tt))

  exact-assign : (w : List ℕ) (n : ℕ) → Exact (IsAssign F w n) (assign_at e w n) Any
  unfolding assign_at
  exact-assign w n = exact-seen (Assign w) (exact-after (s.Assign ∷ []) (exact-ended x (λ rest j h. refl) n))

  exact-push : (n : ℕ) → Exact (IsPush F n) (push_at e n) Any
  unfolding push_at
  exact-push n = exact-seen Push (exact-before (s.Semicolon ∷ []) (exact-round x (λ rest j h. refl) n) (λ rest. tt))

  exact-discard : (n : ℕ) → Exact (IsDiscard F n) (discard_at n) Any
  unfolding discard_at
  exact-discard n = exact-seen discarding (exact-before (s.Semicolon ∷ []) (exact-empty n) (λ rest. tt))

  exact-plain : (n : ℕ) (w : List ℕ) → Exact (IsPlain F n w) (plain_at e n w) Any
  unfolding plain_at
  exact-plain n w =
      exact-choose (bytes_eq w (codes "int")) (exact-declare n)
      (exact-choose (bytes_eq w (codes "push")) (exact-push n)
      (exact-choose (bytes_eq w (codes "pop")) (exact-discard n)
      (exact-choose (is_own w) (exact-assign w n) exact-never)))

  exact-head_after : (n : ℕ) (w : List ℕ) → Exact (HeadAfter F n w) (head_after e n w) Any
  unfolding head_after upper_at step_at
  exact-head_after n w =
      let ended = exact-ended x (λ rest j h. refl) in
      exact-seen (made_head w) (exact-after (s.Assign ∷ []) (exact-both (ended n) (exact-after_word w (exact-both exact-upto
      (exact-both (ended n) (exact-after_word w (exact-after (s.Increment ∷ []) (exact-nothing tt))) (λ y ts rest g d. tt)) (λ y ts rest g d. tt)))
      (λ y ts rest g d. tt)))

  exact-head : (n : ℕ) → Exact (IsHead F n) (head_at e n) Any
  unfolding head_at named_head_at
  exact-head n = exact-after_word (codes "int") (exact-headed (λ w. exact-choose (is_own w) (exact-head_after n w) exact-never))

  exact-round_head : (n : ℕ) → Exact (Round (IsHead F) n) (round_head_at e n) Any
  unfolding round_head_at
  exact-round_head n = exact-round exact-head (λ rest. tt) n

  -- `else` is a keyword
  no-else : (n : ℕ) (v : Statement) (ts : List Tok) → IsPlain F n (codes "else") v ts → ⊥
  unfolding is_plain
  no-else n v ts h = h

  exact-blocks : AreExact (style e) (holes F)
  exact-blocks = record {
    condition = exact-round x (λ rest j h. refl);
    head = λ n w. exact-round_head n;
    plain = exact-plain;
    else_opens = refl;
    no_else = no-else;
  }

-- an expression, whatever its leaves are
pub exact-term : {Leaf : ℕ → Expression → List Tok → Type 0} {leaf : ℕ → Parse Expression} → AreLeaves Leaf leaf
    → (n : ℕ) → Exact (IsExpression Leaf n) (expr_at leaf n) (Ends 6)
exact-term apart = seven.exact-term marks is_deeper apart

-- statements and blocks, whatever the leaves of their expressions are
pub exact-streamit : {Leaf : ℕ → Expression → List Tok → Type 0} {leaf : ℕ → Parse Expression} → AreLeaves Leaf leaf
    → AreExact (style (expr_at leaf)) (holes (IsExpression Leaf))
exact-streamit apart = exact-blocks (exact-term apart)
