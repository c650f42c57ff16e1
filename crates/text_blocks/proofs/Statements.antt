-- The reading of the statements of any language is exact.
use Rattle.std.proofs.Common.{◌≡◌, ℕ, zero, suc, List, ◌++◌, Bool, true, false, refl, arith, subst}
use Rattle.std.specs.Prelude.{codes}
use Rattle.std.specs.Str.{bytes_eq}
use Rattle.std.proofs.lemmas.Slice.Eq.{bytes_eq-Decides}
use Rattle.text_tokens.specs.Tok.{Tok}
use Rattle.text_tokens.specs.declared.sign.Symbol.TheVariants as s
use Rattle.text_forms.specs.Parse as parse
use Rattle.text_forms.specs.Parse.{Parse, is_word_at}
use Rattle.text_forms.specs.Forms as form
use Rattle.text_forms.proofs.Exact.{Exact, Any, exact-less, exact-both, exact-after_word, exact-seen, exact-maybe}
use Rattle.text_forms.proofs.Many.{Listed, exact-many}
use Rattle.text_forms.proofs.Choices.{exact-never, exact-headed, exact-enclosed}
use Rattle.text_blocks.specs.Exact.{AreExact}
use Rattle.text_blocks.specs.Reading.{by_opening, at_close, stmts_of, block_of, else_at, branch_of, loop_of, rest_at, stmt_at, stmts_at, block_at}
use Rattle.text_blocks.specs.Statements.{Style, Holes, ByOpening, IsBlockOf, made_branch, IsBranch, made_loop, IsLoop, IsRest, IsStatement, IsBlock}
use Rattle.text_blocks.specs.declared.opening.Opening.{Opening}
use Rattle.text_blocks.specs.declared.opening.Opening.TheVariants.{Branch, Loop, Plain}

-- no `else` comes
abbrev pub NoElse : List Tok → Type 0
NoElse rest = is_word_at (codes "else") rest ≡ false

-- a choice by what a word opens
exact-by : {S : Type 0} {B L P : S → List Tok → Type 0} {b l p : Parse S} {E : List Tok → Type 0} (o : Opening) → Exact B b E → Exact L l E → Exact P p E
    → Exact (ByOpening o B L P) (by_opening o b l p) E
exact-by Branch b l p = b
exact-by Loop b l p = l
exact-by Plain b l p = p

-- what opens nothing
plain-by : {S : Type 0} (B L P : S → List Tok → Type 0) (o : Opening) (v : S) (ts : List Tok) → o ≡ Plain → ByOpening o B L P v ts → P v ts
plain-by B L P Branch v ts e h = cc
plain-by B L P Loop v ts e h = cc
plain-by B L P Plain v ts e h = h

exact-else : {B : Type 0} {block : ℕ → B → List Tok → Type 0} {p : ℕ → Parse B} → ((n : ℕ) → Exact (block n) (p n) Any) → (n : ℕ)
    → Exact (form.Maybe (form.AfterWord (codes "else") (block n))) (else_at p n) NoElse
unfolding else_at
exact-else {B} {block} {p} x n =
    exact-less (exact-maybe (parse.is_word_at (codes "else")) (exact-after_word (codes "else") (x n)) else_comes) (λ rest d. (tt, d))
  where
    else_comes : (v : B) (ts rest : List Tok) → form.AfterWord (codes "else") (block n) v ts → parse.is_word_at (codes "else") (ts ++ rest) ≡ true
    else_comes v ts rest h = rw h.is refl

module _ {E H S B : Type 0} {Y : Style E H S B} {G : Holes E H S} (x : AreExact Y G) where
  exact-branch : {block : ℕ → B → List Tok → Type 0} {p : ℕ → Parse B} → ((n : ℕ) → Exact (block n) (p n) Any) → (n : ℕ)
      → Exact (IsBranch Y G block n) (branch_of Y p n) NoElse
  unfolding branch_of
  exact-branch b n = exact-seen (made_branch Y) (exact-both (x.condition n) (exact-both (b n) (exact-else b n) (λ y ts rest g d. tt)) (λ y ts rest g d. tt))

  exact-loop : {block : ℕ → B → List Tok → Type 0} {p : ℕ → Parse B} → ((n : ℕ) → Exact (block n) (p n) Any) → (n : ℕ) (w : List ℕ)
      → Exact (IsLoop Y G block n w) (loop_of Y p n w) NoElse
  unfolding loop_of
  exact-loop b n w = exact-seen (made_loop Y) (exact-less (exact-both (x.head n w) (b n) (λ y ts rest g d. tt)) (λ rest d. tt))

  -- no statement begins with `else`
  none-else : (nest n : ℕ) (v : S) (ts : List Tok) → IsRest Y G nest n (codes "else") v ts → ⊥
  unfolding IsRest
  none-else zero n v ts h = x.no_else n v ts (plain-by _ _ _ (Y.opening (codes "else")) v ts x.else_opens h)
  none-else (suc nest) n v ts h = x.no_else n v ts (plain-by _ _ _ (Y.opening (codes "else")) v ts x.else_opens h)

  other-word : (nest n : ℕ) (w : List ℕ) (v : S) (ts : List Tok) → IsRest Y G nest n w v ts → bytes_eq w (codes "else") ≡ false
  other-word nest n w v ts h = by (bytes_eq w (codes "else")) refl where
    by : (b : Bool) → bytes_eq w (codes "else") ≡ b → b ≡ false
    by false e = refl
    by true e = absurd (none-else nest n v ts (subst (λ (u : List ℕ). IsRest Y G nest n u v ts) ((bytes_eq-Decides w (codes "else")).0 e) h))

  -- statements up to a closing brace
  pub listed-stmts : (nest n : ℕ) → Listed at_close (IsStatement Y G nest n) NoElse
  listed-stmts nest n = record {
    some = λ v ts h. rw h.is (omega arith);
    begins = λ v ts rest h. rw h.is refl;
    follows = λ v ts rest h. rw h.is (other-word nest n h.word v h.back h.formed);
  }

  exact-block_of : (nest : ℕ) {p : ℕ → Parse S} → ((n : ℕ) → Exact (IsStatement Y G nest n) (p n) NoElse) → (n : ℕ)
      → Exact (IsBlockOf Y (IsStatement Y G nest) n) (block_of (stmts_of Y p) n) Any
  exact-block_of nest e n =
      exact-enclosed s.OpenBrace s.CloseBrace (λ m. exact-seen Y.block (exact-many at_close (e m) (listed-stmts nest m))) (λ rest. (refl, refl)) n

  -- what stands behind the first word of a statement
  pub exact-rest : (nest n : ℕ) (w : List ℕ) → Exact (IsRest Y G nest n w) (rest_at Y nest n w) NoElse
  unfolding IsRest rest_at
  exact-rest zero n w = exact-by (Y.opening w) exact-never exact-never (exact-less (x.plain n w) (λ rest d. tt))
  exact-rest (suc nest) n w =
      let block = exact-block_of nest (λ m. exact-headed (exact-rest nest m)) in
      exact-by (Y.opening w) (exact-branch block n) (exact-loop block n w) (exact-less (x.plain n w) (λ rest d. tt))

  -- a statement
  pub exact-stmt : (nest n : ℕ) → Exact (IsStatement Y G nest n) (stmt_at Y nest n) NoElse
  unfolding stmt_at
  exact-stmt nest n = exact-headed (exact-rest nest n)

  -- a block
  pub exact-block : (nest n : ℕ) → Exact (IsBlock Y G nest n) (block_at Y nest n) Any
  unfolding block_at stmts_at
  exact-block nest n = exact-block_of nest (exact-stmt nest) n
