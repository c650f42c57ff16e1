-- The reading of expressions in brackets, before a semicolon and behind `=` is exact.
use Rattle.std.proofs.Common.{◌≡◌, ℕ, suc, List, [], ◌∷◌, ◌++◌, true, false, refl, ap, ◌∙◌}
use Rattle.text_tokens.specs.Tok.{Tok, number, symbol}
use Rattle.text_tokens.specs.declared.sign.Symbol.TheVariants as s
use Rattle.text_forms.specs.Parse as parse
use Rattle.text_forms.specs.Parse.{Parse}
use Rattle.text_forms.specs.Forms as form
use Rattle.text_forms.proofs.Exact.{Exact, Any, exact-after, exact-before, exact-maybe, exact-tested, exact-number}
use Rattle.text_forms.proofs.Choices.{exact-enclosed}
use Rattle.text_blocks.specs.Parts.{Round, Square, Ended, FirstValue, round_at, square_at, ended_at, first_value_at}

module _ {A : Type 0} {F : ℕ → A → List Tok → Type 0} {p : ℕ → Parse A} {E : List Tok → Type 0} (x : (n : ℕ) → Exact (F n) (p n) E) where
  -- an expression in round brackets
  pub exact-round : ((rest : List Tok) → E (symbol s.Close ∷ rest)) → (n : ℕ) → Exact (Round F n) (round_at p n) Any
  unfolding round_at
  exact-round follows n = exact-enclosed s.Open s.Close x follows n

  -- an expression in square brackets
  pub exact-square : ((rest : List Tok) → E (symbol s.CloseBracket ∷ rest)) → (n : ℕ) → Exact (Square F n) (square_at p n) Any
  unfolding square_at
  exact-square follows n = exact-enclosed s.OpenBracket s.CloseBracket x follows n

  -- an expression before a semicolon
  pub exact-ended : ((rest : List Tok) → E (symbol s.Semicolon ∷ rest)) → (n : ℕ) → Exact (Ended F n) (ended_at p n) Any
  unfolding ended_at
  exact-ended follows n = exact-before (s.Semicolon ∷ []) (x n) follows

  -- `=` and an expression, or nothing
  pub exact-first : (n : ℕ) → Exact (FirstValue F n) (first_value_at p n) (λ rest. E rest × (parse.begins_with s.Assign rest ≡ false))
  unfolding first_value_at
  exact-first n = exact-maybe (parse.begins_with s.Assign) (exact-after (s.Assign ∷ []) (x n)) (λ v ts rest h. rw h.is refl)

-- a number that counts something, in square brackets
pub exact-place : (n : ℕ) → Exact (Square (λ m. form.Tested parse.is_count form.Number) n) (square_at (λ m. parse.count_at) n) Any
exact-place n = exact-square (λ m. exact-tested parse.is_count exact-number) (λ rest. tt) n

-- the tokens of such a number
pub place-tokens : (n k : ℕ) (ts : List Tok) → Square (λ m. form.Tested parse.is_count form.Number) (suc n) k ts
    → (ts ≡ symbol s.OpenBracket ∷ number k ∷ symbol s.CloseBracket ∷ []) × (parse.is_count k ≡ true)
place-tokens n k ts h = (
  h.is ∙ ap (λ (l : List Tok). symbol s.OpenBracket ∷ l) (h.formed.is ∙ ap (λ (l : List Tok). l ++ symbol s.CloseBracket ∷ []) h.formed.formed.formed),
  h.formed.formed.passes,
)
