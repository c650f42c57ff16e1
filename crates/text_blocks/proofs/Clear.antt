-- The reading of the expressions of a language with the seven levels is exact, where its leaves are.
use Rattle.std.proofs.Common.{◌≡◌, ℕ, List, ◌∷◌, ◌++◌, Some, None, false, arith, ◌∙◌}
use Rattle.text_tokens.specs.Tok.{Tok, symbol}
use Rattle.text_tokens.specs.declared.sign.Symbol.TheVariants as s
use Rattle.text_forms.specs.Deep.{IsDeeper}
use Rattle.text_forms.specs.Parse as parse
use Rattle.text_forms.specs.Parse.{Parse}
use Rattle.text_forms.proofs.Exact.{Exact, Any, exact-less}
use Rattle.text_forms.proofs.ExactLevels.{IsClear, exact-whole}
use Rattle.text_blocks.specs.Seven.{Ends, Marks, with_seven, IsTerm, term_at}
use Rattle.text_blocks.proofs.Seven.{operator-is, operator_at-is, operators-apart, sign-none, sign-other}

-- what a language shows of its leaves and its calls: they begin with a token that is no sign, no call and no opening bracket
pub record AreApart {T P : Type 0} (m : Marks T P) (Leaf : ℕ → T → List Tok → Type 0) (leaf : ℕ → Parse T) : Type 0 where
  pub exact : (n : ℕ) → Exact (Leaf n) (leaf n) Any
  pub shallow : (n : ℕ) (t : T) (ts : List Tok) → Leaf n t ts → m.depth t ≡ 1
  pub begins : (n : ℕ) (t : T) (ts : List Tok) → Leaf n t ts
      → (x : Tok) × (us : List Tok) × (ts ≡ x ∷ us) × ((vs : List Tok) → parse.begins_with s.Open (x ∷ vs) ≡ false) × (m.sign x ≡ None) × (m.call x ≡ None)
  pub open_call : m.call (symbol s.Open) ≡ None
  pub open_sign : m.sign (symbol s.Open) ≡ None
  pub call_sign : (x : Tok) (p : P) → m.call x ≡ Some p → m.sign x ≡ None

module _ {T P : Type 0} (m : Marks T P) {Leaf : ℕ → T → List Tok → Type 0} {leaf : ℕ → Parse T}
    (deep : IsDeeper (with_seven m)) (apart : AreApart m Leaf leaf) where
  -- its tokens say by themselves what they are
  clear : IsClear (with_seven m) Leaf leaf Any
  clear = record {
    deep = deep;
    exact = apart.exact;
    shallow = apart.shallow;
    no_open = λ n t ts rest h. let b = apart.begins n t ts h in rw b.2 (b.3 (b.1 ++ rest));
    no_call = λ n t ts rest h. let b = apart.begins n t ts h in rw b.2 b.5;
    no_sign = λ n k t ts rest h. let b = apart.begins n t ts h in rw b.2 (sign-none m.sign k b.0 b.4);
    open_call = apart.open_call;
    open_sign = λ k. sign-none m.sign k (symbol s.Open) apart.open_sign;
    call_sign = λ k x p e. sign-none m.sign k x (apart.call_sign x p e);
    signs_apart = λ j k x p less e. sign-other m.sign k x (λ f. omega (arith, less, f));
    operators_apart = operators-apart m.sign;
    operator_follows = λ k x o rest e. tt;
    close_operator = λ k. operator-is m.sign k (symbol s.Close);
    close_follows = λ rest. tt;
  }

  -- an expression: no operator may follow
  pub exact-term : (n : ℕ) → Exact (IsTerm m Leaf n) (term_at m leaf n) (Ends 6)
  unfolding term_at
  exact-term n =
      let x = exact-less (exact-whole (with_seven m) Leaf leaf Any clear n)
      (λ rest (d : Ends 6 rest). ((λ j less. operator_at-is m j rest ∙ d j (omega (arith, less))), tt)) in
      record { sound = λ ts v rest e. x.sound ts v rest e; complete = λ v s rest h d. x.complete v s rest h d }
