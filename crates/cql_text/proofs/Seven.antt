-- The seven levels of values.
use Rattle.std.proofs.Common.{◌≡◌, ◌≢◌, ℕ, zero, suc, ◌<◌, ◌≤◌, List, [], ◌∷◌, Bool, true, false, cond, Option, Some, None, refl, sym, ap, ◌∙◌, arith}
use Rattle.std.specs.Prelude.{codes, ◌==◌}
use Rattle.std.proofs.lemmas.Bool.{eqb-true}
use Rattle.std.proofs.lemmas.Option.{same_Some}
use Rattle.text_tokens.specs.Tok.{Tok, name, var, number, symbol}
use Rattle.text_tokens.specs.declared.sign.Symbol.TheVariants as s
use Rattle.text_forms.specs.Levels.{level_of, form_of, operator, sign}
use Rattle.text_forms.specs.Parse.{begins_with}
use Rattle.text_forms.specs.ReadLevels as levels
use Rattle.text_forms.specs.declared.form.Form.TheVariants as form
use Rattle.cql_text.specs.Values.{rank_of, of_rank, op_at, ranked, minus, negation, seven, syntax}
use Rattle.cql_text.specs.ValueReading as values
use Rattle.cql_text.specs.Words.{is_keyword_at}
use Rattle.cql_text.specs.declared.operator.Operator.{Operator}
use Rattle.cql_text.specs.declared.operator.Operator.TheVariants as op
use Rattle.cql_text.specs.declared.operator.Sign.{Sign}
use Rattle.cql_text.specs.declared.operator.Sign.TheVariants as mark

-- FORMS

-- all levels but the signs and the comparison are chains
pub form-chain : (k : ℕ) → k ≢ 0 → k ≢ 3 → k ≢ 4 → k < 7 → form_of (level_of seven k) ≡ form.Chain
form-chain zero a b c few = absurd (a refl)
form-chain (suc zero) a b c few = refl
form-chain (suc (suc zero)) a b c few = refl
form-chain (suc (suc (suc zero))) a b c few = absurd (b refl)
form-chain (suc (suc (suc (suc zero)))) a b c few = absurd (c refl)
form-chain (suc (suc (suc (suc (suc zero))))) a b c few = refl
form-chain (suc (suc (suc (suc (suc (suc zero)))))) a b c few = refl
form-chain (suc (suc (suc (suc (suc (suc (suc k))))))) a b c few = absurd (omega (arith, few))

-- behind the seventh level there is none, which counts as one without operators
pub form-none : (k : ℕ) → 7 ≤ k → form_of (level_of seven k) ≡ form.Once
form-none zero most = absurd (omega (arith, most))
form-none (suc zero) most = absurd (omega (arith, most))
form-none (suc (suc zero)) most = absurd (omega (arith, most))
form-none (suc (suc (suc zero))) most = absurd (omega (arith, most))
form-none (suc (suc (suc (suc zero)))) most = absurd (omega (arith, most))
form-none (suc (suc (suc (suc (suc zero))))) most = absurd (omega (arith, most))
form-none (suc (suc (suc (suc (suc (suc zero)))))) most = absurd (omega (arith, most))
form-none (suc (suc (suc (suc (suc (suc (suc k))))))) most = refl

pub ruleset forms = (form-chain, form-none)

-- OPERATORS

rank-some : (o : Operator) → (0 < rank_of o) × (rank_of o ≢ 4) × (rank_of o < 7)
rank-some op.Mul = (omega arith, (λ e. omega (arith, e)), omega arith)
rank-some op.Quot = (omega arith, (λ e. omega (arith, e)), omega arith)
rank-some op.Rem = (omega arith, (λ e. omega (arith, e)), omega arith)
rank-some op.Add = (omega arith, (λ e. omega (arith, e)), omega arith)
rank-some op.Sub = (omega arith, (λ e. omega (arith, e)), omega arith)
rank-some op.Equal = (omega arith, (λ e. omega (arith, e)), omega arith)
rank-some op.Different = (omega arith, (λ e. omega (arith, e)), omega arith)
rank-some op.NotEqual = (omega arith, (λ e. omega (arith, e)), omega arith)
rank-some op.Less = (omega arith, (λ e. omega (arith, e)), omega arith)
rank-some op.LessEqual = (omega arith, (λ e. omega (arith, e)), omega arith)
rank-some op.Greater = (omega arith, (λ e. omega (arith, e)), omega arith)
rank-some op.GreaterEqual = (omega arith, (λ e. omega (arith, e)), omega arith)
rank-some op.And = (omega arith, (λ e. omega (arith, e)), omega arith)
rank-some op.Or = (omega arith, (λ e. omega (arith, e)), omega arith)

-- an operator is of its level
pub of_rank-is : (k : ℕ) (r : Option Operator) (o : Operator) → of_rank k r ≡ Some o → (r ≡ Some o) × (rank_of o ≡ k)
of_rank-is k None o e = cc
of_rank-is k (Some p) o e = by (rank_of p == k) refl e where
  by : (b : Bool) → (rank_of p == k) ≡ b → cond b (Some p) None ≡ Some o → ◌≡◌ {A = Option Operator} (Some p) (Some o) × (rank_of o ≡ k)
  by true is f = (f, ap rank_of (sym (same_Some _ _ f)) ∙ eqb-true (rank_of p) k is)
  by false is f = cc

-- none is of a level that has no operators
no-rank : (k : ℕ) (r : Option Operator) → ((o : Operator) → rank_of o ≢ k) → of_rank k r ≡ None
no-rank k None other = refl
no-rank k (Some o) other = by (rank_of o == k) refl where
  by : (b : Bool) → (rank_of o == k) ≡ b → cond b (Some o) None ≡ None
  by true is = absurd (other o (eqb-true (rank_of o) k is))
  by false is = refl

-- the operators of a level are those of its rank
pub operator-is : (k : ℕ) (x : Tok) → operator (level_of seven k) x ≡ ranked k x
operator-is zero x = sym (no-rank 0 (op_at x) (λ o e. let some = (rank-some o).0 in omega (arith, some, e)))
operator-is (suc zero) x = refl
operator-is (suc (suc zero)) x = refl
operator-is (suc (suc (suc zero))) x = refl
operator-is (suc (suc (suc (suc zero)))) x = sym (no-rank 4 (op_at x) (λ o. (rank-some o).1))
operator-is (suc (suc (suc (suc (suc zero))))) x = refl
operator-is (suc (suc (suc (suc (suc (suc zero)))))) x = refl
operator-is (suc (suc (suc (suc (suc (suc (suc k))))))) x =
    sym (no-rank (suc (suc (suc (suc (suc (suc (suc k))))))) (op_at x) (λ o e. let few = (rank-some o).2 in omega (arith, few, e)))

-- and so are those that come next
pub operator_at-is : (k : ℕ) (ts : List Tok) → levels.operator_at syntax k ts ≡ values.operator_at k ts
operator_at-is k [] = refl
operator_at-is k (x ∷ ts) = operator-is k x

-- SIGNS

pub sign-other : (k : ℕ) (x : Tok) → k ≢ 0 → k ≢ 4 → sign (level_of seven k) x ≡ None
sign-other zero x a b = absurd (a refl)
sign-other (suc zero) x a b = refl
sign-other (suc (suc zero)) x a b = refl
sign-other (suc (suc (suc zero))) x a b = refl
sign-other (suc (suc (suc (suc zero)))) x a b = absurd (b refl)
sign-other (suc (suc (suc (suc (suc zero))))) x a b = refl
sign-other (suc (suc (suc (suc (suc (suc zero)))))) x a b = refl
sign-other (suc (suc (suc (suc (suc (suc (suc k))))))) x a b = refl

-- a token that is neither sign is no sign of any level
pub sign-none : (k : ℕ) (x : Tok) → minus x ≡ None → negation x ≡ None → sign (level_of seven k) x ≡ None
sign-none zero x m w = m
sign-none (suc zero) x m w = refl
sign-none (suc (suc zero)) x m w = refl
sign-none (suc (suc (suc zero))) x m w = refl
sign-none (suc (suc (suc (suc zero)))) x m w = w
sign-none (suc (suc (suc (suc (suc zero))))) x m w = refl
sign-none (suc (suc (suc (suc (suc (suc zero)))))) x m w = refl
sign-none (suc (suc (suc (suc (suc (suc (suc k))))))) x m w = refl

-- a minus is no word
minus-word : (x : Tok) (p : Sign) → minus x ≡ Some p → negation x ≡ None
minus-word (name text) p e = cc
minus-word (var text) p e = refl
minus-word (number v) p e = refl
minus-word (symbol y) p e = refl

none_some : {A : Type 0} {a : A} → ◌≡◌ {A = Option A} None (Some a) → ⊥
none_some e = cc

-- a sign of one level is no sign of a later one
pub signs-apart : (j k : ℕ) (x : Tok) (p : Sign) → j < k → sign (level_of seven j) x ≡ Some p → sign (level_of seven k) x ≡ None
signs-apart j zero x p less e = absurd (omega (arith, less))
signs-apart j (suc zero) x p less e = refl
signs-apart j (suc (suc zero)) x p less e = refl
signs-apart j (suc (suc (suc zero))) x p less e = refl
signs-apart zero (suc (suc (suc (suc zero)))) x p less e = minus-word x p e
signs-apart (suc zero) (suc (suc (suc (suc zero)))) x p less e = absurd (none_some e)
signs-apart (suc (suc zero)) (suc (suc (suc (suc zero)))) x p less e = absurd (none_some e)
signs-apart (suc (suc (suc zero))) (suc (suc (suc (suc zero)))) x p less e = absurd (none_some e)
signs-apart (suc (suc (suc (suc j)))) (suc (suc (suc (suc zero)))) x p less e = absurd (omega (arith, less))
signs-apart j (suc (suc (suc (suc (suc zero))))) x p less e = refl
signs-apart j (suc (suc (suc (suc (suc (suc zero)))))) x p less e = refl
signs-apart j (suc (suc (suc (suc (suc (suc (suc k))))))) x p less e = refl

-- no sign is a star
pub sign-no_star : (k : ℕ) (x : Tok) (p : Sign) (rest : List Tok) → sign (level_of seven k) x ≡ Some p → begins_with s.Star (x ∷ rest) ≡ false
sign-no_star k (name text) p rest e = refl
sign-no_star k (var text) p rest e = refl
sign-no_star k (number v) p rest e = refl
sign-no_star k (symbol s.Star) p rest e = absurd (none_some (sym (sign-none k (symbol s.Star) refl refl) ∙ e))
sign-no_star k (symbol y) p rest e = refl

-- the sign of the first level is a minus
pub sign_at-minus : (ts : List Tok) → levels.sign_of_level syntax 0 ts ≡ cond (begins_with s.Minus ts) (Some mark.Minus) None
sign_at-minus [] = refl
sign_at-minus (name text ∷ ts) = refl
sign_at-minus (var text ∷ ts) = refl
sign_at-minus (number v ∷ ts) = refl
sign_at-minus (symbol y ∷ ts) = refl

-- the sign of the fifth level is `Not`
pub sign_at-not : (ts : List Tok) → levels.sign_of_level syntax 4 ts ≡ cond (is_keyword_at (codes "not") ts) (Some mark.Not) None
sign_at-not [] = refl
sign_at-not (name text ∷ ts) = refl
sign_at-not (var text ∷ ts) = refl
sign_at-not (number v ∷ ts) = refl
sign_at-not (symbol y ∷ ts) = refl

-- no other level has a sign
pub sign_at-other : (k : ℕ) (ts : List Tok) → k ≢ 0 → k ≢ 4 → levels.sign_of_level syntax k ts ≡ None
sign_at-other k [] a b = refl
sign_at-other k (x ∷ ts) a b = sign-other k x a b

pub ruleset signs = (sign_at-minus, sign_at-not, sign_at-other)

-- no word stands before a value in brackets
pub call-none : (ts : List Tok) → levels.first syntax.call ts ≡ None
call-none [] = refl
call-none (x ∷ ts) = refl

pub ruleset calls = (call-none)
