-- The seven levels of the expressions that the languages share, but for CQL.
use Rattle.std.proofs.Common.{◌≡◌, ◌≢◌, ℕ, zero, suc, ◌<◌, ◌≤◌, List, [], ◌∷◌, Bool, true, false, cond, Option, Some, None, refl, sym, ap, ◌∙◌, arith}
use Rattle.std.specs.Prelude.{◌==◌}
use Rattle.std.proofs.lemmas.Bool.{eqb-true}
use Rattle.std.proofs.lemmas.Option.{same_Some}
use Rattle.text_tokens.specs.Tok.{Tok}
use Rattle.work_code.specs.declared.expr.BinOp.{BinOp}
use Rattle.work_code.specs.declared.expr.BinOp.TheVariants as op
use Rattle.text_blocks.specs.Seven.{rank_of, of_rank, op_at, ranked, seven, no_call, Marks, with_seven}
use Rattle.text_blocks.specs.Seven as expressions
use Rattle.text_forms.specs.Levels.{level_of, form_of, operator, sign}
use Rattle.text_forms.specs.ReadLevels as levels
use Rattle.text_forms.specs.ReadLevels.{first}
use Rattle.text_forms.specs.declared.form.Form.TheVariants as form

rank-some : (o : BinOp) → (0 < rank_of o) × (rank_of o < 7)
rank-some op.Add = (omega arith, omega arith)
rank-some op.Sub = (omega arith, omega arith)
rank-some op.Mul = (omega arith, omega arith)
rank-some op.Quot = (omega arith, omega arith)
rank-some op.Rem = (omega arith, omega arith)
rank-some op.Eq = (omega arith, omega arith)
rank-some op.Ne = (omega arith, omega arith)
rank-some op.Lt = (omega arith, omega arith)
rank-some op.Le = (omega arith, omega arith)
rank-some op.Gt = (omega arith, omega arith)
rank-some op.Ge = (omega arith, omega arith)
rank-some op.And = (omega arith, omega arith)
rank-some op.Or = (omega arith, omega arith)

-- an operator is of its level
pub of_rank-is : (k : ℕ) (r : Option BinOp) (o : BinOp) → of_rank k r ≡ Some o → (r ≡ Some o) × (rank_of o ≡ k)
of_rank-is k None o e = cc
of_rank-is k (Some p) o e = by (rank_of p == k) refl e where
  by : (b : Bool) → (rank_of p == k) ≡ b → cond b (Some p) None ≡ Some o → ◌≡◌ {A = Option BinOp} (Some p) (Some o) × (rank_of o ≡ k)
  by true is f = (f, ap rank_of (sym (same_Some _ _ f)) ∙ eqb-true (rank_of p) k is)
  by false is f = cc

-- none is of a level that is none of the six
pub no-rank : (k : ℕ) (r : Option BinOp) → ((o : BinOp) → rank_of o ≢ k) → of_rank k r ≡ None
no-rank k None other = refl
no-rank k (Some o) other = by (rank_of o == k) refl where
  by : (b : Bool) → (rank_of o == k) ≡ b → cond b (Some o) None ≡ None
  by true is = absurd (other o (eqb-true (rank_of o) k is))
  by false is = refl

-- what the signs are, a language says
module _ {P : Type 0} (signs : Tok → Option P) where
  -- the tightest level has the signs
  pub form-prefix : (k : ℕ) → k ≡ 0 → form_of (level_of (seven signs) k) ≡ form.Prefix
  form-prefix k e = rw e refl

  -- the six above it have operators, as many as come
  pub form-chain : (k : ℕ) → k ≢ 0 → k < 7 → form_of (level_of (seven signs) k) ≡ form.Chain
  form-chain zero some few = absurd (some refl)
  form-chain (suc zero) some few = refl
  form-chain (suc (suc zero)) some few = refl
  form-chain (suc (suc (suc zero))) some few = refl
  form-chain (suc (suc (suc (suc zero)))) some few = refl
  form-chain (suc (suc (suc (suc (suc zero))))) some few = refl
  form-chain (suc (suc (suc (suc (suc (suc zero)))))) some few = refl
  form-chain (suc (suc (suc (suc (suc (suc (suc k))))))) some few = absurd (omega (arith, few))

  -- above them is none
  pub form-none : (k : ℕ) → 7 ≤ k → form_of (level_of (seven signs) k) ≡ form.Once
  form-none zero most = absurd (omega (arith, most))
  form-none (suc zero) most = absurd (omega (arith, most))
  form-none (suc (suc zero)) most = absurd (omega (arith, most))
  form-none (suc (suc (suc zero))) most = absurd (omega (arith, most))
  form-none (suc (suc (suc (suc zero)))) most = absurd (omega (arith, most))
  form-none (suc (suc (suc (suc (suc zero))))) most = absurd (omega (arith, most))
  form-none (suc (suc (suc (suc (suc (suc zero)))))) most = absurd (omega (arith, most))
  form-none (suc (suc (suc (suc (suc (suc (suc k))))))) most = refl

  -- the operators of a level are those of its rank
  pub operator-is : (k : ℕ) (x : Tok) → operator (level_of (seven signs) k) x ≡ ranked k x
  operator-is zero x = sym (no-rank 0 (op_at x) (λ o e. let few = (rank-some o).0 in omega (arith, few, e)))
  operator-is (suc zero) x = refl
  operator-is (suc (suc zero)) x = refl
  operator-is (suc (suc (suc zero))) x = refl
  operator-is (suc (suc (suc (suc zero)))) x = refl
  operator-is (suc (suc (suc (suc (suc zero))))) x = refl
  operator-is (suc (suc (suc (suc (suc (suc zero)))))) x = refl
  operator-is (suc (suc (suc (suc (suc (suc (suc k))))))) x =
      sym (no-rank (suc (suc (suc (suc (suc (suc (suc k))))))) (op_at x) (λ o e. let few = (rank-some o).1 in omega (arith, few, e)))

  -- SIGNS

  -- no level but the tightest has signs
  pub sign-other : (k : ℕ) (x : Tok) → k ≢ 0 → sign (level_of (seven signs) k) x ≡ None
  sign-other zero x some = absurd (some refl)
  sign-other (suc zero) x some = refl
  sign-other (suc (suc zero)) x some = refl
  sign-other (suc (suc (suc zero))) x some = refl
  sign-other (suc (suc (suc (suc zero)))) x some = refl
  sign-other (suc (suc (suc (suc (suc zero))))) x some = refl
  sign-other (suc (suc (suc (suc (suc (suc zero)))))) x some = refl
  sign-other (suc (suc (suc (suc (suc (suc (suc k))))))) x some = refl

  -- what is no sign is none on any level
  pub sign-none : (k : ℕ) (x : Tok) → signs x ≡ None → sign (level_of (seven signs) k) x ≡ None
  sign-none zero x e = e
  sign-none (suc k) x e = sign-other (suc k) x (λ f. omega (arith, f))

  -- one operator is of one level
  pub operators-apart : (j k : ℕ) (x : Tok) (o : BinOp) → j < k → operator (level_of (seven signs) k) x ≡ Some o → operator (level_of (seven signs) j) x ≡ None
  operators-apart j k x o less is = by (operator (level_of (seven signs) j) x) refl where
    here : (op_at x ≡ Some o) × (rank_of o ≡ k)
    here = of_rank-is k (op_at x) o (sym (operator-is k x) ∙ is)

    same_op : (p : BinOp) → op_at x ≡ Some p → p ≡ o
    same_op p e = let f = here.0 in cc (e, f)

    by : (r : Option BinOp) → operator (level_of (seven signs) j) x ≡ r → r ≡ None
    by None e = refl
    by (Some p) e =
        let there = of_rank-is j (op_at x) p (sym (operator-is j x) ∙ e) in
        let one : rank_of p ≡ rank_of o = ap rank_of (same_op p there.0) in
        let low = there.1 in
        let high = here.1 in
        absurd (omega (arith, one, low, high, less))

pub ruleset forms = (form-prefix, form-chain, form-none)

module _ {T P : Type 0} (m : Marks T P) where
  -- the operator of a level that comes next
  pub operator_at-is : (k : ℕ) (ts : List Tok) → levels.operator_at (with_seven m) k ts ≡ expressions.operator_at k ts
  operator_at-is k [] = refl
  operator_at-is k (x ∷ ts) = operator-is m.sign k x

  -- the sign that comes next, on the tightest level
  pub sign_at-first : (k : ℕ) (ts : List Tok) → k ≡ 0 → levels.sign_of_level (with_seven m) k ts ≡ first m.sign ts
  sign_at-first k ts e = rw e refl

  -- on any other level none comes
  pub sign_at-other : (k : ℕ) (ts : List Tok) → k ≢ 0 → levels.sign_of_level (with_seven m) k ts ≡ None
  sign_at-other k [] some = refl
  sign_at-other k (x ∷ ts) some = sign-other m.sign k x some

pub ruleset signs = (sign_at-first, sign_at-other)

-- in a language where nothing stands before brackets, nothing does
pub call-none : {P : Type 0} (ts : List Tok) → first (no_call {P = P}) ts ≡ None
call-none [] = refl
call-none (x ∷ ts) = refl

pub ruleset calls = (call-none)
