-- The reading of values is exact.
use Rattle.std.proofs.Common.{◌≡◌, ℕ, ◌<◌, ◌≤◌, List, [], ◌∷◌, ◌++◌, true, false, Option, Some, None, refl, sym, ap, ◌∙◌, subst, arith}
use Rattle.text_tokens.specs.Tok.{Tok, name, var, number, symbol}
use Rattle.text_tokens.specs.declared.sign.Symbol.{Symbol}
use Rattle.text_tokens.specs.declared.sign.Symbol.TheVariants as s
use Rattle.text_forms.specs.Forms as form
use Rattle.text_forms.specs.Levels.{level_of, operator}
use Rattle.text_forms.specs.Parse as parse
use Rattle.text_forms.specs.ReadLevels as levels
use Rattle.text_forms.specs.Tail.{tail}
use Rattle.text_forms.proofs.Exact.{Exact, Front, Any, exact-as, exact-less, exact-tested, exact-seen, exact-number}
use Rattle.text_forms.proofs.ExactLevels.{IsClear, exact-whole}
use Rattle.text_forms.proofs.Pairs.{pair_inj, choose}
use Rattle.text_forms.proofs.Symbols.{begins_with-is}
use Rattle.cql_text.specs.Deepest.{deepest}
use Rattle.cql_text.specs.Tree.{Scalar, Number, Field, ItemField, scalar_depth}
use Rattle.cql_text.specs.ValueReading.{operator_at, field_after, numeral_at, leaf_at, leaf_in, scalar_at}
use Rattle.cql_text.specs.Values.{op_of, op_at, rank_of, seven, syntax, IsLeaf, IsScalar}
use Rattle.cql_text.specs.Values as rule
use Rattle.cql_text.specs.Words.{is_plain, plain_at}
use Rattle.cql_text.specs.declared.operator.Operator.{Operator}
use Rattle.cql_text.proofs.Seven.{of_rank-is, operator-is, operator_at-is, sign-none, signs-apart}
use Rattle.cql_text.proofs.Words.{exact-plain, plain-not}

-- no dot comes
abbrev pub NoDot : List Tok → Type 0
NoDot rest = parse.begins_with s.Dot rest ≡ false

-- no operator of the levels up to k comes, and no dot
abbrev pub Ends : ℕ → List Tok → Type 0
Ends k rest = ((j : ℕ) → j ≤ k → operator_at j rest ≡ None) × NoDot rest

-- numbers of at most 63 bits are read exactly
pub exact-numeral : Exact (form.Tested parse.is_value form.Number) numeral_at Any
unfolding numeral_at
exact-numeral = exact-tested parse.is_value exact-number

numeral-here : (v : ℕ) (rest : List Tok) → parse.is_value v ≡ true → numeral_at (number v ∷ rest) ≡ Some (v, rest)
numeral-here v rest h = exact-numeral.complete v (number v ∷ []) rest (record { passes = h; formed = refl }) tt

-- LEAVES

field-sound : (n : ℕ) (text : List ℕ) (ts : List Tok) (t : Scalar) (rest : List Tok) → is_plain text ≡ true → parse.begins_with s.Dot ts ≡ true
    → parse.seen (ItemField text) plain_at (tail ts) ≡ Some (t, rest) → Front (IsLeaf n) t (name text ∷ ts) rest
field-sound n text ts t rest plain dot e =
    let f = (exact-seen (ItemField text) exact-plain).sound (tail ts) t rest e in
    let v = f.formed.value in
    let tokens : f.front ≡ name v ∷ [] = f.formed.formed.formed in
    record {
      front = name text ∷ symbol s.Dot ∷ name v ∷ [];
      is =
          ap (λ (us : List Tok). name text ∷ us)
          (begins_with-is s.Dot ts dot ∙ ap (λ (us : List Tok). symbol s.Dot ∷ us) (f.is ∙ ap (λ (us : List Tok). us ++ rest) tokens));
      formed =
          subst (λ (u : Scalar). IsLeaf n u (name text ∷ symbol s.Dot ∷ name v ∷ [])) (sym f.formed.is) (rule.of_item n text v plain f.formed.formed.passes);
    }

leaf-sound : (n : ℕ) (ts : List Tok) (t : Scalar) (rest : List Tok) → leaf_at ts ≡ Some (t, rest) → Front (IsLeaf n) t ts rest
unfolding field_after
leaf-sound n [] t rest e = cc
leaf-sound n (name text ∷ ts) t rest e =
    choose (is_plain text) _ None (t, rest) e
    (λ plain r. choose (parse.begins_with s.Dot ts) (parse.seen (ItemField text) plain_at (tail ts)) (Some (Field text, ts)) (t, rest) r
    (λ dot q. field-sound n text ts t rest plain dot q)
    (λ _ q.
    let same = pair_inj q in
    record {
      front = name text ∷ [];
      is = ap (λ (us : List Tok). name text ∷ us) same.1;
      formed = subst (λ (u : Scalar). IsLeaf n u (name text ∷ [])) same.0 (rule.field n text plain);
    }))
    (λ _ r. cc)
leaf-sound n (var text ∷ ts) t rest e = cc
leaf-sound n (number v ∷ ts) t rest e =
    let f = (exact-seen Number exact-numeral).sound (number v ∷ ts) t rest e in
    let w = f.formed.value in
    record {
      front = number w ∷ [];
      is = f.is ∙ ap (λ (us : List Tok). us ++ rest) f.formed.formed.formed;
      formed = subst (λ (u : Scalar). IsLeaf n u (number w ∷ [])) (sym f.formed.is) (rule.number n w f.formed.formed.passes);
    }
leaf-sound n (symbol y ∷ ts) t rest e = cc

named-field : (f : List ℕ) (rest : List Tok) → is_plain f ≡ true → parse.begins_with s.Dot rest ≡ false → field_after f rest ≡ Some (Field f, rest)
unfolding field_after
named-field f rest plain dot = rw (plain, dot) refl

named-item : (a f : List ℕ) (rest : List Tok) → is_plain a ≡ true → is_plain f ≡ true
    → field_after a (symbol s.Dot ∷ name f ∷ rest) ≡ Some (ItemField a f, rest)
unfolding field_after
named-item a f rest pa pf = rw (pa, exact-plain.complete f (name f ∷ []) rest (record { passes = pf; formed = refl }) tt) refl

leaf-complete : (n : ℕ) (t : Scalar) (ts rest : List Tok) → IsLeaf n t ts → NoDot rest → leaf_in n (ts ++ rest) ≡ Some (t, rest)
leaf-complete n t ts rest (rule.number m v q) dot = rw (numeral-here v rest q) refl
leaf-complete n t ts rest (rule.field m f h) dot = named-field f rest h dot
leaf-complete n t ts rest (rule.of_item m a f g h) dot = named-item a f rest g h

exact-leaf : (n : ℕ) → Exact (IsLeaf n) (leaf_in n) NoDot
exact-leaf n = record { sound = λ ts v rest e. leaf-sound n ts v rest e; complete = λ v ts rest h e. leaf-complete n v ts rest h e }

shallow : (n : ℕ) (t : Scalar) (ts : List Tok) → IsLeaf n t ts → scalar_depth t ≡ 1
shallow n t ts (rule.number m v q) = refl
shallow n t ts (rule.field m f h) = refl
shallow n t ts (rule.of_item m a f g h) = refl

-- WHAT BEGINS APART

no_open : (n : ℕ) (t : Scalar) (ts rest : List Tok) → IsLeaf n t ts → parse.begins_with s.Open (ts ++ rest) ≡ false
no_open n t ts rest (rule.number m v q) = refl
no_open n t ts rest (rule.field m f h) = refl
no_open n t ts rest (rule.of_item m a f g h) = refl

no_word : (n : ℕ) (t : Scalar) (ts rest : List Tok) → IsLeaf n t ts → levels.first syntax.call (ts ++ rest) ≡ None
no_word n t ts rest (rule.number m v q) = refl
no_word n t ts rest (rule.field m f h) = refl
no_word n t ts rest (rule.of_item m a f g h) = refl

no_sign : (n k : ℕ) (t : Scalar) (ts rest : List Tok) → IsLeaf n t ts → levels.sign_of_level syntax k (ts ++ rest) ≡ None
no_sign n k t ts rest (rule.number m v q) = sign-none k (number v) refl refl
no_sign n k t ts rest (rule.field m f h) = sign-none k (name f) refl (rw (plain-not f h) refl)
no_sign n k t ts rest (rule.of_item m a f g h) = sign-none k (name a) refl (rw (plain-not a g) refl)

no_dot : (o : Operator) (y : Tok) (ts : List Tok) → op_at y ≡ Some o → parse.begins_with s.Dot (y ∷ ts) ≡ false
no_dot o (name text) ts e = refl
no_dot o (var text) ts e = refl
no_dot o (number v) ts e = refl
no_dot o (symbol s.Dot) ts e = absurd (cc e)
no_dot o (symbol z) ts e = other z e where
  other : (z : Symbol) → op_of z ≡ Some o → parse.begins_with s.Dot (symbol z ∷ ts) ≡ false
  other s.Plus f = refl
  other s.Minus f = refl
  other s.Star f = refl
  other s.Slash f = refl
  other s.Percent f = refl
  other s.Assign f = refl
  other s.Different f = refl
  other s.NotEqual f = refl
  other s.Less f = refl
  other s.LessEqual f = refl
  other s.Greater f = refl
  other s.GreaterEqual f = refl
  other z f = absurd (cc f)

-- one operator is of one level
operators_apart : (j k : ℕ) (x : Tok) (o : Operator) → j < k → operator (level_of seven k) x ≡ Some o → operator (level_of seven j) x ≡ None
operators_apart j k x o less is = by (operator (level_of seven j) x) refl where
  here : (op_at x ≡ Some o) × (rank_of o ≡ k)
  here = of_rank-is k (op_at x) o (sym (operator-is k x) ∙ is)

  same_op : (p : Operator) → op_at x ≡ Some p → p ≡ o
  same_op p e = let f = here.0 in cc (e, f)

  by : (r : Option Operator) → operator (level_of seven j) x ≡ r → r ≡ None
  by None e = refl
  by (Some p) e =
      let there = of_rank-is j (op_at x) p (sym (operator-is j x) ∙ e) in
      let one : rank_of p ≡ rank_of o = ap rank_of (same_op p there.0) in
      let low = there.1 in
      let high = here.1 in
      absurd (omega (arith, one, low, high, less))

-- the tokens of a value say by themselves what they are
clear : IsClear syntax IsLeaf leaf_in NoDot
clear = record {
  deep = deepest;
  exact = exact-leaf;
  shallow = shallow;
  no_open = no_open;
  no_call = no_word;
  no_sign = no_sign;
  open_call = refl;
  open_sign = λ k. sign-none k (symbol s.Open) refl refl;
  call_sign = λ k x p e. absurd (cc e);
  signs_apart = signs-apart;
  operators_apart = operators_apart;
  operator_follows = λ k x o rest e. no_dot o x rest (of_rank-is k (op_at x) o (sym (operator-is k x) ∙ e)).0;
  close_operator = λ k. operator-is k (symbol s.Close);
  close_follows = λ rest. refl;
}

-- a value: no operator may follow, and no dot
pub exact-scalar : (n : ℕ) → Exact (IsScalar n) (scalar_at n) (Ends 6)
unfolding scalar_at
exact-scalar n =
    exact-as (exact-less (exact-whole syntax IsLeaf leaf_in NoDot clear n)
    (λ rest (d : Ends 6 rest). ((λ j less. operator_at-is j rest ∙ d.0 j (omega (arith, less))), d.1)))
    (λ v s h. h) (λ v s h. h) (λ ts. refl)
