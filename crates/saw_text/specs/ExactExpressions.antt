-- The reading of expressions is exact.
use Rattle.std.proofs.Common.{◌≡◌, ℕ, zero, suc, List, [], ◌∷◌, ◌++◌, Bool, true, false, Some, None, refl, sym, ap, ◌∙◌, subst}
use Rattle.std.specs.Prelude.{codes}
use Rattle.std.specs.Str.{bytes_eq}
use Rattle.std.proofs.lemmas.Slice.Eq.{bytes_eq-Decides}
use Rattle.text_tokens.specs.Tok.{Tok, name, var, number, symbol}
use Rattle.text_tokens.specs.declared.sign.Symbol.TheVariants as s
use Rattle.text_forms.specs.Parse as parse
use Rattle.text_forms.specs.Forms as form
use Rattle.text_forms.proofs.Exact.{Exact, Front, Any, exact-seen}
use Rattle.text_forms.proofs.Pairs.{pair_inj, choose}
use Rattle.text_blocks.specs.Parts.{Square, square_at}
use Rattle.text_blocks.specs.Seven.{sign_at, Ends}
use Rattle.text_blocks.proofs.Clear.{AreApart}
use Rattle.text_blocks.proofs.Clear as seven
use Rattle.text_blocks.proofs.Parts.{exact-place, place-tokens}
use Rattle.saw_text.specs.Expressions.{marks, deepest, IsLeaf, IsExpression, named, leaf_at, term_at}
use Rattle.saw_text.specs.Expressions as rule
use Rattle.saw_text.specs.Tree.{Expression, Number, Name, Input, depth_of}
use Rattle.saw_text.specs.Words.{is_plain, is_user}

input-leaf : (n k : ℕ) (text : List ℕ) (ts : List Tok) → text ≡ codes "input" → Square (λ m. form.Tested parse.is_count form.Number) n k ts
    → IsLeaf n (Input k) (name text ∷ ts)
input-leaf zero k text ts is h = absurd h
input-leaf (suc n) k text ts is h =
    let p = place-tokens n k ts h in
    let tokens : name (codes "input") ∷ symbol s.OpenBracket ∷ number k ∷ symbol s.CloseBracket ∷ [] ≡ name text ∷ ts =
    ap (λ (w : List ℕ). name w ∷ symbol s.OpenBracket ∷ number k ∷ symbol s.CloseBracket ∷ []) (sym is) ∙ ap (λ (us : List Tok). name text ∷ us) (sym p.0) in
    subst (λ (us : List Tok). IsLeaf (suc n) (Input k) us) tokens (rule.input n k p.1)

leaf-sound : (n : ℕ) (ts : List Tok) (t : Expression) (rest : List Tok) → leaf_at n ts ≡ Some (t, rest) → Front (IsLeaf n) t ts rest
unfolding named
leaf-sound n [] t rest e = cc
leaf-sound n (name text ∷ ts) t rest e =
    choose (bytes_eq text (codes "input")) _ _ (t, rest) e
    (λ b r.
    let f = (exact-seen Input (exact-place n)).sound ts t rest r in
    record {
      front = name text ∷ f.front;
      is = ap (λ (us : List Tok). name text ∷ us) f.is;
      formed = subst (λ (u : Expression). IsLeaf n u (name text ∷ f.front)) (sym f.formed.is) (input-leaf n f.formed.value text f.front
          ((bytes_eq-Decides text (codes "input")).0 b) f.formed.formed);
    })
    (λ _ e1. choose (is_user text) (Some (Name text, ts)) None (t, rest) e1
    (λ b r.
    let same = pair_inj r in
    record {
      front = name text ∷ [];
      is = ap (λ (us : List Tok). name text ∷ us) same.1;
      formed = subst (λ (u : Expression). IsLeaf n u (name text ∷ [])) same.0 (rule.name n text b);
    })
    (λ _ r. cc))
leaf-sound n (var text ∷ ts) t rest e = cc
leaf-sound n (number v ∷ ts) t rest e =
    choose (parse.is_value v) (Some (Number v, ts)) None (t, rest) e
    (λ b r.
    let same = pair_inj r in
    record {
      front = number v ∷ [];
      is = ap (λ (us : List Tok). number v ∷ us) same.1;
      formed = subst (λ (u : Expression). IsLeaf n u (number v ∷ [])) same.0 (rule.number n v b);
    })
    (λ _ r. cc)
leaf-sound n (symbol y ∷ ts) t rest e = cc

-- what users may give is no keyword
not-input : (text : List ℕ) → is_user text ≡ true → bytes_eq text (codes "input") ≡ false
unfolding is_plain
not-input text h = by (bytes_eq text (codes "input")) refl where
  never : is_user (codes "input") ≡ true → ⊥
  never f = cc

  by : (b : Bool) → bytes_eq text (codes "input") ≡ b → b ≡ false
  by false e = refl
  by true e = absurd (never (sym (ap is_user ((bytes_eq-Decides text (codes "input")).0 e)) ∙ h))

named-name : (n : ℕ) (text : List ℕ) (rest : List Tok) → is_user text ≡ true → named n text rest ≡ Some (Name text, rest)
unfolding named
named-name n text rest h = rw (not-input text h, h) refl

named-input : (n k : ℕ) (rest : List Tok) → parse.is_count k ≡ true
    → named (suc n) (codes "input") (symbol s.OpenBracket ∷ number k ∷ symbol s.CloseBracket ∷ rest) ≡ Some (Input k, rest)
unfolding named square_at parse.open_at
named-input n k rest h = rw h refl

leaf-complete : (n : ℕ) (t : Expression) (ts rest : List Tok) → IsLeaf n t ts → leaf_at n (ts ++ rest) ≡ Some (t, rest)
leaf-complete n t ts rest (rule.number m v h) = rw h refl
leaf-complete n t ts rest (rule.name m text h) = named-name m text rest h
leaf-complete n t ts rest (rule.input m v h) = named-input m v rest h

exact-leaf : (n : ℕ) → Exact (IsLeaf n) (leaf_at n) Any
exact-leaf n = record { sound = λ ts v rest e. leaf-sound n ts v rest e; complete = λ v ts rest h any. leaf-complete n v ts rest h }

shallow : (n : ℕ) (t : Expression) (ts : List Tok) → IsLeaf n t ts → depth_of t ≡ 1
shallow n t ts (rule.number m v h) = refl
shallow n t ts (rule.name m text h) = refl
shallow n t ts (rule.input m v h) = refl

begins : (n : ℕ) (t : Expression) (ts : List Tok) → IsLeaf n t ts
    → (x : Tok) × (us : List Tok) × (ts ≡ x ∷ us) × ((vs : List Tok) → parse.begins_with s.Open (x ∷ vs) ≡ false) × (sign_at x ≡ None) × (marks.call x ≡ None)
begins n t ts (rule.number m v h) = (number v, [], refl, (λ vs. refl), refl, refl)
begins n t ts (rule.name m text h) = (name text, [], refl, (λ vs. refl), refl, refl)
begins n t ts (rule.input m v h) =
    (name (codes "input"), symbol s.OpenBracket ∷ number v ∷ symbol s.CloseBracket ∷ [], refl, (λ vs. refl), refl, refl)

apart : AreApart marks IsLeaf leaf_at
apart = record {
  exact = exact-leaf;
  shallow = shallow;
  begins = begins;
  open_call = refl;
  open_sign = refl;
  call_sign = λ x p e. absurd (cc e);
}

-- an expression: no operator may follow
pub exact-term : (n : ℕ) → Exact (IsExpression n) (term_at n) (Ends 6)
exact-term = seven.exact-term marks deepest apart
