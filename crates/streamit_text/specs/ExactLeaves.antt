-- StreamIt's own leaves are read exactly, and begin apart from signs, calls and brackets.
use Rattle.std.proofs.Common.{◌≡◌, ℕ, zero, suc, List, [], ◌∷◌, ◌++◌, Bool, true, false, Some, None, refl, sym, ap, ◌∙◌, subst}
use Rattle.std.specs.Prelude.{codes}
use Rattle.std.specs.Str.{bytes_eq}
use Rattle.std.proofs.lemmas.Slice.Eq.{bytes_eq-Decides}
use Rattle.text_tokens.specs.Tok.{Tok, name, var, number, symbol}
use Rattle.text_tokens.specs.declared.sign.Symbol.TheVariants as s
use Rattle.text_forms.specs.Parse as parse
use Rattle.text_forms.specs.Forms as form
use Rattle.text_forms.proofs.Exact.{Exact, Front, Any, exact-nothing}
use Rattle.text_forms.proofs.Choices.{exact-enclosed}
use Rattle.text_forms.proofs.Pairs.{pair_inj, choose}
use Rattle.streamit_text.specs.Expressions.{sign_at, call_at, AreLeaves}
use Rattle.streamit_text.specs.Leaves.{IsLeaf, pop_at, named_leaf, leaf_at}
use Rattle.streamit_text.specs.Leaves as rule
use Rattle.streamit_text.specs.Tree.{Expression, Number, Name, Pop, depth_of}
use Rattle.streamit_text.specs.declared.term.Sign.{Sign}
use Rattle.streamit_text.specs.Words.{is_plain, is_own}

abbrev pub IsPopLeaf : ℕ → Expression → List Tok → Type 0
IsPopLeaf n = form.Enclosed s.Open s.Close (λ m. form.Nothing Pop) n

pub exact-pop : (n : ℕ) → Exact (IsPopLeaf n) (pop_at n) Any
unfolding pop_at
exact-pop n = exact-enclosed s.Open s.Close (λ m. exact-nothing Pop) (λ rest. tt) n

pop-leaf : (n : ℕ) (t : Expression) (text : List ℕ) (ts : List Tok) → text ≡ codes "pop" → IsPopLeaf n t ts → IsLeaf n t (name text ∷ ts)
pop-leaf zero t text ts is h = absurd h
pop-leaf (suc n) t text ts is h =
    let tokens : ts ≡ symbol s.Open ∷ symbol s.Close ∷ [] =
    h.is ∙ ap (λ (l : List Tok). symbol s.Open ∷ l) (h.formed.is ∙ ap (λ (l : List Tok). l ++ symbol s.Close ∷ []) h.formed.formed.1) in
    subst (λ (u : Expression). IsLeaf (suc n) u (name text ∷ ts)) (sym h.formed.formed.0)
    (subst (λ (us : List Tok). IsLeaf (suc n) Pop us)
    (ap (λ (w : List ℕ). name w ∷ symbol s.Open ∷ symbol s.Close ∷ []) (sym is) ∙ ap (λ (us : List Tok). name text ∷ us) (sym tokens)) (rule.pop n))

leaf-sound : (n : ℕ) (ts : List Tok) (t : Expression) (rest : List Tok) → leaf_at n ts ≡ Some (t, rest) → Front (IsLeaf n) t ts rest
unfolding named_leaf
leaf-sound n [] t rest e = cc
leaf-sound n (name text ∷ ts) t rest e =
    choose (bytes_eq text (codes "pop")) _ _ (t, rest) e
    (λ b r.
    let f = (exact-pop n).sound ts t rest r in
    record {
      front = name text ∷ f.front;
      is = ap (λ (us : List Tok). name text ∷ us) f.is;
      formed = pop-leaf n t text f.front ((bytes_eq-Decides text (codes "pop")).0 b) f.formed;
    })
    (λ _ e1. choose (is_own text) (Some (Name text, ts)) None (t, rest) e1
    (λ b r.
    let same = pair_inj r in
    record {
      front = name text ∷ [];
      is = ap (λ (us : List Tok). name text ∷ us) same.1;
      formed = subst (λ (u : Expression). IsLeaf n u (name text ∷ [])) same.0 (rule.name n text b);
    })
    (λ _ r. cc))
leaf-sound n (var text ∷ ts) t rest e = cc
leaf-sound n (number v ∷ ts) t rest e =
    choose (parse.is_value v) (Some (Number v, ts)) None (t, rest) e
    (λ b r.
    let same = pair_inj r in
    record {
      front = number v ∷ [];
      is = ap (λ (us : List Tok). number v ∷ us) same.1;
      formed = subst (λ (u : Expression). IsLeaf n u (number v ∷ [])) same.0 (rule.number n v b);
    })
    (λ _ r. cc)
leaf-sound n (symbol y ∷ ts) t rest e = cc

-- what users may give is no keyword
no-word : (word : List ℕ) → (is_own word ≡ true → ⊥) → (text : List ℕ) → is_own text ≡ true → bytes_eq text word ≡ false
no-word word never text h = by (bytes_eq text word) refl where
  by : (b : Bool) → bytes_eq text word ≡ b → b ≡ false
  by false e = refl
  by true e = absurd (never (sym (ap is_own ((bytes_eq-Decides text word).0 e)) ∙ h))

pub not-pop : (text : List ℕ) → is_own text ≡ true → bytes_eq text (codes "pop") ≡ false
unfolding is_plain
not-pop = no-word (codes "pop") (λ f. cc)

pub not-peek : (text : List ℕ) → is_own text ≡ true → bytes_eq text (codes "peek") ≡ false
unfolding is_plain
not-peek = no-word (codes "peek") (λ f. cc)

named-name : (n : ℕ) (text : List ℕ) (rest : List Tok) → is_own text ≡ true → named_leaf n text rest ≡ Some (Name text, rest)
unfolding named_leaf
named-name n text rest h = rw (not-pop text h, h) refl

named-pop : (n : ℕ) (rest : List Tok) → named_leaf (suc n) (codes "pop") (symbol s.Open ∷ symbol s.Close ∷ rest) ≡ Some (Pop, rest)
unfolding named_leaf pop_at parse.open_at
named-pop n rest = refl

leaf-complete : (n : ℕ) (t : Expression) (ts rest : List Tok) → IsLeaf n t ts → leaf_at n (ts ++ rest) ≡ Some (t, rest)
leaf-complete n t ts rest (rule.number m v h) = rw h refl
leaf-complete n t ts rest (rule.name m text h) = named-name m text rest h
leaf-complete n t ts rest (rule.pop m) = named-pop m rest

shallow : (n : ℕ) (t : Expression) (ts : List Tok) → IsLeaf n t ts → depth_of t ≡ 1
shallow n t ts (rule.number m v h) = refl
shallow n t ts (rule.name m text h) = refl
shallow n t ts (rule.pop m) = refl

begins : (n : ℕ) (t : Expression) (ts : List Tok) → IsLeaf n t ts
    → (x : Tok) × (us : List Tok) × (ts ≡ x ∷ us) × ((vs : List Tok) → parse.begins_with s.Open (x ∷ vs) ≡ false) × (sign_at x ≡ None) × (call_at x ≡ None)
begins n t ts (rule.number m v h) = (number v, [], refl, (λ vs. refl), refl, refl)
begins n t ts (rule.name m text h) = (name text, [], refl, (λ vs. refl), refl, rw (not-peek text h) refl)
begins n t ts (rule.pop m) = (name (codes "pop"), symbol s.Open ∷ symbol s.Close ∷ [], refl, (λ vs. refl), refl, refl)

pub call-sign : (x : Tok) (p : Sign) → call_at x ≡ Some p → sign_at x ≡ None
call-sign (name text) p e = refl
call-sign (var text) p e = refl
call-sign (number v) p e = refl
call-sign (symbol y) p e = cc

-- what the language shows of its leaves
pub apart : AreLeaves IsLeaf leaf_at
apart = record {
  exact = λ n. record { sound = λ ts v rest e. leaf-sound n ts v rest e; complete = λ v ts rest h any. leaf-complete n v ts rest h };
  shallow = shallow;
  begins = begins;
  open_call = refl;
  open_sign = refl;
  call_sign = call-sign;
}
