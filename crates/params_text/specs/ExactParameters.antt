-- The leaves with parameters are read exactly, and begin apart from signs, calls and brackets.
use Rattle.std.proofs.Common.{◌≡◌, ℕ, zero, suc, List, [], ◌∷◌, ◌++◌, Bool, true, false, Option, Some, None, refl, sym, ap, ◌∙◌, subst}
use Rattle.std.specs.Prelude.{codes}
use Rattle.std.specs.Str.{bytes_eq}
use Rattle.std.proofs.lemmas.Slice.Eq.{bytes_eq-Decides}
use Rattle.text_tokens.specs.Tok.{Tok, name, var, number, symbol}
use Rattle.text_tokens.specs.declared.sign.Symbol.TheVariants as s
use Rattle.text_forms.specs.Parse as parse
use Rattle.text_forms.proofs.Exact.{Front}
use Rattle.text_forms.proofs.Pairs.{pair_inj, choose}
use Rattle.streamit_text.specs.ExactLeaves.{IsPopLeaf, exact-pop, not-pop, not-peek, call-sign}
use Rattle.streamit_text.specs.Expressions.{sign_at, call_at, AreLeaves}
use Rattle.streamit_text.specs.Leaves.{pop_at}
use Rattle.params_text.specs.Parameters.{IsLeafWith, place_at, named_with, leaf_with}
use Rattle.params_text.specs.Parameters as rule
use Rattle.params_text.specs.Params.{is_one_of}
use Rattle.streamit_text.specs.Tree.{Expression, Number, Name, Pop, depth_of}
use Rattle.streamit_text.specs.Words.{is_own}

module _ (ps : List (List ℕ)) where
  pop-leaf : (n : ℕ) (t : Expression) (text : List ℕ) (ts : List Tok) → text ≡ codes "pop" → IsPopLeaf n t ts → IsLeafWith ps n t (name text ∷ ts)
  pop-leaf zero t text ts is h = absurd h
  pop-leaf (suc n) t text ts is h =
      let tokens : ts ≡ symbol s.Open ∷ symbol s.Close ∷ [] =
      h.is ∙ ap (λ (l : List Tok). symbol s.Open ∷ l) (h.formed.is ∙ ap (λ (l : List Tok). l ++ symbol s.Close ∷ []) h.formed.formed.1) in
      subst (λ (u : Expression). IsLeafWith ps (suc n) u (name text ∷ ts)) (sym h.formed.formed.0)
      (subst (λ (us : List Tok). IsLeafWith ps (suc n) Pop us)
      (ap (λ (w : List ℕ). name w ∷ symbol s.Open ∷ symbol s.Close ∷ []) (sym is) ∙ ap (λ (us : List Tok). name text ∷ us) (sym tokens)) (rule.pop n))

  one-name : (n : ℕ) (text : List ℕ) (ts : List Tok) (t : Expression) (rest : List Tok) → IsLeafWith ps n (Name text) (name text ∷ [])
      → ◌≡◌ {A = Option (Expression × List Tok)} (Some (Name text, ts)) (Some (t, rest)) → Front (IsLeafWith ps n) t (name text ∷ ts) rest
  one-name n text ts t rest h e =
      let same = pair_inj e in
      record {
        front = name text ∷ [];
        is = ap (λ (us : List Tok). name text ∷ us) same.1;
        formed = subst (λ (u : Expression). IsLeafWith ps n u (name text ∷ [])) same.0 h;
      }

  place-sound : (n : ℕ) (text : List ℕ) (ts : List Tok) (t : Expression) (rest : List Tok) → is_own text ≡ true → place_at ps n text ts ≡ Some (t, rest)
      → Front (IsLeafWith ps n) t (name text ∷ ts) rest
  unfolding place_at
  place-sound zero text ts t rest own e =
      choose (is_one_of ps text) None (Some (Name text, ts)) (t, rest) e (λ b r. cc) (λ b r. one-name zero text ts t rest (rule.name zero text own b) r)
  place-sound (suc n) text ts t rest own e = one-name (suc n) text ts t rest (by (is_one_of ps text) refl) e where
    by : (b : Bool) → is_one_of ps text ≡ b → IsLeafWith ps (suc n) (Name text) (name text ∷ [])
    by true h = rule.parameter n text own h
    by false h = rule.name (suc n) text own h

  leaf-sound : (n : ℕ) (ts : List Tok) (t : Expression) (rest : List Tok) → leaf_with ps n ts ≡ Some (t, rest) → Front (IsLeafWith ps n) t ts rest
  unfolding named_with
  leaf-sound n [] t rest e = cc
  leaf-sound n (name text ∷ ts) t rest e =
      choose (bytes_eq text (codes "pop")) _ _ (t, rest) e
      (λ b r.
      let f = (exact-pop n).sound ts t rest r in
      record {
        front = name text ∷ f.front;
        is = ap (λ (us : List Tok). name text ∷ us) f.is;
        formed = pop-leaf n t text f.front ((bytes_eq-Decides text (codes "pop")).0 b) f.formed;
      })
      (λ _ e1. choose (is_own text) (place_at ps n text ts) None (t, rest) e1 (λ b r. place-sound n text ts t rest b r) (λ _ r. cc))
  leaf-sound n (var text ∷ ts) t rest e = cc
  leaf-sound n (number v ∷ ts) t rest e =
      choose (parse.is_value v) (Some (Number v, ts)) None (t, rest) e
      (λ b r.
      let same = pair_inj r in
      record {
        front = number v ∷ [];
        is = ap (λ (us : List Tok). number v ∷ us) same.1;
        formed = subst (λ (u : Expression). IsLeafWith ps n u (number v ∷ [])) same.0 (rule.number n v b);
      })
      (λ _ r. cc)
  leaf-sound n (symbol y ∷ ts) t rest e = cc

  place-name : (n : ℕ) (text : List ℕ) (rest : List Tok) → is_one_of ps text ≡ false → place_at ps n text rest ≡ Some (Name text, rest)
  unfolding place_at
  place-name zero text rest h = rw h refl
  place-name (suc n) text rest h = refl

  place-parameter : (n : ℕ) (text : List ℕ) (rest : List Tok) → is_one_of ps text ≡ true → place_at ps (suc n) text rest ≡ Some (Name text, rest)
  unfolding place_at
  place-parameter n text rest h = refl

  named-own : (n : ℕ) (text : List ℕ) (rest : List Tok) → is_own text ≡ true → named_with ps n text rest ≡ place_at ps n text rest
  unfolding named_with
  named-own n text rest h = rw (not-pop text h, h) refl

  named-pop : (n : ℕ) (rest : List Tok) → named_with ps (suc n) (codes "pop") (symbol s.Open ∷ symbol s.Close ∷ rest) ≡ Some (Pop, rest)
  unfolding named_with pop_at parse.open_at
  named-pop n rest = refl

  leaf-complete : (n : ℕ) (t : Expression) (ts rest : List Tok) → IsLeafWith ps n t ts → leaf_with ps n (ts ++ rest) ≡ Some (t, rest)
  leaf-complete n t ts rest (rule.number m v h) = rw h refl
  leaf-complete n t ts rest (rule.name m text h p) = named-own m text rest h ∙ place-name m text rest p
  leaf-complete n t ts rest (rule.parameter m text h p) = named-own (suc m) text rest h ∙ place-parameter m text rest p
  leaf-complete n t ts rest (rule.pop m) = named-pop m rest

  shallow : (n : ℕ) (t : Expression) (ts : List Tok) → IsLeafWith ps n t ts → depth_of t ≡ 1
  shallow n t ts (rule.number m v h) = refl
  shallow n t ts (rule.name m text h p) = refl
  shallow n t ts (rule.parameter m text h p) = refl
  shallow n t ts (rule.pop m) = refl

  begins : (n : ℕ) (t : Expression) (ts : List Tok) → IsLeafWith ps n t ts
      → (x : Tok) × (us : List Tok) × (ts ≡ x ∷ us) × ((vs : List Tok) → parse.begins_with s.Open (x ∷ vs) ≡ false) × (sign_at x ≡ None) × (call_at x ≡ None)
  begins n t ts (rule.number m v h) = (number v, [], refl, (λ vs. refl), refl, refl)
  begins n t ts (rule.name m text h p) = (name text, [], refl, (λ vs. refl), refl, rw (not-peek text h) refl)
  begins n t ts (rule.parameter m text h p) = (name text, [], refl, (λ vs. refl), refl, rw (not-peek text h) refl)
  begins n t ts (rule.pop m) = (name (codes "pop"), symbol s.Open ∷ symbol s.Close ∷ [], refl, (λ vs. refl), refl, refl)

  pub apart-with : AreLeaves (IsLeafWith ps) (leaf_with ps)
  apart-with = record {
    exact = λ n. record { sound = λ ts v rest e. leaf-sound n ts v rest e; complete = λ v ts rest h any. leaf-complete n v ts rest h };
    shallow = shallow;
    begins = begins;
    open_call = refl;
    open_sign = refl;
    call_sign = call-sign;
  }
