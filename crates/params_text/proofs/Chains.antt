-- The reading of a part that depends on the one before it is exact, where both are.
use Rattle.std.proofs.Common.{◌≡◌, List, ◌++◌, Some, refl, sym, ap, ◌∙◌, subst, append_assoc}
use Rattle.text_tokens.specs.Tok.{Tok}
use Rattle.text_forms.specs.Parse.{Parse}
use Rattle.text_forms.proofs.Exact.{Exact, Front, then_read-some}
use Rattle.text_forms.proofs.Pairs.{pair_inj}
use Rattle.params_text.specs.Chained.{Chained, chained}

module _ {A B : Type 0} {F : A → List Tok → Type 0} {G : A → B → List Tok → Type 0} {p : Parse A} {q : A → Parse B} {E D : List Tok → Type 0} where
  -- a part that is read exactly, and one behind it that is read by what it says, are read exactly together
  pub exact-chained : Exact F p E → ((a : A) → Exact (G a) (q a) D) → ((a : A) (y : B) (s rest : List Tok) → G a y s → D rest → E (s ++ rest))
      → Exact (Chained F G) (chained p q) D
  exact-chained f g follows = record { sound = sound; complete = complete } where
    sound : (ts : List Tok) (v : A × B) (rest : List Tok) → chained p q ts ≡ Some (v, rest) → Front (Chained F G) v ts rest
    sound ts v rest e =
        let (a, is_a, more) = then_read-some (p ts) _ (v, rest) e in
        let (b, is_b, end) = then_read-some (q a.0 a.1) _ (v, rest) more in
        let same = pair_inj end in
        let x = f.sound ts a.0 a.1 is_a in
        let y = (g a.0).sound a.1 b.0 b.1 is_b in
        record {
          front = x.front ++ y.front;
          is = x.is ∙ ap (λ (l : List Tok). x.front ++ l) (y.is ∙ ap (λ (l : List Tok). y.front ++ l) same.1) ∙ sym (append_assoc x.front y.front rest);
          formed = subst (λ (w : A × B). Chained F G w (x.front ++ y.front)) same.0
              (record { front = x.front; back = y.front; is = refl; first = x.formed; second = y.formed });
        }

    complete : (v : A × B) (s rest : List Tok) → Chained F G v s → D rest → chained p q (s ++ rest) ≡ Some (v, rest)
    complete v s rest h d =
        let split : s ++ rest ≡ h.front ++ (h.back ++ rest) = ap (λ (l : List Tok). l ++ rest) h.is ∙ append_assoc h.front h.back rest in
        rw (split, f.complete v.0 h.front (h.back ++ rest) h.first (follows v.0 v.1 h.back rest h.second d), (g v.0).complete v.1 h.back rest h.second d) refl
