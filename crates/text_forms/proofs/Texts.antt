-- The units of a text, read one after another, where each unit's reading is exact up to its end.
use Rattle.std.proofs.Common.{◌≡◌, ℕ, ◌+◌, List, [], ◌∷◌, ◌++◌, length, Option, Some, None, Result, Ok, Err, refl, sym, ap, ◌∙◌, subst, arith, append-nil}
use Rattle.std.proofs.lemmas.Option.{same_Some, none-some}
use Rattle.text_tokens.specs.Tok.{Tok}
use Rattle.text_forms.specs.Parse.{Parse, nothing_at}
use Rattle.text_forms.specs.Texts.{at_end, ended, whole, put_first, after_unit, read_units, AllFormed, IsFirstBad, state_after}
use Rattle.text_forms.proofs.Exact.{Exact}

-- a whole unit; `E` says what may follow a unit, and the end may
module _ {A : Type 0} {F : A → List Tok → Type 0} {p : Parse A} {E : List Tok → Type 0} (end : E []) (x : Exact F p E) where
  ended-some : (r : Option (A × List Tok)) (v : A) → ended r ≡ Some v → r ≡ Some (v, [])
  ended-some None v e = cc
  ended-some (Some q) v e = last q.0 q.1 e where
    last : (w : A) (rest : List Tok) → at_end w rest ≡ Some v → nothing_at w rest ≡ Some (v, [])
    last w [] f = ap (λ (y : A). Some (y, [])) (same_Some _ _ f)
    last w (t ∷ ts) f = cc

  -- what is read of whole tokens is in the grammar
  pub whole-sound : (u : List Tok) (v : A) → whole p u ≡ Some v → F v u
  whole-sound u v e =
      let f = x.sound u v [] (ended-some (p u) v e) in
      subst (λ (l : List Tok). F v l) (sym (f.is ∙ append-nil f.front)) f.formed

  -- what is in the grammar is read of whole tokens
  pub whole-complete : (u : List Tok) (v : A) → F v u → whole p u ≡ Some v
  whole-complete u v h =
      let all : p u ≡ Some (v, []) = subst (λ (l : List Tok). p l ≡ Some (v, [])) (append-nil u) (x.complete v u [] h end) in
      ap ended all

  -- what stands for one value stands for no other
  pub one-value : (u : List Tok) (v w : A) → F v u → F w u → v ≡ w
  one-value u v w f g = same_Some _ _ (sym (whole-complete u v f) ∙ whole-complete u w g)

module _ {S A : Type 0} {F : S → A → List Tok → Type 0} {p : S → Parse A} {E : List Tok → Type 0} (end : E []) (next : S → A → S)
    (x : (s : S) → Exact (F s) (p s) E) where
  -- how a reading of units goes on
  first_ok : (v : A) (r : Result (List A) ℕ) (vs : List A) → put_first v r ≡ Ok vs → (ws : List A) × (r ≡ Ok ws) × (vs ≡ v ∷ ws)
  first_ok v (Ok ws) vs e = (ws, refl, same e) where
    same : put_first v (Ok ws) ≡ Ok vs → vs ≡ v ∷ ws
    same f = cc
  first_ok v (Err n) vs e = cc

  unit_ok : (n : ℕ) (more : A → Result (List A) ℕ) (o : Option A) (vs : List A) → after_unit n more o ≡ Ok vs
      → (v : A) × (o ≡ Some v) × (ws : List A) × (more v ≡ Ok ws) × (vs ≡ v ∷ ws)
  unit_ok n more None vs e = cc
  unit_ok n more (Some v) vs e = let f = first_ok v (more v) vs e in (v, refl, f.0, f.1, f.2)

  -- what was read is in the grammar
  pub all-formed : (s : S) (n : ℕ) (us : List (List Tok)) (vs : List A) → read_units p next s n us ≡ Ok vs → AllFormed F next s vs us
  all-formed s n [] [] e = tt
  all-formed s n [] (v ∷ vs) e = cc
  all-formed s n (u ∷ us) vs e =
      let f = unit_ok n (λ v. read_units p next (next s v) (n + 1) us) (whole (p s) u) vs e in
      subst (λ (ws : List A). AllFormed F next s ws (u ∷ us)) (sym f.4) (whole-sound end (x s) u f.0 f.1, all-formed (next s f.0) (n + 1) us f.2 f.3)

  -- what is in the grammar is read
  pub formed-read : (s : S) (n : ℕ) (us : List (List Tok)) (vs : List A) → AllFormed F next s vs us → read_units p next s n us ≡ Ok vs
  formed-read s n [] [] h = refl
  formed-read s n [] (v ∷ vs) h = absurd h
  formed-read s n (u ∷ us) [] h = absurd h
  formed-read s n (u ∷ us) (v ∷ vs) h =
      rw (whole-complete end (x s) u v h.0, formed-read (next s v) (n + 1) us vs h.1) refl

  -- units in the grammar stand for one list of values
  pub one-text : (s : S) (us : List (List Tok)) (vs ws : List A) → AllFormed F next s vs us → AllFormed F next s ws us → vs ≡ ws
  one-text s us vs ws f g = same (sym (formed-read s 1 us vs f) ∙ formed-read s 1 us ws g) where
    same : ◌≡◌ {A = Result (List A) ℕ} (Ok vs) (Ok ws) → vs ≡ ws
    same e = cc

  first_err : (v : A) (r : Result (List A) ℕ) (m : ℕ) → put_first v r ≡ Err m → r ≡ Err m
  first_err v (Ok ws) m e = cc
  first_err v (Err n) m e = e

  -- the unit that is told is the first that is not in the grammar
  bad_from : (s : S) (n : ℕ) (us : List (List Tok)) (m : ℕ) → read_units p next s n us ≡ Err m → (k : ℕ) × IsFirstBad F next s us k × (m + 1 ≡ n + k)
  bad_from s n [] m e = cc
  bad_from s n (u ∷ us) m e = by (whole (p s) u) refl e (λ v f. bad_from (next s v) (n + 1) us m f) where
    same : ◌≡◌ {A = Result (List A) ℕ} (Err n) (Err m) → n ≡ m
    same f = cc

    by : (o : Option A) → whole (p s) u ≡ o → after_unit n (λ v. read_units p next (next s v) (n + 1) us) o ≡ Err m
        → ((v : A) → read_units p next (next s v) (n + 1) us ≡ Err m → (k : ℕ) × IsFirstBad F next (next s v) us k × (m + 1 ≡ n + 1 + k))
        → (k : ℕ) × IsFirstBad F next s (u ∷ us) k × (m + 1 ≡ n + k)
    by None none f more = (
      1,
      record {
        before = [];
        bad = u;
        behind = us;
        values = [];
        is = refl;
        formed = tt;
        not_formed = λ v h. none-some _ (sym none ∙ whole-complete end (x s) u v h);
        number = refl;
      },
      ap (λ (k : ℕ). k + 1) (sym (same f)),
    )
    by (Some v) some f more =
        let (k, bad, count) = more v (first_err v (read_units p next (next s v) (n + 1) us) m f) in (
          k + 1,
          record {
            before = u ∷ bad.before;
            bad = bad.bad;
            behind = bad.behind;
            values = v ∷ bad.values;
            is = ap (λ (l : List (List Tok)). u ∷ l) bad.is;
            formed = (whole-sound end (x s) u v some, bad.formed);
            not_formed = bad.not_formed;
            number = omega (arith, bad.number);
          },
          omega (arith, count),
        )

  -- the unit that is told is the first that is none
  pub first-bad : (s : S) (us : List (List Tok)) (m : ℕ) → read_units p next s 1 us ≡ Err m → IsFirstBad F next s us m
  first-bad s us m e =
      let (k, bad, count) = bad_from s 1 us m e in
      subst (λ (j : ℕ). IsFirstBad F next s us j) (omega (arith, count)) bad

  -- a unit that stands for nothing is not read
  nothing-read : (s : S) (u : List Tok) → ((v : A) → F s v u → ⊥) → (o : Option A) → whole (p s) u ≡ o → o ≡ None
  nothing-read s u not None e = refl
  nothing-read s u not (Some v) e = absurd (not v (whole-sound end (x s) u v e))

  bad-from : (s : S) (n : ℕ) (before : List (List Tok)) (bad : List Tok) (behind : List (List Tok)) (vs : List A)
      → AllFormed F next s vs before → ((v : A) → F (state_after next s vs) v bad → ⊥)
      → read_units p next s n (before ++ (bad ∷ behind)) ≡ Err (n + length before)
  bad-from s n [] bad behind [] h not =
      let e = nothing-read s bad not (whole (p s) bad) refl in
      let z : n + 0 ≡ n = omega arith in
      rw (e, z) refl
  bad-from s n [] bad behind (v ∷ vs) h not = absurd h
  bad-from s n (b ∷ bs) bad behind [] h not = absurd h
  bad-from s n (b ∷ bs) bad behind (v ∷ vs) h not =
      let e = whole-complete end (x s) b v h.0 in
      let i = bad-from (next s v) (n + 1) bs bad behind vs h.1 not in
      let z : n + 1 + length bs ≡ n + length (b ∷ bs) = omega arith in
      rw (e, i, z) refl

  -- the first unit that is not in the grammar is told
  pub bad-read : (s : S) (us : List (List Tok)) (m : ℕ) → IsFirstBad F next s us m → read_units p next s 1 us ≡ Err m
  bad-read s us m b =
      let told : read_units p next s 1 us ≡ Err (1 + length b.before) =
      subst (λ (l : List (List Tok)). read_units p next s 1 l ≡ Err (1 + length b.before)) (sym b.is)
      (bad-from s 1 b.before b.bad b.behind b.values b.formed b.not_formed) in
      let same : 1 + length b.before ≡ m = omega (arith, b.number) in
      told ∙ ap (λ (k : ℕ). Err k) same
