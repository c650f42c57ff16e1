-- Loops of a reader: how many turns are enough, what each turn comes to, and what it keeps.
use Rattle.std.proofs.Common.{◌≡◌, ℕ, zero, suc, ◌<◌, List, length, Some, None, refl, ap, ◌∙◌, subst, arith}
use Rattle.std.proofs.lemmas.Option.{same_Some}
use Rattle.text_tokens.specs.Tok.{Tok}
use Rattle.text_forms.specs.Repeat.{ReadTurn, Stop, Fail, Next, after_turn, turns, repeated}

-- each turn takes a token
abbrev pub Shortens : {A : Type 0} → (A → List Tok → ReadTurn A) → Type 0
Shortens {A} step = (x : A) (ts : List Tok) (y : A) (us : List Tok) → step x ts ≡ Next y us → length us < length ts

-- more turns than tokens are enough
enough : {A : Type 0} (step : A → List Tok → ReadTurn A) → Shortens step → (n m : ℕ) (x : A) (ts : List Tok) → length ts < n → length ts < m
    → turns step n x ts ≡ turns step m x ts
unfolding turns
enough step short zero m x ts a b = absurd (omega arith)
enough step short (suc n) zero x ts a b = absurd (omega arith)
enough {A} step short (suc n) (suc m) x ts a b = by (λ y us c d. enough step short n m y us c d) (step x ts) refl where
  by : ((y : A) (us : List Tok) → length us < n → length us < m → turns step n y us ≡ turns step m y us) → (turn : ReadTurn A) → step x ts ≡ turn
      → after_turn (turns step n) x ts turn ≡ after_turn (turns step m) x ts turn
  by more Stop is = refl
  by more Fail is = refl
  by more (Next y us) is =
      let less : length us < length ts = short x ts y us is in
      more y us (omega arith) (omega arith)

-- a loop goes on behind a turn that gives a value
pub repeated-next : {A : Type 0} (step : A → List Tok → ReadTurn A) → Shortens step → (x : A) (ts : List Tok) (y : A) (us : List Tok) → step x ts ≡ Next y us
    → repeated step x ts ≡ repeated step y us
unfolding repeated turns
repeated-next step short x ts y us is =
    let less : length us < length ts = short x ts y us is in
    ap (after_turn (turns step (length ts)) x ts) is ∙ enough step short (length ts) (suc (length us)) y us less (omega arith)

-- a loop ends where its turn ends it
pub repeated-stop : {A : Type 0} (step : A → List Tok → ReadTurn A) (x : A) (ts : List Tok) → step x ts ≡ Stop → repeated step x ts ≡ Some (x, ts)
unfolding repeated turns
repeated-stop step x ts is = ap (after_turn (turns step (length ts)) x ts) is

-- a loop reads nothing where its turn reads nothing
pub repeated-fail : {A : Type 0} (step : A → List Tok → ReadTurn A) (x : A) (ts : List Tok) → step x ts ≡ Fail → repeated step x ts ≡ None
unfolding repeated turns
repeated-fail step x ts is = ap (after_turn (turns step (length ts)) x ts) is

-- what holds at the start and is kept by each turn holds at the end, where the loop stops
module _ {A : Type 0} (step : A → List Tok → ReadTurn A) (P : A → List Tok → Type 0)
    (keeps : (x : A) (ts : List Tok) (y : A) (us : List Tok) → P x ts → step x ts ≡ Next y us → P y us) where
  -- of so many turns
  pub turns-keep : (n : ℕ) (x : A) (ts : List Tok) (y : A) (us : List Tok) → P x ts → turns step n x ts ≡ Some (y, us) → P y us × (step y us ≡ Stop)
  unfolding turns
  turns-keep zero x ts y us p e = cc
  turns-keep (suc n) x ts y us p e = by (λ z vs q f. turns-keep n z vs y us q f) (step x ts) refl e where
    by : ((z : A) (vs : List Tok) → P z vs → turns step n z vs ≡ Some (y, us) → P y us × (step y us ≡ Stop)) → (turn : ReadTurn A) → step x ts ≡ turn
        → after_turn (turns step n) x ts turn ≡ Some (y, us) → P y us × (step y us ≡ Stop)
    by more Stop is at_end = subst (λ (r : A × List Tok). P r.0 r.1 × (step r.0 r.1 ≡ Stop)) (same_Some _ _ at_end) (p, is)
    by more Fail is at_end = cc
    by more (Next z vs) is at_end = more z vs (keeps x ts z vs p is) at_end

  -- of as many turns as the tokens allow
  pub repeated-keeps : (x : A) (ts : List Tok) (y : A) (us : List Tok) → P x ts → repeated step x ts ≡ Some (y, us) → P y us × (step y us ≡ Stop)
  unfolding repeated
  repeated-keeps x ts y us p e = turns-keep (suc (length ts)) x ts y us p e
