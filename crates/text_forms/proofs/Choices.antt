-- Choices by words, brackets, and lists that may be empty.
use Rattle.std.proofs.Common.{◌≡◌, ℕ, zero, suc, ◌<◌, ◌-◌, List, [], ◌∷◌, ◌++◌, Bool, true, false, cond, Option, Some, None, refl, ap, ◌∙◌, arith, append_assoc}
use Rattle.river_base.proofs.Tests.{less-one}
use Rattle.text_tokens.specs.Tok.{Tok, name, var, number, symbol}
use Rattle.text_tokens.specs.declared.sign.Symbol.{Symbol}
use Rattle.text_tokens.specs.declared.sign.Symbol.TheVariants.{Comma}
use Rattle.text_forms.specs.Parse as parse
use Rattle.text_forms.specs.Forms as form
use Rattle.text_forms.proofs.Exact.{Exact, Front, Any, exact-as, exact-less, exact-nothing, exact-after, exact-before, exact-merged, then_read-some}
use Rattle.text_forms.proofs.Many.{exact-commas}
use Rattle.text_forms.proofs.Pairs.{pair_inj}

-- nothing is read, as nothing is in the grammar
pub exact-never : {A : Type 0} {E : List Tok → Type 0} → Exact (form.Never {A = A}) parse.nowhere E
exact-never = record { sound = λ ts v rest e. cc; complete = λ v s rest h d. absurd h }

-- one or the other, by a test
pub exact-choose : {A : Type 0} {F G : A → List Tok → Type 0} {p q : parse.Parse A} {E : List Tok → Type 0} (b : Bool) → Exact F p E → Exact G q E
    → Exact (form.Choose b F G) (λ ts. cond b (p ts) (q ts)) E
exact-choose true f g = record { sound = f.sound; complete = f.complete }
exact-choose false f g = record { sound = g.sound; complete = g.complete }

-- a word, and then what this word says
pub exact-headed : {A : Type 0} {F : List ℕ → A → List Tok → Type 0} {p : List ℕ → parse.Parse A} {E : List Tok → Type 0} → ((w : List ℕ) → Exact (F w) (p w) E)
    → Exact (form.Headed F) (parse.headed p) E
exact-headed {A} {F} {p} {E} x = record { sound = sound; complete = complete } where
  sound : (ts : List Tok) (v : A) (rest : List Tok) → parse.headed p ts ≡ Some (v, rest) → Front (form.Headed F) v ts rest
  sound [] v rest e = cc
  sound (name text ∷ ts) v rest e =
      let f = (x text).sound ts v rest e in
      record {
        front = name text ∷ f.front;
        is = ap (λ (l : List Tok). name text ∷ l) f.is;
        formed =
            record { word = text; back = f.front; is = refl; formed = f.formed };
      }
  sound (var text ∷ ts) v rest e = cc
  sound (number value ∷ ts) v rest e = cc
  sound (symbol t ∷ ts) v rest e = cc

  complete : (v : A) (s rest : List Tok) → form.Headed F v s → E rest → parse.headed p (s ++ rest) ≡ Some (v, rest)
  complete v s rest h d = rw h.is ((x h.word).complete v h.back rest h.formed d)

-- seen through a function that not every value has an answer of
pub exact-known : {A B : Type 0} {F : A → List Tok → Type 0} {p : parse.Parse A} {E : List Tok → Type 0} (f : A → Option B) → Exact F p E
    → Exact (form.Known f F) (parse.known f p) E
exact-known {A} {B} {F} {p} {E} f x = record { sound = sound; complete = complete } where
  given-is : (o : Option B) (us : List Tok) (v : B) (rest : List Tok) → parse.answer_at o us ≡ Some (v, rest) → (o ≡ Some v) × (us ≡ rest)
  given-is None us v rest e = cc
  given-is (Some b) us v rest e = let same = pair_inj e in (ap (λ (c : B). Some c) same.0, same.1)

  sound : (ts : List Tok) (v : B) (rest : List Tok) → parse.known f p ts ≡ Some (v, rest) → Front (form.Known f F) v ts rest
  sound ts v rest e =
      let (q, is_q, end) = then_read-some (p ts) _ (v, rest) e in
      let g = given-is (f q.0) q.1 v rest end in
      let y = x.sound ts q.0 q.1 is_q in
      record { front = y.front; is = y.is ∙ ap (λ (l : List Tok). y.front ++ l) g.1; formed = record { value = q.0; is = g.0; formed = y.formed } }

  complete : (v : B) (s rest : List Tok) → form.Known f F v s → E rest → parse.known f p (s ++ rest) ≡ Some (v, rest)
  complete v s rest h d = rw (x.complete h.value s rest h.formed d, h.is) refl

pub open_at-none : (s : Symbol) (ts : List Tok) → parse.open_at s 0 ts ≡ None
unfolding parse.open_at
open_at-none s ts = refl

pub open_at-some : (s : Symbol) (n : ℕ) (ts : List Tok) → 0 < n → parse.open_at s n ts ≡ parse.symbols_at (s ∷ []) ts
unfolding parse.open_at
open_at-some s zero ts h = absurd (omega arith)
open_at-some s (suc n) ts h = refl

pub ruleset opens = (open_at-none, open_at-some)

-- between brackets
pub exact-enclosed : {A : Type 0} {F : ℕ → A → List Tok → Type 0} {p : ℕ → parse.Parse A} {E : List Tok → Type 0} (left right : Symbol)
    → ((n : ℕ) → Exact (F n) (p n) E) → ((rest : List Tok) → E (symbol right ∷ rest)) → (n : ℕ)
    → Exact (form.Enclosed left right F n) (parse.enclosed left right p n) Any
unfolding parse.open_at
exact-enclosed left right x follows zero = record { sound = λ ts v rest e. cc; complete = λ v s rest h d. absurd h }
exact-enclosed {A} {F} {p} {E} left right x follows (suc n) =
    exact-as (exact-after (left ∷ []) (exact-before (right ∷ []) (x n) follows)) (λ v s h. h) (λ v s h. h)
    (λ ts. ap (λ (k : ℕ). parse.then_rest (parse.symbols_at (left ∷ []) ts) (parse.before (p k) (right ∷ []))) (less-one n))

-- with commas between them, or none
pub exact-listing : {A : Type 0} {F : A → List Tok → Type 0} {p : parse.Parse A} {E : List Tok → Type 0} (close : Symbol) → Exact F p E
    → ((rest : List Tok) → E (symbol Comma ∷ rest)) → ((v : A) (s rest : List Tok) → F v s → parse.begins_with close (s ++ rest) ≡ false)
    → Exact (form.Listing F) (parse.listing close p) (λ rest. (parse.begins_with close rest ≡ true) × (E rest × (parse.no_comma rest ≡ true)))
exact-listing {A} {F} {p} {E} close x comma other =
    exact-as (exact-merged (parse.begins_with close) (exact-less (exact-nothing []) (λ rest (d : parse.begins_with close rest ≡ true). tt))
    (exact-commas x comma) left right) (λ v s h. h) (λ v s h. h) (λ ts. refl)
  where
    left : (v : List A) (s rest : List Tok) → form.Nothing [] v s → parse.begins_with close rest ≡ true → parse.begins_with close (s ++ rest) ≡ true
    left v s rest h d = rw h.1 d

    right : (v : List A) (s rest : List Tok) → form.Commas F v s → E rest × (parse.no_comma rest ≡ true) → parse.begins_with close (s ++ rest) ≡ false
    right v s rest h d =
        rw (h.formed.is, append_assoc h.formed.front h.formed.back rest) (other h.value.0 h.formed.front (h.formed.back ++ rest) h.formed.first)
