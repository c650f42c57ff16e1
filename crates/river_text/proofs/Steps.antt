-- The steps by which code reads lists.
use Rattle.std.proofs.Common.{◌≡◌, ℕ, ◌≤◌, ◌+◌, ℤ, List, [], ◌∷◌, ◌++◌, length, true, Option, None, Some, refl, sym, ap, ◌∙◌, arith, length-append}
use Rattle.text_tokens.specs.Tok.{Tok}
use Rattle.text_tokens.specs.declared.sign.Symbol.TheVariants as s
use Rattle.text_forms.specs.Parse as parse
use Rattle.text_forms.specs.Repeat.{repeated}
use Rattle.text_forms.specs.Tail.{tail}
use Rattle.text_forms.proofs.Exact.{Exact}
use Rattle.text_forms.proofs.Pairs.{pair_inj}
use Rattle.text_forms.proofs.Many.{comma-next, comma-stop, comma-bad}
use Rattle.text_forms.proofs.Symbols.{taken-shorter}
use Rattle.river_text.specs.declared.number.Kind.{Kind}
use Rattle.river_text.specs.declared.number.Kind.TheVariants as kind
use Rattle.river_text.specs.ExactExpressions.{exact-term}
use Rattle.river_text.specs.Expressions.{term_at}
use Rattle.river_text.specs.ReadKernels.{kind_number_at}
use Rattle.river_text.proofs.Kernels.{exact-width, exact-signed}
use Rattle.work_code.specs.Term.{Term}
use Rattle.text_forms.proofs.Exact.{exact-value}

-- what is read leaves no more tokens
pub shorter : {A : Type 0} {F : A → List Tok → Type 0} {p : parse.Parse A} {E : List Tok → Type 0} → Exact F p E → (ts us : List Tok) (v : A)
    → p ts ≡ Some (v, us) → length us ≤ length ts
shorter x ts us v e =
    let f = x.sound ts v us e in
    let size : length ts ≡ length f.front + length us = ap length f.is ∙ length-append f.front us in
    omega arith

pub numbers-next : (k : Kind) (done : List ℤ) (ts us : List Tok) (v : ℤ) → parse.begins_with s.Comma ts ≡ true → kind_number_at k (tail ts) ≡ Some (v, us)
    → repeated (parse.comma_turn (kind_number_at k)) (done ++ v ∷ []) us ≡ repeated (parse.comma_turn (kind_number_at k)) done ts
numbers-next kind.Width = comma-next exact-width (λ rest. tt)
numbers-next kind.Signed = comma-next exact-signed (λ rest. tt)
numbers-next kind.Value = comma-next exact-value (λ rest. tt)

pub numbers-shorter : (k : Kind) (ts us : List Tok) (v : ℤ) → kind_number_at k ts ≡ Some (v, us) → length us ≤ length ts
numbers-shorter kind.Width = shorter exact-width
numbers-shorter kind.Signed = shorter exact-signed
numbers-shorter kind.Value = shorter exact-value

-- what is seen was read
seen-read : {A B : Type 0} (f : A → B) (p : parse.Parse A) (ts us : List Tok) (b : B) → parse.seen f p ts ≡ Some (b, us)
    → (a : A) × (p ts ≡ Some (a, us)) × (b ≡ f a)
seen-read {A = A} f p ts us b e = by (p ts) refl e where
  by : (r : Option (A × List Tok)) → p ts ≡ r → parse.then_parsed r (λ a vs. Some (f a, vs)) ≡ Some (b, us) → (a : A) × (p ts ≡ Some (a, us)) × (b ≡ f a)
  by None is h = cc
  by (Some q) is h = let pair = pair_inj h in (q.0, is ∙ ap (λ (vs : List Tok). Some (q.0, vs)) pair.1, sym pair.0)

-- the first number of a list
pub numbers-first : (k : Kind) (list : List ℤ) (ts us : List Tok) → parse.seen (λ v. v ∷ []) (kind_number_at k) ts ≡ Some (list, us)
    → repeated (parse.comma_turn (kind_number_at k)) list us ≡ parse.commas (kind_number_at k) ts
numbers-first k list ts us e =
    let (v, read, is) = seen-read (λ v. v ∷ []) (kind_number_at k) ts us list e in
    ap (λ (l : List ℤ). repeated (parse.comma_turn (kind_number_at k)) l us) is
    ∙ sym (ap (λ r. parse.then_parsed r (λ a vs. repeated (parse.comma_turn (kind_number_at k)) (a ∷ []) vs)) read)

-- another number behind a comma
pub numbers-more : (k : Kind) (done list : List ℤ) (ts us : List Tok) → parse.begins_with s.Comma ts ≡ true
    → parse.seen (λ v. done ++ v ∷ []) (kind_number_at k) (tail ts) ≡ Some (list, us)
    → repeated (parse.comma_turn (kind_number_at k)) list us ≡ repeated (parse.comma_turn (kind_number_at k)) done ts
numbers-more k done list ts us comes e =
    let (v, read, is) = seen-read (λ v. done ++ v ∷ []) (kind_number_at k) (tail ts) us list e in
    ap (λ (l : List ℤ). repeated (parse.comma_turn (kind_number_at k)) l us) is ∙ numbers-next k done ts us v comes read

pub numbers-less : (k : Kind) (done list : List ℤ) (ts us : List Tok) → parse.seen (λ v. done ++ v ∷ []) (kind_number_at k) ts ≡ Some (list, us)
    → length us ≤ length ts
numbers-less k done list ts us e = let (v, read, is) = seen-read (λ v. done ++ v ∷ []) (kind_number_at k) ts us list e in numbers-shorter k ts us v read

pub ruleset numbers = (numbers-first, numbers-more, numbers-less, taken-shorter, comma-stop, comma-bad)

pub terms-next : (n : ℕ) (done : List Term) (ts us : List Tok) (v : Term) → parse.begins_with s.Comma ts ≡ true → term_at n (tail ts) ≡ Some (v, us)
    → repeated (parse.comma_turn (term_at n)) (done ++ v ∷ []) us ≡ repeated (parse.comma_turn (term_at n)) done ts
terms-next n = comma-next (exact-term n) (λ rest j h. refl)

pub terms-shorter : (n : ℕ) (ts us : List Tok) (v : Term) → term_at n ts ≡ Some (v, us) → length us ≤ length ts
terms-shorter n = shorter (exact-term n)

pub ruleset term_steps = (terms-next, terms-shorter, taken-shorter, comma-stop, comma-bad)
