-- The reading of expressions is exact.
use Rattle.std.proofs.Common.{◌≡◌, ℕ, zero, suc, pos, List, [], ◌∷◌, ◌++◌, true, false, Some, None, refl, sym, ap, ◌∙◌, subst}
use Rattle.std.specs.Prelude.{codes}
use Rattle.std.specs.Str.{bytes_eq}
use Rattle.std.proofs.lemmas.Slice.Eq.{bytes_eq-Decides}
use Rattle.work_code.specs.Term.{Term, Const, Input, Slot, depth_of}
use Rattle.text_tokens.specs.Tok.{Tok, name, var, number, symbol}
use Rattle.text_tokens.specs.declared.sign.Symbol.TheVariants as s
use Rattle.text_forms.specs.Parse as parse
use Rattle.text_forms.specs.Forms as form
use Rattle.text_forms.proofs.Exact.{Exact, Front, Any, exact-seen, exact-value}
use Rattle.text_forms.proofs.Pairs.{choose}
use Rattle.text_blocks.specs.Parts.{Square, square_at}
use Rattle.text_blocks.specs.Seven.{sign_at, Ends}
use Rattle.text_blocks.proofs.Clear.{AreApart}
use Rattle.text_blocks.proofs.Clear as seven
use Rattle.text_blocks.proofs.Parts.{exact-place, place-tokens}
use Rattle.river_text.specs.Expressions.{marks, deepest, IsLeaf, IsTerm, constant_at, named, leaf_at, term_at}
use Rattle.river_text.specs.Expressions as rule

abbrev Place : ℕ → ℕ → List Tok → Type 0
Place = Square (λ m. form.Tested parse.is_count form.Number)

abbrev placed : List ℕ → ℕ → List Tok
placed word k = name word ∷ symbol s.OpenBracket ∷ number k ∷ symbol s.CloseBracket ∷ []

-- a word and a number in square brackets are the leaf that they are of by the grammar
place-leaf : (to : ℕ → Term) (word : List ℕ) → ((n k : ℕ) → parse.is_count k ≡ true → IsLeaf (suc n) (to k) (placed word k))
    → (n : ℕ) (t : Term) (text : List ℕ) (ts : List Tok) → text ≡ word → form.Seen to (Place n) t ts → IsLeaf n t (name text ∷ ts)
place-leaf to word rule zero t text ts is h = absurd h.formed
place-leaf to word rule (suc n) t text ts is h =
    let p = place-tokens n h.value ts h.formed in
    let tokens : placed word h.value ≡ name text ∷ ts =
    ap (λ (w : List ℕ). placed w h.value) (sym is) ∙ ap (λ (us : List Tok). name text ∷ us) (sym p.0) in
    let leaf = subst (λ (us : List Tok). IsLeaf (suc n) (to h.value) us) tokens (rule n h.value p.1) in
    subst (λ (u : Term). IsLeaf (suc n) u (name text ∷ ts)) (sym h.is) leaf

constant-leaf : (n : ℕ) (t : Term) (ts : List Tok) → form.Seen Const form.Value t ts → IsLeaf n t ts
constant-leaf n t ts h =
    let v = h.formed in
    let leaf = subst (λ (us : List Tok). IsLeaf n (Const (pos v.number)) us) (sym v.formed) (rule.number n v.number v.fits) in
    subst (λ (u : Term). IsLeaf n u ts) (sym (h.is ∙ ap Const v.is)) leaf

-- a leaf that begins with a name, put together from what stands behind the name
put : {F : Term → List Tok → Type 0} (n : ℕ) (text : List ℕ) (t : Term) (ts rest : List Tok) → Front F t ts rest
    → ((front : List Tok) → F t front → IsLeaf n t (name text ∷ front)) → Front (IsLeaf n) t (name text ∷ ts) rest
put n text t ts rest f to = record { front = name text ∷ f.front; is = ap (λ (us : List Tok). name text ∷ us) f.is; formed = to f.front f.formed }

named-sound : (n : ℕ) (text : List ℕ) (ts : List Tok) (t : Term) (rest : List Tok) → named n text ts ≡ Some (t, rest)
    → Front (IsLeaf n) t (name text ∷ ts) rest
unfolding named
named-sound n text ts t rest e =
    choose (bytes_eq text (codes "input")) _ _ (t, rest) e
    (λ b r.
    let is = (bytes_eq-Decides text (codes "input")).0 b in
    put n text t ts rest ((exact-seen Input (exact-place n)).sound ts t rest r) (λ us h. place-leaf Input (codes "input") rule.input n t text us is h))
    (λ _ e1. choose (bytes_eq text (codes "slot")) _ _ (t, rest) e1
    (λ b r.
    let is = (bytes_eq-Decides text (codes "slot")).0 b in
    put n text t ts rest ((exact-seen Slot (exact-place n)).sound ts t rest r) (λ us h. place-leaf Slot (codes "slot") rule.slot n t text us is h))
    (λ _ r. cc))

leaf-sound : (n : ℕ) (ts : List Tok) (t : Term) (rest : List Tok) → leaf_at n ts ≡ Some (t, rest) → Front (IsLeaf n) t ts rest
unfolding constant_at
leaf-sound n [] t rest e = cc
leaf-sound n (name text ∷ ts) t rest e = named-sound n text ts t rest e
leaf-sound n (var text ∷ ts) t rest e = cc
leaf-sound n (number v ∷ ts) t rest e =
    let f = (exact-seen Const exact-value).sound (number v ∷ ts) t rest e in
    record { front = f.front; is = f.is; formed = constant-leaf n t f.front f.formed }
leaf-sound n (symbol y ∷ ts) t rest e = cc

constant-there : (v : ℕ) (rest : List Tok) → parse.is_value v ≡ true → constant_at (number v ∷ rest) ≡ Some (Const (pos v), rest)
unfolding constant_at
constant-there v rest h = rw h refl

named-input : (n k : ℕ) (rest : List Tok) → parse.is_count k ≡ true
    → named (suc n) (codes "input") (symbol s.OpenBracket ∷ number k ∷ symbol s.CloseBracket ∷ rest) ≡ Some (Input k, rest)
unfolding named square_at parse.open_at
named-input n k rest h = rw h refl

named-slot : (n k : ℕ) (rest : List Tok) → parse.is_count k ≡ true
    → named (suc n) (codes "slot") (symbol s.OpenBracket ∷ number k ∷ symbol s.CloseBracket ∷ rest) ≡ Some (Slot k, rest)
unfolding named square_at parse.open_at
named-slot n k rest h = rw h refl

leaf-complete : (n : ℕ) (t : Term) (ts rest : List Tok) → IsLeaf n t ts → leaf_at n (ts ++ rest) ≡ Some (t, rest)
leaf-complete n t ts rest (rule.number m v h) = constant-there v rest h
leaf-complete n t ts rest (rule.input m v h) = named-input m v rest h
leaf-complete n t ts rest (rule.slot m v h) = named-slot m v rest h

exact-leaf : (n : ℕ) → Exact (IsLeaf n) (leaf_at n) Any
exact-leaf n = record { sound = λ ts v rest e. leaf-sound n ts v rest e; complete = λ v ts rest h any. leaf-complete n v ts rest h }

shallow : (n : ℕ) (t : Term) (ts : List Tok) → IsLeaf n t ts → depth_of t ≡ 1
shallow n t ts (rule.number m v h) = refl
shallow n t ts (rule.input m v h) = refl
shallow n t ts (rule.slot m v h) = refl

begins : (n : ℕ) (t : Term) (ts : List Tok) → IsLeaf n t ts
    → (x : Tok) × (us : List Tok) × (ts ≡ x ∷ us) × ((vs : List Tok) → parse.begins_with s.Open (x ∷ vs) ≡ false) × (sign_at x ≡ None) × (marks.call x ≡ None)
begins n t ts (rule.number m v h) = (number v, [], refl, (λ vs. refl), refl, refl)
begins n t ts (rule.input m v h) =
    (name (codes "input"), symbol s.OpenBracket ∷ number v ∷ symbol s.CloseBracket ∷ [], refl, (λ vs. refl), refl, refl)
begins n t ts (rule.slot m v h) =
    (name (codes "slot"), symbol s.OpenBracket ∷ number v ∷ symbol s.CloseBracket ∷ [], refl, (λ vs. refl), refl, refl)

apart : AreApart marks IsLeaf leaf_at
apart = record {
  exact = exact-leaf;
  shallow = shallow;
  begins = begins;
  open_call = refl;
  open_sign = refl;
  call_sign = λ x p e. absurd (cc e);
}

-- an expression: no operator may follow
pub exact-term : (n : ℕ) → Exact (IsTerm n) (term_at n) (Ends 6)
exact-term = seven.exact-term marks deepest apart
