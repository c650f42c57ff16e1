-- Lists of items, printed and read.
use Rattle.std.proofs.Common.{◌≡◌, ℕ, suc, ◌<◌, ◌≤◌, Bool, true, false, cond, List, [], ◌∷◌, ◌++◌, length, refl, sym, ◌∙◌, subst, inl, inr, arith}
use Rattle.std.specs.Prelude.{codes, map, ℤ, pos, negsuc}
use Rattle.std.specs.Ordering.{int_eq}
use Rattle.std.specs.Fmt.{decimal, signed_decimal}
use Rattle.std.proofs.lemmas.Bool.Decides.{Decides-int_eq}
use Rattle.text_forms.proofs.Symbols.{value_is}
use Rattle.text_tokens.specs.Lexis.{most, is_letter, is_word, is_digit}
use Rattle.text_tokens.specs.Tok.{Tok, name, number, symbol}
use Rattle.text_tokens.specs.declared.sign.Symbol.TheVariants as s
use Rattle.text_tokens.proofs.Spelled.{is_name_text, spells-name, spells-number, minus_follows, decimal-first}
use Rattle.text_forms.specs.Forms as form
use Rattle.river_print.specs.Printed.{start_text}
use Rattle.river_text.specs.Kernels as g
use Rattle.river_print.specs.Writable as w
use Rattle.river_print.proofs.PrintedExpr.{natural, is_count-below}
use Rattle.text_tokens.proofs.Insides.{inside-name, inside-number, plain-Minus}
use Rattle.river_print.proofs.Pieces.{Piece, AllPieces, more_toks, items_toks, symbol-first}

-- a value whose printed text has tokens that stand for it
pub record Item {A : Type 0} (F : A → List Tok → Type 0) (text : A → List ℕ) (tok : A → List Tok) (v : A) : Type 0 where
  pub piece : Piece (text v) (tok v)
  pub formed : F v (tok v)

module _ {A : Type 0} (F : A → List Tok → Type 0) (text : A → List ℕ) (tok : A → List Tok) where
  -- items each of which is printed as its tokens are so all together
  pub pieces : (P : A → Type 0) → ((v : A) → P v → Item F text tok v) → (vs : List A) → w.Every P vs → AllPieces (map text vs) (map tok vs)
  pieces P item [] h = tt
  pieces P item (v ∷ vs) h = ((item v h.0).piece, pieces P item vs h.1)

  each-more : (P : A → Type 0) → ((v : A) → P v → Item F text tok v) → (vs : List A) → w.Every P vs
      → form.Many (form.After (s.Comma ∷ []) F) vs (more_toks (map tok vs))
  each-more P item [] h = refl
  each-more P item (v ∷ vs) h =
      (symbol s.Comma ∷ tok v, more_toks (map tok vs), refl, record { back = tok v; is = refl; formed = (item v h.0).formed }, each-more P item vs h.1)

  -- one item or more, with commas between, are in the grammar
  pub items-commas : (P : A → Type 0) → ((v : A) → P v → Item F text tok v) → (vs : List A) → 0 < length vs → w.Every P vs
      → form.Commas F vs (items_toks (map tok vs))
  items-commas P item [] some h = absurd (omega arith)
  items-commas P item (v ∷ vs) some h = record {
    value = (v, vs);
    is = refl;
    formed = record { front = tok v; back = more_toks (map tok vs); is = refl; first = (item v h.0).formed; second = each-more P item vs h.1 };
  }

  -- so is a list of items, or of none
  pub items-listing : (P : A → Type 0) → ((v : A) → P v → Item F text tok v) → (vs : List A) → w.Every P vs → form.Listing F vs (items_toks (map tok vs))
  items-listing P item [] h = inl (refl, refl)
  items-listing P item (v ∷ vs) h = inr (items-commas P item (v ∷ vs) (omega arith) h)

-- ---- numbers

pub number-piece : (n : ℕ) → n ≤ most → Piece (decimal n) (number n ∷ [])
number-piece n fits = record { spells = spells-number n fits; inside = inside-number n }

-- the token of a count
abbrev pub count_tok : ℕ → List Tok
count_tok n = number n ∷ []

-- a count is in the grammar
pub count-formed : (n : ℕ) → w.IsCount n → form.Count n (count_tok n)
count-formed n h = record { passes = is_count-below n h; formed = refl }

-- a count
pub count-item : (n : ℕ) → w.IsCount n → Item form.Count decimal count_tok n
count-item n h = record { piece = number-piece n (omega arith); formed = count-formed n h }

-- the token of a value from 0 on
abbrev pub value_tok : ℤ → List Tok
value_tok z = number (natural z) ∷ []

pub value-formed : (n : ℕ) → n ≤ 9223372036854775807 → form.Value (pos n) (number n ∷ [])
value-formed n h = record { number = n; fits = value_is n h; is = refl; formed = refl }

-- a value from 0 on
pub value-item : (z : ℤ) → w.IsNatural z → Item form.Value signed_decimal value_tok z
value-item z h = subst (λ (y : ℤ). Item form.Value signed_decimal value_tok y) (sym h.1) (at h.0 h.2) where
  at : (n : ℕ) → n ≤ 9223372036854775807 → Item form.Value signed_decimal value_tok (pos n)
  at n fits = record { piece = number-piece n fits; formed = value-formed n fits }

-- a width
pub width-item : (z : ℤ) → w.IsWidth z → Item g.Width signed_decimal value_tok z
width-item z h = subst (λ (y : ℤ). Item g.Width signed_decimal value_tok y) (sym h.1) (at h.0 h.2) where
  at : (n : ℕ) → w.IsCount n → Item g.Width signed_decimal value_tok (pos n)
  at n fits = record { piece = number-piece n (omega arith); formed = record { value = n; is = refl; formed = count-formed n fits } }

-- starts
abbrev pub signed_tok : ℤ → List Tok
signed_tok (pos n) = number n ∷ []
signed_tok (negsuc n) = symbol s.Minus ∷ number (suc n) ∷ []

-- the tokens of a start; the least one is `min`
abbrev pub start_tok : ℤ → List Tok
start_tok z = cond (int_eq z (negsuc 9223372036854775807)) (name (codes "min") ∷ []) (signed_tok z)

min_is : is_name_text (codes "min") ≡ true
unfolding is_letter is_word is_digit
min_is = refl

min-piece : Piece (codes "min") (name (codes "min") ∷ [])
min-piece = record { spells = spells-name (codes "min") min_is; inside = inside-name (codes "min") }

-- a start, with its sign
pub start-item : (z : ℤ) → w.IsWritableStart z → Item g.Signed start_text start_tok z
start-item z h = by (int_eq z (negsuc 9223372036854775807)) refl where
  least : z ≡ negsuc 9223372036854775807 → g.Signed z (name (codes "min") ∷ [])
  least e = inr (inl (record { back = []; is = refl; formed = (e, refl) }))

  signed : (y : ℤ) → w.IsWritableStart y → (y ≡ negsuc 9223372036854775807 → ⊥) → Piece (signed_decimal y) (signed_tok y) × g.Signed y (signed_tok y)
  signed (pos n) k other = (number-piece n k, inr (inr (value-formed n k)))
  signed (negsuc n) k other =
      let below : suc n ≤ most = small n k other in (
        symbol-first s.Minus (decimal (suc n)) (number (suc n) ∷ []) plain-Minus (number-piece (suc n) below)
            (λ rest no. minus_follows (decimal (suc n) ++ rest) (decimal-first (suc n) rest below)),
        inl (record { back = number (suc n) ∷ []; is = refl; formed = record { value = pos (suc n); is = refl; formed = value-formed (suc n) below } }),
      )
    where
      small : (n : ℕ) → n ≤ 9223372036854775807 → (negsuc n ≡ negsuc 9223372036854775807 → ⊥) → suc n ≤ most
      small n k other = grind arith

  by : (b : Bool) → int_eq z (negsuc 9223372036854775807) ≡ b → Item g.Signed start_text start_tok z
  by true e =
      let is : z ≡ negsuc 9223372036854775807 = (Decides-int_eq z (negsuc 9223372036854775807)).0 e in
      subst (λ (y : ℤ). Item g.Signed start_text start_tok y) (sym is)
      (record { piece = min-piece; formed = inr (inl (record { back = []; is = refl; formed = (refl, refl) })) })
  by false e =
      let parts = signed z h (λ same. no_yes (sym e ∙ (Decides-int_eq z (negsuc 9223372036854775807)).1 same)) in
      record {
        piece = subst (λ (b : Bool). Piece (cond b (codes "min") (signed_decimal z)) (cond b (name (codes "min") ∷ []) (signed_tok z))) (sym e) parts.0;
        formed = subst (λ (b : Bool). g.Signed z (cond b (name (codes "min") ∷ []) (signed_tok z))) (sym e) parts.1;
      }
    where
      no_yes : false ≡ true → ⊥
      no_yes f = cc
