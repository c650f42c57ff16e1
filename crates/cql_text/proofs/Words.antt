-- Words in any letter case, and that no name is a keyword.
use Rattle.std.proofs.Common.{◌≡◌, ℕ, List, [], ◌∷◌, ◌++◌, Bool, true, false, Some, refl, sym, ap, ◌∙◌}
use Rattle.std.specs.Prelude.{codes, ◌&&◌, not}
use Rattle.std.specs.List.{list_any}
use Rattle.std.specs.Str.{bytes_eq}
use Rattle.std.specs.Str.{str_to_ascii_lowercase as lower}
use Rattle.std.proofs.lemmas.Bool.{and_parts, or_parts, not-true}
use Rattle.std.proofs.lemmas.Slice.Eq.{bytes_eq-Decides}
use Rattle.river_base.specs.Name.{is_name}
use Rattle.text_tokens.specs.Tok.{Tok, name, var, number, symbol}
use Rattle.text_forms.specs.Names.{is_free_name}
use Rattle.text_forms.specs.Parse as parse
use Rattle.text_forms.specs.Tail.{tail}
use Rattle.text_forms.proofs.Exact.{Exact, Front, Any, exact-tested, exact-name, if-some}
use Rattle.cql_text.specs.Words.{is_keyword, is_keyword_at, is_plain, keywords, Plain, plain_at, Keyword, keyword}

-- names that users give are read exactly
pub exact-plain : Exact Plain plain_at Any
unfolding plain_at
exact-plain = exact-tested is_plain exact-name

abbrev pub AllFalse : (List ℕ → Bool) → List (List ℕ) → Type 0
AllFalse P [] = Unit {0}
AllFalse P (w ∷ ws) = (P w ≡ false) × AllFalse P ws

among_none : (P : List ℕ → Bool) (words : List (List ℕ)) → list_any P words ≡ false → AllFalse P words
among_none P [] e = tt
among_none P (w ∷ ws) e = let p = or_parts (P w) (list_any P ws) e in (p.0, among_none P ws p.1)

-- a name that users may give is a name, at most 40 bytes and without `@`
pub plain-parts : (text : List ℕ) → is_plain text ≡ true → (is_name text ≡ true) × (is_free_name [] text ≡ true)
unfolding is_plain
plain-parts text h =
    let a = and_parts (is_name text) (is_free_name [] text && not (list_any (λ word. is_keyword word text) keywords)) h in
    (a.0, (and_parts (is_free_name [] text) (not (list_any (λ word. is_keyword word text) keywords)) a.1).0)

-- a name that users may give is no keyword
pub plain-words : (text : List ℕ) → is_plain text ≡ true → AllFalse (λ word. is_keyword word text) keywords
unfolding is_plain
plain-words text h =
    let a = and_parts (is_name text) (is_free_name [] text && not (list_any (λ word. is_keyword word text) keywords)) h in
    among_none (λ word. is_keyword word text) keywords
    (not-true (list_any (λ word. is_keyword word text) keywords) (and_parts (is_free_name [] text) (not (list_any (λ word. is_keyword word text) keywords)) a.1).1)

-- the name of a user is not the word `Not`
pub plain-not : (text : List ℕ) → is_plain text ≡ true → is_keyword (codes "not") text ≡ false
plain-not text h = (plain-words text h).1.1.1.1.1.1.1.1.1.1.1.1.0

-- nor the word `As`
pub plain-as : (text : List ℕ) → is_plain text ≡ true → is_keyword (codes "as") text ≡ false
plain-as text h = (plain-words text h).1.1.1.1.1.1.1.1.1.0

pub plain-where : (text : List ℕ) → is_plain text ≡ true → is_keyword (codes "where") text ≡ false
plain-where text h = (plain-words text h).1.1.1.1.1.1.1.1.0

-- the word `Where` is no name of a user
pub where-not_plain : (text : List ℕ) → is_keyword (codes "where") text ≡ true → is_plain text ≡ false
where-not_plain text e = by (is_plain text) refl where
  by : (b : Bool) → is_plain text ≡ b → b ≡ false
  by false is = refl
  by true is = absurd (let f = plain-where text is in cc (sym e ∙ f))

-- a text that is one word is no other
pub other_word : (word other text : List ℕ) → is_keyword word text ≡ true → is_keyword other word ≡ false → is_keyword other text ≡ false
other_word word other text e ne = ap (λ w. bytes_eq w (lower other)) ((bytes_eq-Decides (lower text) (lower word)).0 e) ∙ ne

pub keyword-found : (word : List ℕ) (ts : List Tok) → is_keyword_at word ts ≡ true
    → (text : List ℕ) × (ts ≡ name text ∷ tail ts) × (is_keyword word text ≡ true)
keyword-found word [] e = cc
keyword-found word (name text ∷ ts) e = (text, refl, e)
keyword-found word (var text ∷ ts) e = cc
keyword-found word (number v ∷ ts) e = cc
keyword-found word (symbol y ∷ ts) e = cc

-- what stands behind a keyword
pub exact-keyword : {A : Type 0} {F : A → List Tok → Type 0} {p : parse.Parse A} {E : List Tok → Type 0} (word : List ℕ) → Exact F p E
    → Exact (Keyword word F) (keyword word p) E
exact-keyword {A} {F} {p} {E} word x = record { sound = sound; complete = complete } where
  sound : (ts : List Tok) (v : A) (rest : List Tok) → keyword word p ts ≡ Some (v, rest) → Front (Keyword word F) v ts rest
  sound ts v rest e =
      let both = if-some (is_keyword_at word ts) (p (tail ts)) (v, rest) e in
      let w = keyword-found word ts both.0 in
      let f = x.sound (tail ts) v rest both.1 in
      record {
        front = name w.0 ∷ f.front;
        is = w.1
            ∙ ap (λ (l : List Tok). name w.0 ∷ l) f.is;
        formed = record { spelled = w.0; back = f.front; is = refl; same = w.2; formed = f.formed };
      }

  complete : (v : A) (s rest : List Tok) → Keyword word F v s → E rest → keyword word p (s ++ rest) ≡ Some (v, rest)
  complete v s rest h d = rw (h.is, h.same) (x.complete v h.back rest h.formed d)

-- what stands behind a word is at its beginning that word
pub keyword-at : {A : Type 0} (F : A → List Tok → Type 0) (word : List ℕ) (v : A) (s rest : List Tok) → Keyword word F v s
    → is_keyword_at word (s ++ rest) ≡ true
keyword-at F word v s rest h = rw h.is h.same
