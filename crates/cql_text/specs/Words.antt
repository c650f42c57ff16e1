-- Keywords of CQL, in any letter case, and names.
use Rattle.std.specs.Prelude.{◌≡◌, ℕ, Bool, true, false, not, ◌&&◌, if◌then◌else◌, List, [], ◌∷◌, codes, Option, None, Some}
use Rattle.std.specs.List.{list_any}
use Rattle.std.specs.Str.{str_eq_ignore_ascii_case}
use Rattle.river_base.specs.Name.{is_name}
use Rattle.text_tokens.specs.Tok.{Tok, name, var, number, symbol}
use Rattle.text_forms.specs.Forms as form
use Rattle.text_forms.specs.Names.{is_free_name}
use Rattle.text_forms.specs.Parse.{Parse, tested, name_at}
use Rattle.text_forms.specs.Tail.{tail}

-- the text is this word, in any letter case
abbrev pub is_keyword : List ℕ → List ℕ → Bool
is_keyword word text = str_eq_ignore_ascii_case text word

abbrev pub keywords : List (List ℕ)
keywords =
    codes "register" ∷ codes "stream" ∷ codes "query" ∷ codes "select" ∷ codes "istream" ∷ codes "dstream" ∷ codes "rstream" ∷ codes "from" ∷ codes "where"
    ∷ codes "as" ∷ codes "and" ∷ codes "or" ∷ codes "not" ∷ codes "now" ∷ codes "range" ∷ codes "unbounded" ∷ codes "rows" ∷ codes "second" ∷ codes "seconds"
    ∷ []

-- a name that users may give: at most 40 bytes, no @, and no keyword
unfoldable pub is_plain : List ℕ → Bool
is_plain text = is_name text && (is_free_name [] text && not (list_any (λ word. is_keyword word text) keywords))

abbrev pub Plain : List ℕ → List Tok → Type 0
Plain = form.Tested is_plain form.NameToken

unfoldable pub plain_at : Parse (List ℕ)
plain_at ts = tested is_plain name_at ts

-- the first token is this word
abbrev pub is_keyword_at : List ℕ → List Tok → Bool
is_keyword_at word [] = false
is_keyword_at word (name text ∷ ts) = is_keyword word text
is_keyword_at word (var text ∷ ts) = false
is_keyword_at word (number n ∷ ts) = false
is_keyword_at word (symbol x ∷ ts) = false

-- behind a word in any letter case
pub record Keyword {A : Type 0} (word : List ℕ) (F : A → List Tok → Type 0) (v : A) (ts : List Tok) : Type 0 where
  pub spelled : List ℕ
  pub back : List Tok
  pub is : ts ≡ name spelled ∷ back
  pub same : is_keyword word spelled ≡ true
  pub formed : F v back

abbrev pub keyword : {A : Type 0} → List ℕ → Parse A → Parse A
keyword word p ts = if is_keyword_at word ts then p (tail ts) else None

-- the tokens behind a word
abbrev pub keyword_at : List ℕ → List Tok → Option (List Tok)
keyword_at word ts = if is_keyword_at word ts then Some (tail ts) else None
