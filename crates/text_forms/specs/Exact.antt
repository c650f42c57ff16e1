-- When a reading function is exact for a form: it gives what the tokens stand for, and reads all that stands for something.
use Rattle.std.specs.Prelude.{◌≡◌, List, ◌++◌, Some}
use Rattle.text_tokens.specs.Tok.{Tok}
use Rattle.text_forms.specs.Parse.{Parse}

-- the front of these tokens, up to `rest`, stands for v
pub record Front {A : Type 0} (F : A → List Tok → Type 0) (v : A) (ts rest : List Tok) : Type 0 where
  pub front : List Tok
  pub is : ts ≡ front ++ rest
  pub formed : F v front

-- `E` says what may follow
pub record Exact {A : Type 0} (F : A → List Tok → Type 0) (p : Parse A) (E : List Tok → Type 0) : Type 0 where
  pub sound : (ts : List Tok) (v : A) (rest : List Tok) → p ts ≡ Some (v, rest) → Front F v ts rest
  pub complete : (v : A) (s rest : List Tok) → F v s → E rest → p (s ++ rest) ≡ Some (v, rest)

-- anything may follow
abbrev pub Any : List Tok → Type 0
Any rest = Unit {0}
