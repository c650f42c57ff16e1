-- A part whose grammar depends on the value of the part before it.
use Rattle.std.specs.Prelude.{◌≡◌, List, ◌++◌, Some}
use Rattle.text_tokens.specs.Tok.{Tok}
use Rattle.text_forms.specs.Parse.{Parse, then_parsed}

-- the first part stands for the first value, and the second for the second by what the first says
pub record Chained {A B : Type 0} (F : A → List Tok → Type 0) (G : A → B → List Tok → Type 0) (v : A × B) (ts : List Tok) : Type 0 where
  pub front : List Tok
  pub back : List Tok
  pub is : ts ≡ front ++ back
  pub first : F v.0 front
  pub second : G v.0 v.1 back

-- one and then what it says
abbrev pub chained : {A B : Type 0} → Parse A → (A → Parse B) → Parse (A × B)
chained p q ts = then_parsed (p ts) (λ a us. then_parsed (q a us) (λ b vs. Some ((a, b), vs)))
