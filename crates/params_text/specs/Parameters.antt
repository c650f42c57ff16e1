-- The leaves of a language with parameters: those of StreamIt, where a NAME that is a parameter counts as one open bracket.
use Rattle.std.specs.Prelude.{◌≡◌, ℕ, zero, suc, true, false, List, [], ◌∷◌, None, Some, codes, if◌then◌else◌}
use Rattle.std.specs.List.{list_any}
use Rattle.std.specs.Str.{bytes_eq}
use Rattle.river_base.specs.Name.{name_eq}
use Rattle.text_tokens.specs.Tok.{Tok}
use Rattle.text_tokens.specs.Tok as tok
use Rattle.text_tokens.specs.declared.sign.Symbol.TheVariants as s
use Rattle.text_forms.specs.Parse.{Parse, is_value}
use Rattle.streamit_text.specs.Leaves.{pop_at}
use Rattle.streamit_text.specs.Tree.{Expression, Number, Name, Pop}
use Rattle.streamit_text.specs.Words.{is_own}
use Rattle.params_text.specs.Params.{is_one_of}

-- the keys of a set have the same names as the list
abbrev pub Finds : List (List ℕ) → List (List ℕ) → Type 0
Finds keys ps = (n : List ℕ) → list_any (name_eq n) keys ≡ is_one_of ps n

-- the tokens are this leaf, where `n` more brackets may be open
pub data IsLeafWith (ps : List (List ℕ)) : (n : ℕ) (t : Expression) (ts : List Tok) → Type 0 where
  number : (n v : ℕ) → is_value v ≡ true → IsLeafWith ps n (Number v) (tok.number v ∷ [])
  name : (n : ℕ) (text : List ℕ) → is_own text ≡ true → is_one_of ps text ≡ false → IsLeafWith ps n (Name text) (tok.name text ∷ [])
  parameter : (n : ℕ) (text : List ℕ) → is_own text ≡ true → is_one_of ps text ≡ true → IsLeafWith ps (suc n) (Name text) (tok.name text ∷ [])
  pop : (n : ℕ) → IsLeafWith ps (suc n) Pop (tok.name (codes "pop") ∷ tok.symbol s.Open ∷ tok.symbol s.Close ∷ [])

-- a NAME, where so many more brackets may be open
unfoldable pub place_at : List (List ℕ) → ℕ → List ℕ → Parse Expression
place_at ps zero text ts = if is_one_of ps text then None else Some (Name text, ts)
place_at ps (suc n) text ts = Some (Name text, ts)

unfoldable pub named_with : List (List ℕ) → ℕ → List ℕ → Parse Expression
named_with ps n text ts =
    if bytes_eq text (codes "pop") then pop_at n ts
    else if is_own text then place_at ps n text ts
    else None

abbrev pub leaf_with : List (List ℕ) → ℕ → Parse Expression
leaf_with ps n [] = None
leaf_with ps n (tok.name text ∷ ts) = named_with ps n text ts
leaf_with ps n (tok.var text ∷ ts) = None
leaf_with ps n (tok.number v ∷ ts) = if is_value v then Some (Number v, ts) else None
leaf_with ps n (tok.symbol x ∷ ts) = None
