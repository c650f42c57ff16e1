-- StreamIt's own leaves: NUMBER, NAME and "pop" "(" ")".
use Rattle.std.specs.Prelude.{◌≡◌, ℕ, suc, true, List, [], ◌∷◌, None, Some, codes, if◌then◌else◌}
use Rattle.std.specs.Str.{bytes_eq}
use Rattle.text_tokens.specs.Tok.{Tok}
use Rattle.text_tokens.specs.Tok as tok
use Rattle.text_tokens.specs.declared.sign.Symbol.TheVariants as s
use Rattle.text_forms.specs.Parse.{Parse, is_value, nothing_at, enclosed}
use Rattle.streamit_text.specs.Tree.{Expression, Number, Name, Pop}
use Rattle.streamit_text.specs.Words.{is_own}

-- the tokens are this leaf, where `n` more brackets may be open
pub data IsLeaf : (n : ℕ) (t : Expression) (ts : List Tok) → Type 0 where
  number : (n v : ℕ) → is_value v ≡ true → IsLeaf n (Number v) (tok.number v ∷ [])
  name : (n : ℕ) (text : List ℕ) → is_own text ≡ true → IsLeaf n (Name text) (tok.name text ∷ [])
  pop : (n : ℕ) → IsLeaf (suc n) Pop (tok.name (codes "pop") ∷ tok.symbol s.Open ∷ tok.symbol s.Close ∷ [])

unfoldable pub pop_at : ℕ → Parse Expression
pop_at n ts = enclosed s.Open s.Close (λ m. nothing_at Pop) n ts

unfoldable pub named_leaf : ℕ → List ℕ → Parse Expression
named_leaf n text ts =
    if bytes_eq text (codes "pop") then pop_at n ts
    else if is_own text then Some (Name text, ts)
    else None

abbrev pub leaf_at : ℕ → Parse Expression
leaf_at n [] = None
leaf_at n (tok.name text ∷ ts) = named_leaf n text ts
leaf_at n (tok.var text ∷ ts) = None
leaf_at n (tok.number v ∷ ts) = if is_value v then Some (Number v, ts) else None
leaf_at n (tok.symbol x ∷ ts) = None
