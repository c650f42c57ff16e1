-- Loops of a reader.
use Rattle.std.specs.Prelude.{ℕ, zero, suc, List, length, Option, None, Some}
use Rattle.text_tokens.specs.Tok.{Tok}

-- what a turn of a loop comes to: the end, no reading at all, or a value and the tokens behind it
pub data ReadTurn (A : Type 0) : Type 0 where
  Stop : ReadTurn A
  Fail : ReadTurn A
  Next : A → List Tok → ReadTurn A

abbrev pub after_turn : {A : Type 0} → (A → List Tok → Option (A × List Tok)) → A → List Tok → ReadTurn A → Option (A × List Tok)
after_turn more x ts Stop = Some (x, ts)
after_turn more x ts Fail = None
after_turn more x ts (Next y us) = more y us

-- at most n turns
unfoldable pub turns : {A : Type 0} → (A → List Tok → ReadTurn A) → ℕ → A → List Tok → Option (A × List Tok)
turns step zero x ts = None
turns step (suc n) x ts = after_turn (turns step n) x ts (step x ts)

-- turns to the end; each has to take a token
unfoldable pub repeated : {A : Type 0} → (A → List Tok → ReadTurn A) → A → List Tok → Option (A × List Tok)
repeated step x ts = turns step (suc (length ts)) x ts
