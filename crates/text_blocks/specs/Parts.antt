-- The parts that statements have of expressions: the grammar, and how they are read. `n` is how many more brackets may be
-- open.
use Rattle.std.specs.Prelude.{ℕ, List, [], ◌∷◌, Option, None, Some}
use Rattle.text_tokens.specs.Tok.{Tok}
use Rattle.text_tokens.specs.declared.sign.Symbol.TheVariants as s
use Rattle.text_forms.specs.Forms.{Before, After, Maybe, Enclosed}
use Rattle.text_forms.specs.Parse.{Parse, begins_with, after, before, maybe, enclosed}

-- an optional part, seen as another value
abbrev pub optional : {X A : Type 0} → (X → A) → Option X → Option A
optional f None = None
optional f (Some x) = Some (f x)

-- "(" .. ")"
abbrev pub Round : {A : Type 0} → (ℕ → A → List Tok → Type 0) → ℕ → A → List Tok → Type 0
Round F = Enclosed s.Open s.Close F

-- "[" .. "]"
abbrev pub Square : {A : Type 0} → (ℕ → A → List Tok → Type 0) → ℕ → A → List Tok → Type 0
Square F = Enclosed s.OpenBracket s.CloseBracket F

-- .. ";"
abbrev pub Ended : {A : Type 0} → (ℕ → A → List Tok → Type 0) → ℕ → A → List Tok → Type 0
Ended F n = Before (F n) (s.Semicolon ∷ [])

-- "=" .., or nothing
abbrev pub FirstValue : {A : Type 0} → (ℕ → A → List Tok → Type 0) → ℕ → Option A → List Tok → Type 0
FirstValue F n = Maybe (After (s.Assign ∷ []) (F n))

unfoldable pub round_at : {A : Type 0} → (ℕ → Parse A) → ℕ → Parse A
round_at p n ts = enclosed s.Open s.Close p n ts

unfoldable pub square_at : {A : Type 0} → (ℕ → Parse A) → ℕ → Parse A
square_at p n ts = enclosed s.OpenBracket s.CloseBracket p n ts

unfoldable pub ended_at : {A : Type 0} → (ℕ → Parse A) → ℕ → Parse A
ended_at p n ts = before (p n) (s.Semicolon ∷ []) ts

unfoldable pub first_value_at : {A : Type 0} → (ℕ → Parse A) → ℕ → Parse (Option A)
first_value_at p n ts = maybe (begins_with s.Assign) (after (s.Assign ∷ []) (p n)) ts
