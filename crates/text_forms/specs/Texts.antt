-- Texts of units, of which each is in a grammar that may depend on the units before it.
use Rattle.std.specs.Prelude.{◌≡◌, ℕ, ◌+◌, List, [], ◌∷◌, ◌++◌, length, Option, None, Some, Result, Ok, Err}
use Rattle.text_tokens.specs.Tok.{Tok}
use Rattle.text_forms.specs.Parse.{Parse}

-- a value that is all of these tokens
abbrev pub at_end : {A : Type 0} → A → List Tok → Option A
at_end v [] = Some v
at_end v (t ∷ ts) = None

abbrev pub ended : {A : Type 0} → Option (A × List Tok) → Option A
ended None = None
ended (Some read) = at_end read.0 read.1

abbrev pub whole : {A : Type 0} → Parse A → List Tok → Option A
whole p ts = ended (p ts)

-- a unit's value before those of the later ones, or which unit is the first that is none
abbrev pub put_first : {A : Type 0} → A → Result (List A) ℕ → Result (List A) ℕ
put_first v (Ok vs) = Ok (v ∷ vs)
put_first v (Err n) = Err n

abbrev pub after_unit : {A : Type 0} → ℕ → (A → Result (List A) ℕ) → Option A → Result (List A) ℕ
after_unit n more None = Err n
after_unit n more (Some v) = put_first v (more v)

-- the values of the units, of which the first has number n; `next` says how what may follow depends on a unit
abbrev pub read_units : {S A : Type 0} → (S → Parse A) → (S → A → S) → S → ℕ → List (List Tok) → Result (List A) ℕ
read_units p next s n [] = Ok []
read_units p next s n (u ∷ us) = after_unit n (λ v. read_units p next (next s v) (n + 1) us) (whole (p s) u)

-- each unit stands for its value, in the state that the units before it leave
abbrev pub AllFormed : {S A : Type 0} → (S → A → List Tok → Type 0) → (S → A → S) → S → List A → List (List Tok) → Type 0
AllFormed F next s [] [] = Unit {0}
AllFormed F next s [] (u ∷ us) = ⊥
AllFormed F next s (v ∷ vs) [] = ⊥
AllFormed F next s (v ∷ vs) (u ∷ us) = F s v u × AllFormed F next (next s v) vs us

-- the state behind some units
abbrev pub state_after : {S A : Type 0} → (S → A → S) → S → List A → S
state_after next s [] = s
state_after next s (v ∷ vs) = state_after next (next s v) vs

-- the unit with this number, from 1, is the first that is not in the grammar
pub record IsFirstBad {S A : Type 0} (F : S → A → List Tok → Type 0) (next : S → A → S) (s : S) (units : List (List Tok)) (n : ℕ) : Type 0 where
  pub before : List (List Tok)
  pub bad : List Tok
  pub behind : List (List Tok)
  pub values : List A
  pub is : units ≡ before ++ (bad ∷ behind)
  pub formed : AllFormed F next s values before
  pub not_formed : (v : A) → F (state_after next s values) v bad → ⊥
  pub number : n ≡ length before + 1

-- there is no unit, and the first is told
abbrev pub IsEmpty : List (List Tok) → ℕ → Type 0
IsEmpty units n = (units ≡ []) × (n ≡ 1)
