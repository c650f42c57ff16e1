-- Rounds in other words.
use Rattle.std.specs.Prelude.{◌≡◌, ℕ, ◌≤◌, ◌⊎◌, true, List, length}
use Rattle.std.specs.List.{list_any}
use Rattle.river_base.specs.Name.{name_eq}
use Rattle.free_model.specs.Apart.{Every, IsRound}
use Rattle.free_model.specs.Forms.{FreeForm}
use Rattle.free_model.specs.Machine.{State}
use Rattle.free_model.specs.Rounds.{choices, cells_at, shares, round_of}

-- there are as many firings as workers, or one of them shares an operator or a cell with the choice
abbrev pub IsLeft : FreeForm → ℕ → List (ℕ × ℕ) → ℕ × ℕ → Type 0
IsLeft p workers es c = (workers ≤ length es) ⊎ (list_any (λ k. shares name_eq (cells_at p) k c) es ≡ true)

-- a round that has no room for a further choice: at most so many firings, each ready, of which no two share anything
pub record IsGreatest (p : FreeForm) (workers : ℕ) (s : State) (es : List (ℕ × ℕ)) : Type 0 where
  pub few : length es ≤ workers
  pub round : IsRound p s es
  pub full : Every (IsLeft p workers es) (choices p s)

abbrev pub RoundsAreGreatest : Type 0
RoundsAreGreatest = (p : FreeForm) (workers pick : ℕ) (s : State) → IsGreatest p workers s (round_of p workers pick s)
