-- How often names stand in lists.
use Rattle.std.specs.Prelude.{◌≡◌, ℕ, ◌+◌, ◌<◌, ◌≤◌, Bool, true, false, List, [], ◌∷◌, ◌++◌, nat_lt, if◌then◌else◌}
use Rattle.river_base.specs.Name.{name_eq}
use Rattle.river_plan.specs.Forms.{Name}

abbrev pub one_if : Bool → ℕ
one_if true = 1
one_if false = 0

-- how often the name stands in the list
abbrev pub count : Name → List Name → ℕ
count q [] = 0
count q (w ∷ ws) = one_if (name_eq w q) + count q ws

-- the names, with this one behind them where it is not there yet
abbrev pub with_name : List Name → Name → List Name
with_name ws w = if nat_lt 0 (count w ws) then ws else ws ++ w ∷ []

-- at most once, and never where it is given
abbrev pub IsUsedOnce : (given uses : ℕ) → Type 0
IsUsedOnce given uses = (uses ≤ 1) × (0 < given → uses ≡ 0)
