-- Keys with what stands at them.
use Rattle.std.specs.Prelude.{ℕ, ℤ, ◌≤◌, List, map, flat_map, take, drop, length}
use Rattle.std.specs.List.{AllByRecursion}
use Rattle.river_base.specs.Bags.{put_in_order}
use Rattle.kern_tables.specs.declared.ranked.Ranked.{Ranked}
use Rattle.kern_tables.specs.Tables.{ranked_in, ranks_before, sum_row, ranked_row}

-- a row as a key and what follows it
abbrev pub split : ℕ → List ℤ → List ℤ × List ℤ
split keys row = (take keys row, drop keys row)

abbrev pub splits : ℕ → List (List ℤ) → List (List ℤ × List ℤ)
splits keys adds = map (split keys) adds

-- one more among the best
abbrev pub best_more : ℕ → List Ranked → List ℤ → List Ranked
best_more best kept rest = take best (put_in_order ranks_before (ranked_in rest) kept)

abbrev pub sum_rows : List (List ℤ × ℤ) → List (List ℤ)
sum_rows es = map (λ e. sum_row e.0 e.1) es

abbrev pub maximum_rows : List (List ℤ × List Ranked) → List (List ℤ)
maximum_rows es = flat_map (λ e. map (ranked_row e.0) e.1) es

-- each key has at most so many values
abbrev pub AreShort : {V : Type 0} → ℕ → List (List ℤ × V) → Type 0
AreShort n es = AllByRecursion (λ e. length e.0 ≤ n) es
