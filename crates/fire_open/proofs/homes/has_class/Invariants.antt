use Rattle.std.proofs.Common.{◌≡◌, ◌<◌, ℕ, Some}
use Rattle.std.specs.Prelude.{slice_get, slice_index_or}
use Rattle.fire_open.proofs.homes.has_class.Given as goal

abbrev pub invariant-loop-table : goal.invariant-loop-table
invariant-loop-table l = (j m : ℕ) → j < l.table-index → slice_get l.tables j ≡ Some m → slice_index_or l.classes m 0 ≡ l.class → ⊥
