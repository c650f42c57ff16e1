use Rattle.std.proofs.Common.{ℤ, List}
use Rattle.std.specs.List.Sorted.{IsSortedWithin}
use Rattle.std.specs.Ordering.{int_cmp, is_lt}
use Rattle.csv_streams.proofs.instant.is_in_turn.Given as goal

abbrev pub invariant-loop-place : goal.invariant-loop-place
invariant-loop-place l = IsSortedWithin (λ (x y : ℤ × List ℤ). is_lt (int_cmp x.0 y.0)) l.rows 0 l.place
