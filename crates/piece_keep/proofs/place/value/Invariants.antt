use Rattle.std.proofs.Common.{◌≡◌, ◌-◌, ◌^◌, ℕ, min, drop}
use Rattle.csv_streams.specs.Number.{value_after}
use Rattle.piece_keep.proofs.place.value.Given as goal

abbrev pub invariant-loop-d : goal.invariant-loop-d
invariant-loop-d l = (v : ℕ) × (l.n ≡ min v (2 ^ 64 - 1)) × (value_after v (drop l.d-index l.digits) ≡ value_after 0 l.digits)
