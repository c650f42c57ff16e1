use Rattle.std.proofs.Common.{◌≡◌, ℕ, drop}
use Rattle.csv_streams.specs.Number.{capped, value_after}
use Rattle.csv_streams.proofs.number.magnitude.Given as goal

abbrev pub invariant-loop-d : goal.invariant-loop-d
invariant-loop-d l = (v : ℕ) × (l.n ≡ capped v) × (value_after v (drop l.d-index l.digits) ≡ value_after 0 l.digits)
