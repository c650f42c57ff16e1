use Rattle.std.proofs.Common.{◌≡◌, drop, map}
use Rattle.work_code.specs.Steps.{step, in_turn}
use Rattle.stream_periods.specs.Periods.{any_sets_below}
use Rattle.rate_code.proofs.filters.+sets.Given as goal

abbrev pub invariant-sets_below-loop-s : goal.invariant-sets_below-loop-s
invariant-sets_below-loop-s l = any_sets_below l.n (in_turn (map step (drop l.s-index l.s-items))) ≡ any_sets_below l.n (in_turn (map step l.s-items))
