use Rattle.std.proofs.Common.{◌≡◌, pos, take, map}
use Rattle.brooklet_run.proofs.ending.as_values.Given as goal

abbrev pub invariant-loop-count : goal.invariant-loop-count
invariant-loop-count l = l.values ≡ map pos (take l.count-index l.count-items)
