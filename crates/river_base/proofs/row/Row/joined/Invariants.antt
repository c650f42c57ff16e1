use Rattle.std.proofs.Common.{◌≡◌, ◌++◌, take}
use Rattle.river_base.proofs.row.Row.joined.Given as goal

abbrev pub invariant-loop-value : goal.invariant-loop-value
invariant-loop-value l = l.all ≡ l.self ++ take l.value-index l.value-items
