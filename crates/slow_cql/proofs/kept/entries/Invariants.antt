use Rattle.std.proofs.Common.{◌≡◌, take}
use Rattle.slow_cql.specs.Kept.{entries_in}
use Rattle.slow_cql.proofs.kept.entries.Given as goal

abbrev pub invariant-loop-item : goal.invariant-loop-item
invariant-loop-item l = l.all ≡ entries_in (take l.item-index l.items)
