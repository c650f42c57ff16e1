use Rattle.std.proofs.Common.{drop, map}
use Rattle.river_print.specs.Writable.{Every}
use Rattle.work_code.specs.Term.{term}
use Rattle.river_print.specs.Ranged.{IsRangedTerm}
use Rattle.river_print.proofs.ranges.read_exprs.Given as goal

abbrev pub invariant-loop-item : goal.invariant-loop-item
invariant-loop-item l = Every IsRangedTerm (map term (drop l.item-index l.items)) → Every IsRangedTerm (map term l.items)
