use Rattle.std.proofs.Common.{◌≡◌, ◌++◌, drop, map}
use Rattle.work_code.specs.Term.{term}
use Rattle.work_code.specs.Printed.{text_of, more_items}
use Rattle.river_print.proofs.printing.write_more.Given as goal

abbrev pub invariant-loop-item : goal.invariant-loop-item
invariant-loop-item l = l.to ++ more_items (map text_of (map term (drop l.item-index l.items))) ≡ l.initial.to ++ more_items (map text_of (map term l.items))
