use Rattle.std.proofs.Common.{◌≡◌, ◌++◌, drop, map}
use Rattle.river_print.specs.Styles.{text_in}
use Rattle.work_code.specs.Printed.{more_items}
use Rattle.river_print.proofs.items.more_numbers.Given as goal

abbrev pub invariant-loop-number : goal.invariant-loop-number
invariant-loop-number l = l.to ++ more_items (map (text_in l.style) (drop l.number-index l.items)) ≡ l.initial.to ++ more_items (map (text_in l.style) l.items)
