use Rattle.std.proofs.Common.{◌≡◌, ◌++◌, drop}
use Rattle.work_code.specs.Printed.{more_items}
use Rattle.river_print.proofs.items.more_queues.Given as goal

abbrev pub invariant-loop-item : goal.invariant-loop-item
invariant-loop-item l = l.to ++ more_items (drop l.item-index l.items) ≡ l.initial.to ++ more_items l.items
