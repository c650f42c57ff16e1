use Rattle.std.proofs.Common.{◌≡◌, take}
use Rattle.saw_model.specs.Plan.{queues_of as made}
use Rattle.saw_front.proofs.lists.queue_names.Given as goal

abbrev pub invariant-loop-table : goal.invariant-loop-table
invariant-loop-table l = l.list ≡ made (take l.table-index l.table-items)
