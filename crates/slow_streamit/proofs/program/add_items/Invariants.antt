use Rattle.std.proofs.Common.{◌≡◌, take}
use Rattle.streamit_model.specs.Laws.{as_items}
use Rattle.slow_streamit.proofs.program.add_items.Given as goal

abbrev pub invariant-loop-value : goal.invariant-loop-value
invariant-loop-value l = l.items ≡ as_items (take l.value-index l.values)
