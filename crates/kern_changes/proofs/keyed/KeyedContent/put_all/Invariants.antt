use Rattle.std.proofs.Common.{take}
use Rattle.kern_changes.specs.Counted.{CameAll}
use Rattle.kern_changes.proofs.keyed.KeyedContent.put_all.Given as goal

abbrev pub invariant-loop-row : goal.invariant-loop-row
invariant-loop-row l = CameAll (take l.row-index l.rows) l.initial.self l.self
