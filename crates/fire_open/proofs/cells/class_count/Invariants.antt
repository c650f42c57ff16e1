use Rattle.std.proofs.Common.{take}
use Rattle.fire_open.proofs.ClassLemmas.{Counted}
use Rattle.fire_open.proofs.cells.class_count.Given as goal

abbrev pub invariant-loop-class : goal.invariant-loop-class
invariant-loop-class l = Counted (take l.class-index l.class-items) l.count
