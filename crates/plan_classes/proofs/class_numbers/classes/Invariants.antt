use Rattle.std.proofs.Common.{take}
use Rattle.plan_classes.proofs.Numbering.{IsNumbered}
use Rattle.plan_classes.proofs.class_numbers.classes.Given as goal

abbrev pub invariant-loop-list : goal.invariant-loop-list
invariant-loop-list l = IsNumbered (take l.list-index l.list-items) l.seen l.classes
