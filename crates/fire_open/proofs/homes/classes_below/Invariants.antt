use Rattle.fire_open.specs.Homes.{AreClassesOf}
use Rattle.fire_open.proofs.homes.classes_below.Given as goal

abbrev pub invariant-loop-class : goal.invariant-loop-class
invariant-loop-class l = AreClassesOf l.classes l.tables l.class l.own
