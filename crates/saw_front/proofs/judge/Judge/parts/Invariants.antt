use Rattle.std.proofs.Common.{drop}
use Rattle.saw_model.specs.Judged.{units_judged}
use Rattle.saw_text.specs.Tree.{unit_forms}
use Rattle.saw_front.specs.Judging.{at_of}
use Rattle.saw_front.proofs.JudgedUnits.{PartsSoFar}
use Rattle.saw_front.proofs.judge.Judge.parts.Given as goal

abbrev pub invariant-loop-i : goal.invariant-loop-i
invariant-loop-i l =
    PartsSoFar (units_judged 1 (unit_forms l.units) (at_of l.initial.self)) l.i (unit_forms (drop l.i l.units)) l.self l.initial.out l.out
