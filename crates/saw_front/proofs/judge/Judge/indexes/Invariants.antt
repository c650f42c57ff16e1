use Rattle.work_code.specs.Term.{terms}
use Rattle.saw_front.specs.Judging.{at_of}
use Rattle.saw_front.proofs.Rows.{IndexesSoFar}
use Rattle.saw_front.proofs.judge.Judge.indexes.Given as goal

abbrev pub invariant-loop-i : goal.invariant-loop-i
invariant-loop-i l = IndexesSoFar (at_of l.self).scope l.indexes l.i (terms l.list)
