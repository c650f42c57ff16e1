use Rattle.std.proofs.Common.{◌≡◌, take}
use Rattle.std.specs.Prelude.{map}
use Rattle.work_code.specs.Term.{term, terms}
use Rattle.work_code.proofs.expr.Exprs.copy.Given as goal

abbrev pub invariant-loop-x : goal.invariant-loop-x
invariant-loop-x l = terms l.copies ≡ map term (take l.x-index l.x-items)
