use Rattle.std.proofs.Common.{◌≡◌, take, map}
use Rattle.work_code.specs.Term.{term}
use Rattle.work_code.specs.Calcs.{calc_term}
use Rattle.work_code.proofs.acts.calcs_of.Given as goal

abbrev pub invariant-loop-e : goal.invariant-loop-e
invariant-loop-e l = map calc_term l.calcs.items ≡ map term (take l.e-index l.e-items)
