use Rattle.std.proofs.Common.{◌≡◌, ◌++◌, [], take, drop, map}
use Rattle.work_code.specs.Calcs.{calc_term}
use Rattle.work_code.specs.Value.{val}
use Rattle.work_code.proofs.formula.values_to.Given as goal

abbrev pub invariant-loop-i : goal.invariant-loop-i
invariant-loop-i l = l.to ≡ map (λ t. val t l.row []) (map calc_term (take l.i l.calcs)) ++ drop l.i l.initial.to
