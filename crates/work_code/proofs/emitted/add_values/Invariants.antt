use Rattle.std.proofs.Common.{◌≡◌, ◌++◌, take, map}
use Rattle.work_code.specs.Calcs.{calc_term}
use Rattle.work_code.specs.Value.{val}
use Rattle.work_code.proofs.emitted.add_values.Given as goal

abbrev pub invariant-loop-e : goal.invariant-loop-e
invariant-loop-e l = l.values.items ≡ l.initial.values.items ++ map (λ t. val t l.input l.slots) (take l.e-index (map calc_term l.row))
