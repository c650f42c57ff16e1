use Rattle.std.proofs.Common.{◌≡◌, ◌-◌, ◌++◌}
use Rattle.cql_model.specs.Plan.{copy_names}
use Rattle.cql_build.proofs.output.copies.Given as goal

abbrev pub invariant-loop-k : goal.invariant-loop-k
invariant-loop-k l = copy_names l.base 0 l.count ≡ l.names ++ copy_names l.base l.k (l.count - l.k)
