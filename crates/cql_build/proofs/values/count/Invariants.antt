use Rattle.std.proofs.Common.{◌≡◌, ◌≤◌, take}
use Rattle.river_plan.specs.Names.{count}
use Rattle.cql_build.proofs.values.count.Given as goal

abbrev pub invariant-loop-other : goal.invariant-loop-other
invariant-loop-other l = record { is : l.n ≡ count l.name (take l.other-index l.names); low : l.n ≤ l.other-index }
