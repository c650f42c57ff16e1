use Rattle.std.proofs.Common.{◌≤◌, List}
use Rattle.cql_model.specs.Scopes.{Named}
use Rattle.cql_build.specs.Knowing.{Knows}
use Rattle.cql_build.proofs.Judging.{SoFar}
use Rattle.cql_build.proofs.known.Known.items_fault.Given as goal

abbrev pub invariant-loop-i : goal.invariant-loop-i
invariant-loop-i l = record { low : l.width ≤ 16; so_far : (ks : List Named) → Knows l.self ks → SoFar ks l.sources l.i l.width }
