use Rattle.cql_build.proofs.Growing.{CrossesLeft}
use Rattle.cql_build.proofs.build.crosses.Given as goal

abbrev pub invariant-loop-i : goal.invariant-loop-i
invariant-loop-i l = CrossesLeft l.initial.raw l.raw l.query l.sources l.items l.last l.width l.i
