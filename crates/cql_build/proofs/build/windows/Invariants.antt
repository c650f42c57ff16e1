use Rattle.cql_build.proofs.Growing.{WindowsLeft}
use Rattle.cql_build.proofs.build.windows.Given as goal

abbrev pub invariant-loop-i : goal.invariant-loop-i
invariant-loop-i l = WindowsLeft l.initial.raw l.raw l.initial.uses l.uses l.query l.sources l.items l.i
