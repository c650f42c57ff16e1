use Rattle.cql_build.proofs.Filled.{Copying}
use Rattle.cql_build.proofs.planning.copy_inputs.Given as goal

abbrev pub invariant-loop-part : goal.invariant-loop-part
invariant-loop-part l = Copying l.initial.raw l.raw l.uses.all l.units l.part-index
