use Rattle.cql_build.proofs.Querying.{Querying}
use Rattle.cql_build.proofs.queries.queries_among.Given as goal

abbrev pub invariant-loop-part : goal.invariant-loop-part
invariant-loop-part l = Querying l.initial.raw l.raw l.initial.uses l.uses l.units l.part-index l.known
