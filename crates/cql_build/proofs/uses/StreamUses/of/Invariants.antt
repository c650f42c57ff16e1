use Rattle.cql_build.proofs.Noting.{Noted}
use Rattle.cql_build.proofs.uses.StreamUses.of.Given as goal

abbrev pub invariant-loop-part : goal.invariant-loop-part
invariant-loop-part l = Noted l.units l.part-index l.uses
