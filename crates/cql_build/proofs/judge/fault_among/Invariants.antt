use Rattle.std.proofs.Common.{◌≤◌}
use Rattle.cql_build.proofs.Units.{Judging}
use Rattle.cql_build.proofs.judge.fault_among.Given as goal

abbrev pub invariant-loop-i : goal.invariant-loop-i
invariant-loop-i l = record { low : l.many ≤ l.i; judging : Judging l.units l.i l.many l.known }
