use Rattle.std.proofs.Common.{◌≡◌, [], drop, take}
use Rattle.cql_model.specs.Judged.{fields_fault}
use Rattle.cql_build.proofs.judge.fields_fault.Given as goal

abbrev pub invariant-loop-i : goal.invariant-loop-i
invariant-loop-i l = fields_fault [] l.fields ≡ fields_fault (take l.i l.fields) (drop l.i l.fields)
