use Rattle.std.proofs.Common.{◌≡◌, ◌++◌, take}
use Rattle.cql_model.specs.Plan.{decls_of}
use Rattle.cql_build.proofs.output.declare.Given as goal

abbrev pub invariant-loop-name : goal.invariant-loop-name
invariant-loop-name l = l.to ≡ l.initial.to ++ decls_of (take l.name-index l.names) l.kind
