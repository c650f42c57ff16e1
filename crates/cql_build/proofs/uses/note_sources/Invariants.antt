use Rattle.std.proofs.Common.{◌≡◌, ◌++◌, drop}
use Rattle.cql_model.specs.Program.{streams_of}
use Rattle.cql_text.specs.Tree.{sources_of}
use Rattle.cql_build.proofs.uses.note_sources.Given as goal

abbrev pub invariant-loop-source : goal.invariant-loop-source
invariant-loop-source l = l.initial.to ++ streams_of (sources_of l.sources) ≡ l.to ++ streams_of (sources_of (drop l.source-index l.sources))
