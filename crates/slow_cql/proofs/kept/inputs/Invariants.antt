use Rattle.std.proofs.Common.{ℤ, List, take}
use Rattle.cql_model.specs.Meaning.{KnownStream}
use Rattle.cql_model.specs.Streams.{Rises}
use Rattle.cql_text.specs.Tree.{sources_of}
use Rattle.slow_cql.specs.Kept.{StandsKept, AreInputsOf}
use Rattle.slow_cql.proofs.kept.inputs.Given as goal

abbrev pub invariant-loop-source : goal.invariant-loop-source
invariant-loop-source l = (ts : List ℤ) (ks : List KnownStream) → Rises ts → StandsKept ts l.known ks
    → AreInputsOf ts ks (sources_of (take l.source-index l.sources)) l.inputs.items
