use Rattle.std.proofs.Common.{◌≡◌, take, List}
use Rattle.cql_model.specs.Scopes.{Named, scope_of}
use Rattle.cql_build.specs.Knowing.{Knows}
use Rattle.cql_text.specs.Tree.{sources_of}
use Rattle.cql_build.specs.Views.{scope}
use Rattle.cql_build.proofs.known.Known.scope.Given as goal

abbrev pub invariant-loop-source : goal.invariant-loop-source
invariant-loop-source l = (ks : List Named) → Knows l.self ks → scope l.items.items ≡ scope_of ks (sources_of (take l.source-index l.sources))
