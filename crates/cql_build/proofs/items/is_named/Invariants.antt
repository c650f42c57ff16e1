use Rattle.std.proofs.Common.{◌≡◌, take, List}
use Rattle.river_plan.specs.Names.{count}
use Rattle.cql_model.specs.Laws.{known_names}
use Rattle.cql_model.specs.Scopes.{Named, scope_of}
use Rattle.cql_text.specs.Tree.{sources_of}
use Rattle.cql_build.proofs.items.is_named.Given as goal

abbrev pub invariant-loop-source : goal.invariant-loop-source
invariant-loop-source l = (ks : List Named) → count l.name (known_names (scope_of ks (sources_of (take l.source-index l.sources)))) ≡ 0
