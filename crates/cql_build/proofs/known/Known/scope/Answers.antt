use Rattle.std.proofs.Common.{rules, ap, ◌∙◌, take_all}
use Rattle.cql_model.specs.Scopes.{scope_of}
use Rattle.cql_text.specs.Tree.{sources_of}
use Rattle.cql_build.proofs.Judging.{items_next}
use Rattle.cql_build.proofs.known.Known.scope.Goals as goal

pub loop-source-preserved : goal.loop-source-preserved
loop-source-preserved c = λ ks k.
    items_next ks c.args.sources.now c.loop-source.source-index c.source-item.result c.loop-source.items.items _ c.item.result
    c.loop-source-test.true c.source-item.is
    (c.loop-source.invariant ks k) (search rules) (c.item.ensures ks k)

pub returns : goal.returns
returns c = λ ks k. c.loop-source.invariant ks k
    ∙ ap (λ l. scope_of ks (sources_of l)) (take_all c.loop-source.source-index c.args.sources.now c.loop-source-test.false)
