use Rattle.std.proofs.Common.{sym, ap, ◌∙◌, take_all}
use Rattle.std.specs.Prelude.{nat_lt}
use Rattle.river_base.specs.Name.{name_eq}
use Rattle.river_plan.specs.Names.{count}
use Rattle.cql_model.specs.Laws.{known_names}
use Rattle.cql_model.specs.Scopes.{scope_of}
use Rattle.cql_text.specs.Tree.{sources_of}
use Rattle.cql_build.proofs.Judging.{name_there, name_next}
use Rattle.cql_build.proofs.items.is_named.Goals as goal

pub returns-then-eq : goal.returns-then-eq
returns-then-eq c = λ ks. name_there ks c.args.name c.args.sources.now c.loop-source.source-index c.source-item.result c.loop-source-test.true c.source-item.is
    (ap (λ n. name_eq n c.args.name) (sym c.item_name.ensures) ∙ sym c.eq.ensures ∙ c.if-eq.true)

pub loop-source-preserved : goal.loop-source-preserved
loop-source-preserved c =
    λ ks. name_next ks c.args.name c.args.sources.now c.loop-source.source-index c.source-item.result c.loop-source-test.true c.source-item.is
    (ap (λ n. name_eq n c.args.name) (sym c.item_name.ensures) ∙ sym c.eq.ensures ∙ c.if-eq.false) (c.loop-source.invariant ks)

pub returns : goal.returns
returns c = λ ks.
    let e = ap (λ l. count c.args.name (known_names (scope_of ks (sources_of l))))
    (sym (take_all c.loop-source.source-index c.args.sources.now c.loop-source-test.false)) ∙ c.loop-source.invariant ks in
    ap (nat_lt 0) (sym e)
