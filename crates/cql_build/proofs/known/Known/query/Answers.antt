use Rattle.std.proofs.Common.{◌≤◌, sym, ap, ◌∙◌, subst, arith}
use Rattle.cql_model.specs.Scopes.{scope_of}
use Rattle.cql_model.specs.Plan.{widths_of}
use Rattle.cql_text.specs.Tree.{sources_of}
use Rattle.cql_build.specs.Views.{scope}
use Rattle.cql_build.proofs.Querying.{items_are, sources_length}
use Rattle.cql_build.proofs.known.Known.query.Goals as goal

pub query_on-requires-clause-some : goal.query_on-requires-clause-some
query_on-requires-clause-some c =
    let g = c.requires.good in
    let xs = c.args.query.now.items.items in
    let is = ap scope c.as_slice-2.ensures.value ∙ c.in_ok-items.ensures g.0 g.1 ∙ ap (λ l. scope_of g.0 (sources_of l)) c.as_slice.ensures.value in
    let some = g.2.some in
    let written = sources_length xs in
    let each = items_are g.0 xs _ is in
    omega (arith, some, written, each)

pub query_on-requires-clause-each : goal.query_on-requires-clause-each
query_on-requires-clause-each c =
    let g = c.requires.good in
    let is = ap scope c.as_slice-2.ensures.value ∙ c.in_ok-items.ensures g.0 g.1 ∙ ap (λ l. scope_of g.0 (sources_of l)) c.as_slice.ensures.value in
    items_are g.0 c.args.query.now.items.items _ is

pub query_on-requires-clause-narrow : goal.query_on-requires-clause-narrow
query_on-requires-clause-narrow c =
    let g = c.requires.good in
    let is = ap scope c.as_slice-2.ensures.value ∙ c.in_ok-items.ensures g.0 g.1 ∙ ap (λ l. scope_of g.0 (sources_of l)) c.as_slice.ensures.value in
    subst (λ l. widths_of l ≤ 16) (sym is) g.2.product

pub returns-clause-grew : goal.returns-clause-grew
returns-clause-grew c = λ ks k.
    c.query_on.ensures.grew ks (ap scope c.as_slice-2.ensures.value ∙ c.in_ok-items.ensures ks k
    ∙ ap (λ l. scope_of ks (sources_of l)) c.as_slice.ensures.value)
