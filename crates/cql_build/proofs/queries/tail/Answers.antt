use Rattle.cql_text.specs.Tree.{query_of}
use Rattle.cql_build.specs.Views.{scope}
use Rattle.cql_build.proofs.Growing.{on_ok_then}
use Rattle.cql_build.proofs.Querying.{tail_made}
use Rattle.cql_build.proofs.queries.tail.Goals as goal

pub returns : goal.returns
returns c =
    on_ok_then c.output.result
    (tail_made c.args.raw.now c.select.new.raw c.project.new.raw c.output.new.raw (query_of c.args.query.now) (scope c.args.items.now) c.args.used
    c.args.last c.in_ok-last.last c.in_ok-last-2.last
    c.columns_width-width.result c.in_ok-last.ensures.last c.in_ok-last-2.ensures.last c.columns_width-width.ensures c.in_ok-last.ensures.grew
    c.in_ok-last-2.ensures.grew)
    c.output.ensures
