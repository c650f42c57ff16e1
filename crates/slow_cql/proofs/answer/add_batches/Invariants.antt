use Rattle.std.proofs.Common.{◌≡◌, take}
use Rattle.cql_model.specs.Streams.{at_last, last_instant, as_stream, spread}
use Rattle.cql_text.specs.Tree.{query_of}
use Rattle.slow_cql.specs.Contents.{content_over}
use Rattle.slow_cql.proofs.answer.add_batches.Given as goal

abbrev pub invariant-loop-at : goal.invariant-loop-at
invariant-loop-at l = record {
  before : l.before ≡ at_last (content_over l.inputs (query_of l.query)) (last_instant (take l.at-index l.instants));
  items : l.items ≡ spread (take l.at-index l.instants) (as_stream l.query.kind l.instants (content_over l.inputs (query_of l.query)));
}
