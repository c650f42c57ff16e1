use Rattle.std.proofs.Common.{◌∙◌}
use Rattle.text_forms.proofs.Many.{comma-more}
use Rattle.cql_text.specs.Tree.{source_of}
use Rattle.cql_text.proofs.Units.{exact-source, comma-source}
use Rattle.cql_text.proofs.window.sources.Goals as goal

-- one more
pub items-preserved : goal.items-preserved
items-preserved c =
    comma-more exact-source comma-source source_of c.items.list.items c.push-in-items.new.self.items _ c.items.reader c.takes.new.self
    c.source-in-items.new.reader c.takes.result
    c.in_ok-push-2.ensures.items c.items-test.true c.takes.ensures.taken c.takes.ensures.rest c.in_ok-stream.ensures
    ∙ c.items.invariant
