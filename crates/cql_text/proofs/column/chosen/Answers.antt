use Rattle.std.proofs.Common.{◌∙◌}
use Rattle.text_forms.proofs.Many.{comma-more}
use Rattle.cql_text.specs.Tree.{column_of}
use Rattle.cql_text.proofs.Units.{exact-column, comma-column}
use Rattle.cql_text.proofs.column.chosen.Goals as goal

-- one more
pub items-preserved : goal.items-preserved
items-preserved c =
    comma-more exact-column comma-column column_of c.items.list.items c.push-in-items.new.self.items c.in_ok-column-2.field-0 c.items.reader c.takes.new.self
    c.column-in-items.new.reader c.takes.result
    c.in_ok-push-2.ensures.items c.items-test.true c.takes.ensures.taken c.takes.ensures.rest c.in_ok-column-2.ensures
    ∙ c.items.invariant
