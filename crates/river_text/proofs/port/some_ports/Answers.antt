use Rattle.std.proofs.Common.{◌∙◌}
use Rattle.text_forms.proofs.Many.{comma-more}
use Rattle.river_text.specs.Listed.{port_of}
use Rattle.river_text.proofs.Plans.{exact-port}
use Rattle.river_text.proofs.port.some_ports.Goals as goal

-- one more
pub items-preserved : goal.items-preserved
items-preserved c =
    comma-more exact-port
    (λ rest. tt) port_of c.items.list c.push-in-items.new.self c.in_ok-one_port-2.field-0 c.items.reader c.takes.new.self c.one_port-in-items.new.reader
    c.takes.result
    c.in_ok-push-2.ensures.ok c.items-test.true c.takes.ensures.taken c.takes.ensures.rest c.in_ok-one_port-2.ensures
    ∙ c.items.invariant
