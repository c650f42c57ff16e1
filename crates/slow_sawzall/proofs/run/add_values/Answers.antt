use Rattle.std.proofs.Common.{arith}
use Rattle.saw_model.specs.Meaning.{eval as value_said}
use Rattle.saw_text.specs.Tree.{expression}
use Rattle.slow_sawzall.specs.Sawzall.{named_values}
use Rattle.slow_sawzall.proofs.Runs.{values_at, pushed_value, values_next}
use Rattle.slow_sawzall.proofs.run.add_values.Goals as goal

pub value-requires : goal.value-requires
value-requires c = values_at c.args.es.now c.loop-e.e-index c.e-item.result (omega arith) c.e-item.is c.requires

pub loop-e-preserved : goal.loop-e-preserved
loop-e-preserved c =
    let now = c.loop-e.values.items in
    values_next c.args.es.now c.loop-e.e-index c.e-item.result c.args.row.now
    (named_values c.args.locals.now) c.args.values.now.items now c.push.new.self.items (omega arith) c.e-item.is
    (pushed_value now c.push.new.self.items c.value.result (value_said (expression c.e-item.result) c.args.row.now (named_values c.args.locals.now))
    (record { sfits = c.value.type_inv }) (c.in_ok-push.ensures {u = tt}).items c.value.ensures)
    c.loop-e.invariant
