use Rattle.std.proofs.Common.{rules}
use Rattle.saw_model.specs.Meaning.{tables_in}
use Rattle.saw_text.specs.Tree.{unit_forms}
use Rattle.saw_front.proofs.Planned.{tables_next, tables_end}
use Rattle.saw_front.proofs.lists.tables.Goals as goal

pub loop-unit-preserved : goal.loop-unit-preserved
loop-unit-preserved c =
    tables_next c.args.units.now c.loop-unit.unit-index c.unit-item.result c.loop-unit.list c.add_table.new.list (tables_in (unit_forms c.args.units.now))
    (search rules) c.unit-item.is (c.in_ok-add_table.ensures {u = tt}) c.loop-unit.invariant

pub returns : goal.returns
returns c =
    tables_end c.args.units.now c.loop-unit.unit-index c.loop-unit.list (tables_in (unit_forms c.args.units.now)) (search rules) c.loop-unit.invariant
