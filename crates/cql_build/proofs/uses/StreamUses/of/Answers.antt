use Rattle.cql_build.proofs.Noting.{noted_start, noted_next, noted_inputs, noted_uses}
use Rattle.cql_build.proofs.uses.StreamUses.of.Goals as goal

pub loop-part-init : goal.loop-part-init
loop-part-init c = noted_start c.args.units.now _ c.new.ensures c.new-2.ensures c.new-3.ensures

pub loop-part-preserved : goal.loop-part-preserved
loop-part-preserved c =
    noted_next c.args.units.now c.loop-part.part-index c.part-item.result c.loop-part.uses c.note.new.self c.loop-part.invariant
    c.loop-part-test.true c.part-item.is (c.in_ok-note.ensures {u = tt})

pub returns-clause-inputs : goal.returns-clause-inputs
returns-clause-inputs c = noted_inputs c.args.units.now c.loop-part.part-index c.loop-part.uses c.loop-part.invariant c.loop-part-test.false

pub returns-clause-all : goal.returns-clause-all
returns-clause-all c = noted_uses c.args.units.now c.loop-part.part-index c.loop-part.uses c.loop-part.invariant c.loop-part-test.false

pub returns-clause-past : goal.returns-clause-past
returns-clause-past c = c.loop-part.invariant.past
