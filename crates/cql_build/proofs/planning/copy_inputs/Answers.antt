use Rattle.cql_build.proofs.Filled.{narrow_at}
use Rattle.cql_build.proofs.planning.copy_inputs.Goals as goal

pub copy_unit-requires-clause-narrow : goal.copy_unit-requires-clause-narrow
copy_unit-requires-clause-narrow c =
    narrow_at c.args.units.now c.loop-part.part-index c.part-item.result c.requires.narrow c.loop-part-test.true c.part-item.is
