use Rattle.cql_build.proofs.Filled.{narrow_at}
use Rattle.cql_build.proofs.planning.declare_inputs.Goals as goal

pub declare_input-requires : goal.declare_input-requires
declare_input-requires c =
    narrow_at c.args.units.now c.loop-part.part-index c.part-item.result c.requires c.loop-part-test.true c.part-item.is
