use Rattle.slow_cql.proofs.Instants.{sorted_rise, sorted_mean}
use Rattle.slow_cql.proofs.program.mean_cql.Goals as goal

pub outputs-requires-clause-rises : goal.outputs-requires-clause-rises
outputs-requires-clause-rises c = sorted_rise c.args.files.now c.in_ok-instants.instants c.in_ok-instants.ensures

pub returns-clause-outs : goal.returns-clause-outs
returns-clause-outs c =
    sorted_mean c.as_slice.result.now c.args.program.now.units.items c.as_slice-2.result.now c.args.files.now c.in_ok-instants.instants c.in_ok-outs.outs
    c.in_ok-instants.ensures c.as_slice.ensures.value
    c.as_slice-2.ensures c.in_ok-outs.ensures
