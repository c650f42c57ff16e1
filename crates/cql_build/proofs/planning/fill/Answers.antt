use Rattle.std.proofs.Common.{[]}
use Rattle.cql_text.specs.Tree.{unit_forms}
use Rattle.cql_build.proofs.Filled.{narrow_all}
use Rattle.cql_build.proofs.planning.fill.Goals as goal

pub declare_inputs-requires : goal.declare_inputs-requires
declare_inputs-requires c = narrow_all [] (unit_forms c.args.units.now) c.requires.accepted.queries

pub copy_inputs-requires-clause-narrow : goal.copy_inputs-requires-clause-narrow
copy_inputs-requires-clause-narrow c = narrow_all [] (unit_forms c.args.units.now) c.requires.accepted.queries
