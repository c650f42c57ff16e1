use Rattle.std.proofs.Common.{◌≡◌, ◌++◌, drop}
use Rattle.cql_model.specs.Plan.{input_decls}
use Rattle.cql_text.specs.Tree.{unit_forms}
use Rattle.cql_build.proofs.planning.declare_inputs.Given as goal

abbrev pub invariant-loop-part : goal.invariant-loop-part
invariant-loop-part l = l.initial.to ++ input_decls (unit_forms l.units) ≡ l.to ++ input_decls (unit_forms (drop l.part-index l.units))
