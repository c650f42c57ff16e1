use Rattle.std.proofs.Common.{List, length, ap, subst, arith}
use Rattle.std.proofs.lemmas.List.{length-map}
use Rattle.cql_text.specs.Tree.{unit_form, unit_forms, program_of}
use Rattle.cql_text.specs.declared.tree.Unit as code_unit
use Rattle.cql_front.specs.Meaning.{accepted, Plans}
use Rattle.cql_front.proofs.Fronts.{read-planned, read-few}
use Rattle.cql_front.proofs.compile.compile_cql.Goals as goal

-- a program has no more units than bytes
pub planned-requires-clause-few : goal.planned-requires-clause-few
planned-requires-clause-few c =
    let r = read-few c.args.text.now (program_of c.in_ok-program.program) c.in_ok-program.ensures.read in
    let n = length-map c.in_ok-program.program.units.items unit_form in
    let v = ap (λ (l : List code_unit.Unit). length l) c.as_slice.ensures.value in
    let f = c.requires in omega (arith, r, n, v, f)

-- the units that were read are those that are planned
pub returns-clause-plan : goal.returns-clause-plan
returns-clause-plan c =
    read-planned c.args.text.now (program_of c.in_ok-program.program) c.in_ok-plan.plan c.in_ok-program.ensures.read
    (subst (λ l. Plans (accepted (unit_forms l)) (unit_forms l) c.in_ok-plan.plan) c.as_slice.ensures.value c.in_ok-plan.ensures.plan)
