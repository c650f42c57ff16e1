use Rattle.std.proofs.Common.{List, length, ap, subst, arith}
use Rattle.std.proofs.lemmas.List.{length-map}
use Rattle.streamit_text.specs.Program.{unit_form, unit_forms, program_of}
use Rattle.streamit_text.specs.declared.program.Unit as code_unit
use Rattle.streamit_front.specs.Meaning.{accepted, Plans}
use Rattle.streamit_front.proofs.Fronts.{read-planned, read-some, read-few}
use Rattle.streamit_front.proofs.compile.compile_streamit.Goals as goal

-- a program has a unit
pub planned-requires-clause-some : goal.planned-requires-clause-some
planned-requires-clause-some c =
    let r = read-some c.args.text.now (program_of c.in_ok-program.program) c.in_ok-program.ensures.read in
    let n = length-map c.in_ok-program.program.units.items unit_form in
    let v = ap (λ (l : List code_unit.Unit). length l) c.as_slice.ensures.value in omega (arith, r, n, v)

-- and no more units than bytes
pub planned-requires-clause-few : goal.planned-requires-clause-few
planned-requires-clause-few c =
    let r = read-few c.args.text.now (program_of c.in_ok-program.program) c.in_ok-program.ensures.read in
    let n = length-map c.in_ok-program.program.units.items unit_form in
    let v = ap (λ (l : List code_unit.Unit). length l) c.as_slice.ensures.value in
    let f = c.requires in omega (arith, r, n, v, f)

-- the units that were read are those that are planned
pub returns-clause-plan : goal.returns-clause-plan
returns-clause-plan c =
    read-planned c.args.text.now (program_of c.in_ok-program.program) c.in_ok-plan.plan c.in_ok-program.ensures.read
    (subst (λ l. Plans (accepted (unit_forms l)) (unit_forms l) c.in_ok-plan.plan) c.as_slice.ensures.value c.in_ok-plan.ensures.plan)
