use Rattle.std.proofs.Common.{arith}
use Rattle.std.proofs.lemmas.List.{length-map}
use Rattle.cql_text.specs.Tree.{unit_form, unit_forms}
use Rattle.cql_front.proofs.Fronts.{planned-low}
use Rattle.cql_front.proofs.compile.planned.Goals as goal

-- the unit of a refusal is one of the program
pub fault-requires : goal.fault-requires
fault-requires c =
    let h = rw c.in-Err-Program.field-0-is at c.in-Err-Program.ensures.refused in
    let l = planned-low (unit_forms c.args.units.now) c.in-Err-Program.refusal h in
    let n = length-map c.args.units.now unit_form in
    let f = c.requires.few in omega (arith, l, n, f)
