use Rattle.std.proofs.Common.{◌∙◌}
use Rattle.params_text.specs.Program.{unit_forms}
use Rattle.params_front.proofs.Fronts.{read-written, read-refused}
use Rattle.params_front.proofs.elaboration.written.Goals as goal

-- what was made of the units is made of the tokens
pub returns-in-Ok-clause-made : goal.returns-in-Ok-clause-made
returns-in-Ok-clause-made c =
    let are = c.as_slice.ensures.value ∙ c.in_ok-sizes.ensures in
    read-written c.args.tokens.now c.args.units.now c.as_slice.result.now c.in-Ok.written c.requires.read are c.in-Ok.ensures

-- the first fault of the units is that of the tokens
pub returns-in-Err-Program-clause-refused : goal.returns-in-Err-Program-clause-refused
returns-in-Err-Program-clause-refused c =
    let are = c.as_slice.ensures.value ∙ c.in_ok-sizes.ensures in
    let sizes = c.as_slice.result.now in
    let first = rw c.in-Err-Program.field-0-is at c.in-Err-Program.ensures in
    let told = c.fault.ensures (unit_forms c.args.units.now) sizes first in
    read-refused c.args.tokens.now c.args.units.now sizes c.fault.result c.requires.read are told
