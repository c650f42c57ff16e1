use Rattle.std.proofs.Common.{subst}
use Rattle.saw_text.specs.Tree.{unit_forms}
use Rattle.saw_front.specs.Meaning.{accepted, Plans}
use Rattle.saw_front.proofs.Fronts.{read-planned}
use Rattle.saw_front.proofs.compile.compile_sawzall.Goals as goal

-- the units that were read are those that are planned
pub returns-clause-plan : goal.returns-clause-plan
returns-clause-plan c =
    read-planned c.args.text.now c.in_ok-program.program c.in_ok-plan.plan c.in_ok-program.ensures.read
    (subst (λ l. Plans (accepted (unit_forms l)) (unit_forms l) c.in_ok-plan.plan) c.as_slice.ensures.value c.in_ok-plan.ensures.plan)
