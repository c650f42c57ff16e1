use Rattle.std.proofs.Common.{subst}
use Rattle.river_plan.specs.Forms.{plan_form}
use Rattle.river_plan.specs.Faults.{WrittenTwice, ReadTwice, Misfit}
use Rattle.river_plan.proofs.JudgeLemmas.{limit-first}
use Rattle.plan_check.proofs.judge.later_fault.Goals as goal

pub returns-in-Some-over_limit : goal.returns-in-Some-over_limit
returns-in-Some-over_limit c =
    let p = plan_form c.args.raw.now in
    limit-first p c.in-Some-over_limit.fault
    (subst (WrittenTwice p) c.in_default.is c.in_ok-name.ensures)
    (subst (ReadTwice p) c.in_default-2.is c.in_ok-name-2.ensures)
    c.in_default-read_too_early.ensures
    c.in_default-mistyped.ensures
    (subst (Misfit p) c.in_default-3.is c.in_ok-name-3.ensures)
    c.in-Some-over_limit.ensures
