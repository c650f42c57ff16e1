use Rattle.std.proofs.Common.{None}
use Rattle.river_plan.specs.Forms.{plan_form}
use Rattle.river_plan.proofs.JudgeLemmas.{told-judged, fault_of-is}
use Rattle.river_plan.proofs.ValidLaw.{no_fault-valid}
use Rattle.plan_check.proofs.judge.check.Goals as goal

pub of_valid-requires-clause-valid : goal.of_valid-requires-clause-valid
of_valid-requires-clause-valid c = no_fault-valid (plan_form c.args.raw) c.in-Ok.ensures.faultless

pub returns-in_ok-of_valid-in-Ok-clause-told : goal.returns-in_ok-of_valid-in-Ok-clause-told
returns-in_ok-of_valid-in-Ok-clause-told c = (c.in_ok-of_valid-in-Ok.ensures, fault_of-is (plan_form c.args.raw) None c.in-Ok.ensures.faultless)

pub returns-in-Err-clause-told : goal.returns-in-Err-clause-told
returns-in-Err-clause-told c = told-judged (plan_form c.args.raw) c.in-Err.fault c.in-Err.ensures.fault
