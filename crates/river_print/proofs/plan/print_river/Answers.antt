use Rattle.std.proofs.Common.{◌≡◌, subst}
use Rattle.std.specs.Prelude.{IfOk}
use Rattle.river_plan.specs.Caps.{first_cap}
use Rattle.river_plan.specs.Forms.{PlanForm}
use Rattle.river_print.specs.Printed.{plan_text}
use Rattle.river_print.specs.Ranged.{IsRanged}
use Rattle.river_print.proofs.Promise.{promised-ok}
use Rattle.river_print.proofs.plan.print_river.Goals as goal

pub returns-clause-read : goal.returns-clause-read
returns-clause-read c =
    promised-ok c.print_raw.result c.args.caps.now c.args.plan.now
    (subst (λ (p : PlanForm). IfOk c.print_raw.result (λ text. text ≡ plan_text (first_cap c.args.caps.now) p)) c.raw-2.ensures.raw c.print_raw.ensures)
    c.requires c.raw.ensures.valid (subst IsRanged c.raw.ensures.raw c.read_plan.ensures)
