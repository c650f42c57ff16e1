use Rattle.std.proofs.Common.{ap, ◌∙◌}
use Rattle.river_plan.specs.Forms.{plan_form, all_decls}
use Rattle.river_plan.specs.Kinds.{kind_of}
use Rattle.river_plan.proofs.NameLemmas.{not_false}
use Rattle.rw_local.specs.Hoist.{first_side_width}
use Rattle.rw_local.proofs.HoistCode.{width_first, not_empty}
use Rattle.rw_local.proofs.kinds.first_width.Goals as goal

pub returns : goal.returns
returns c =
    width_first (kind_of (all_decls (plan_form c.args.raw.now))) c.args.queues.now c.at.result.now c.width.result
    (not_empty c.args.queues.now (λ e. not_false (c.if-is_empty.ensures.1 e))) (λ d. c.at.ensures d) (c.width.ensures ∙ ap first_side_width c.kind_of.ensures)
