use Rattle.std.proofs.Common.{Some, None, sym, ◌∙◌}
use Rattle.river_plan.specs.Forms.{plan_form}
use Rattle.plan_edits.proofs.KindLoops.{kind_first, kind_second, kind_third}
use Rattle.plan_edits.proofs.kinds.kind_of.Goals as goal

pub returns-in-Some : goal.returns-in-Some
returns-in-Some c = kind_first (plan_form c.args.raw.now) c.args.queue.now c.in-Some.kind (sym c.kind_in.ensures ∙ c.in-Some.is)

pub returns-in-Some-kind_in : goal.returns-in-Some-kind_in
returns-in-Some-kind_in c =
    kind_second (plan_form c.args.raw.now) c.args.queue.now c.in-Some-kind_in.kind (sym c.kind_in.ensures ∙ c.in_default.is)
    (sym c.kind_in-2.ensures ∙ c.in-Some-kind_in.is)

pub returns-in-Some-kind_in-2 : goal.returns-in-Some-kind_in-2
returns-in-Some-kind_in-2 c =
    kind_third (plan_form c.args.raw.now) c.args.queue.now (Some c.in-Some-kind_in-2.kind) (sym c.kind_in.ensures ∙ c.in_default.is)
    (sym c.kind_in-2.ensures ∙ c.in_default-kind_in.is) (sym c.kind_in-3.ensures ∙ c.in-Some-kind_in-2.is)

pub returns-in-None : goal.returns-in-None
returns-in-None c =
    kind_third (plan_form c.args.raw.now) c.args.queue.now None (sym c.kind_in.ensures ∙ c.in_default.is) (sym c.kind_in-2.ensures ∙ c.in_default-kind_in.is)
    (sym c.kind_in-3.ensures ∙ c.in-None.is)
