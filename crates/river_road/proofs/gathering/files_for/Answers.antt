use Rattle.std.proofs.Common.{◌≡◌, ap, ◌∙◌}
use Rattle.river_plan.specs.Forms.{PlanForm}
use Rattle.river_road.proofs.Contents.{inputs-apart}
use Rattle.river_road.proofs.gathering.files_for.Goals as goal

pub gather-requires-clause-outer : goal.gather-requires-clause-outer
gather-requires-clause-outer g c =
    let decls : c.as_slice-decls.result.now ≡ c.args.plan.now.inputs = c.as_slice-decls.ensures ∙ ap (λ (q : PlanForm). q.inputs) c.raw.ensures.raw in
    rw decls c.raw.ensures.valid.inputs_typed

pub gather-requires-clause-apart : goal.gather-requires-clause-apart
gather-requires-clause-apart g c =
    let decls : c.as_slice-decls.result.now ≡ c.args.plan.now.inputs = c.as_slice-decls.ensures ∙ ap (λ (q : PlanForm). q.inputs) c.raw.ensures.raw in
    rw decls (inputs-apart c.args.plan.now c.raw.ensures.valid)

pub returns-clause-contents : goal.returns-clause-contents
returns-clause-contents g c =
    let decls : c.as_slice-decls.result.now ≡ c.args.plan.now.inputs = c.as_slice-decls.ensures ∙ ap (λ (q : PlanForm). q.inputs) c.raw.ensures.raw in
    rw decls at c.gather.ensures.contents

pub returns-clause-passes : goal.returns-clause-passes
returns-clause-passes g c =
    let decls : c.as_slice-decls.result.now ≡ c.args.plan.now.inputs = c.as_slice-decls.ensures ∙ ap (λ (q : PlanForm). q.inputs) c.raw.ensures.raw in
    rw (decls, c.as_slice.ensures) at c.gather.ensures.passes
