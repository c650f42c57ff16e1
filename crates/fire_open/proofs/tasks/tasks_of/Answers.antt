use Rattle.brooklet_step.proofs.Starts.{if_ok}
use Rattle.std.proofs.Common.{◌∙◌, length, ap, arith}
use Rattle.river_plan.specs.ByPlace.{queue_kinds}
use Rattle.river_plan.specs.Forms.{PlanForm}
use Rattle.brooklet_step.proofs.ReadLemmas.{ops_many}
use Rattle.brooklet_step.proofs.RunLemmas.{ops_few}
use Rattle.fire_open.proofs.FirstLemmas.{first_lines}
use Rattle.fire_open.proofs.FirstLemmas.{all_fresh, queues_long, kinds_many}
use Rattle.fire_open.proofs.tasks.tasks_of.Goals as goal

pub tasks_by-requires-clause-queues : goal.tasks_by-requires-clause-queues
tasks_by-requires-clause-queues c =
    queues_long c.args.plan.now c.raw-raw.ensures.valid c.args.inputs c.requires c.in_ok-queues.queues
    (c.in_ok-queues.ensures ∙ ap (λ (q : PlanForm). first_lines q c.args.inputs) c.raw-raw.ensures.raw)

pub tasks_by-requires-clause-kinds : goal.tasks_by-requires-clause-kinds
tasks_by-requires-clause-kinds c = ap length (c.in_ok-kinds.ensures ∙ ap queue_kinds c.raw-raw.ensures.raw) ∙ kinds_many c.args.plan.now

pub tasks_by-requires-clause-count : goal.tasks_by-requires-clause-count
tasks_by-requires-clause-count c = let m = ops_many c.raw-raw.result.now c.args.plan.now c.raw-raw.ensures.raw in omega (arith, m)

pub returns : goal.returns
returns c =
    if_ok _ _ c.tasks_by.result
    (λ ts h. all_fresh c.args.plan.now c.raw-raw.ensures.valid c.args.inputs c.requires ts _ c.in_ok-queues.queues c.in_ok-kinds.kinds h
    (let m = ops_many c.raw-raw.result.now c.args.plan.now c.raw-raw.ensures.raw in omega (arith, m))
    (c.in_ok-queues.ensures ∙ ap (λ (q : PlanForm). first_lines q c.args.inputs) c.raw-raw.ensures.raw)
    (c.in_ok-kinds.ensures ∙ ap queue_kinds c.raw-raw.ensures.raw))
    c.tasks_by.ensures

pub overflow_cast-count : goal.overflow_cast-count
overflow_cast-count c =
    let f = ops_few c.raw-raw.result.now c.args.plan.now c.raw-raw.ensures.raw c.raw-raw.ensures.valid in
    let a = f.0 in
    let b = f.1 in
    omega (arith, a, b)
