use Rattle.std.proofs.Common.{◌≡◌, length, ap, ◌∙◌, arith, subst}
use Rattle.river_plan.specs.Forms.{PlanForm}
use Rattle.brooklet_step.proofs.ReadLemmas.{ops_many}
use Rattle.fire_open.specs.Sources.{KnowWriters}
use Rattle.fire_open.proofs.SourceLemmas.{know_first}
use Rattle.fire_open.proofs.links.sources_of.Goals as goal

pub loop-writer-init : goal.loop-writer-init
loop-writer-init c =
    let e = c.raw-raw.ensures.raw in
    know_first c.args.plan.now c.len.result c.len-2.result c.len-3.result c.new-sources.result c.add_unknown.new.sources c.add_unknown-2.new.sources
    c.add_unknown-3.new.sources
    c.new-sources.ensures c.in_ok-add_unknown.ensures c.in_ok-add_unknown-2.ensures c.in_ok-add_unknown-3.ensures
    (c.len.ensures ∙ ap (λ (p : PlanForm). length p.outputs) e)
    (c.len-2.ensures ∙ ap (λ (p : PlanForm). length p.inputs) e)
    (c.len-3.ensures ∙ ap (λ (p : PlanForm). length p.queues) e)

pub add_writes-requires-clause-there : goal.add_writes-requires-clause-there
add_writes-requires-clause-there c =
    let l = c.len-writer-end.ensures in
    let m = ops_many c.raw-raw.result.now c.args.plan.now c.raw-raw.ensures.raw in
    let t = c.loop-writer-test.true in
    omega (arith, l, m, t)

pub returns : goal.returns
returns c =
    let w : c.loop-writer.writer ≡ c.len-writer-end.result = omega arith in
    let l = c.len-writer-end.ensures in
    let m = ops_many c.raw-raw.result.now c.args.plan.now c.raw-raw.ensures.raw in
    subst (λ n. KnowWriters c.args.plan.now n 0 c.loop-writer.sources) (omega (arith, w, l, m)) c.loop-writer.invariant
