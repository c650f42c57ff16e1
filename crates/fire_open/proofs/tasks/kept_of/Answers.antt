use Rattle.std.proofs.Common.{subst, arith}
use Rattle.brooklet_step.specs.Initial.{AreFirstStates}
use Rattle.brooklet_step.specs.Took.{IsBlank}
use Rattle.brooklet_step.proofs.NextLemmas.{kernel_at}
use Rattle.brooklet_step.proofs.ReadLemmas.{ops_many}
use Rattle.brooklet_step.proofs.StartLemmas.{can_start_at, can_start_by}
use Rattle.fire_open.proofs.tasks.kept_of.Goals as goal

pub first_states-requires : goal.first_states-requires
first_states-requires c =
    let raw = c.raw.result.now in
    let p = c.args.plan.now in
    let d = c.at.result.now in
    let m = ops_many raw p c.raw.ensures.raw in
    let t = c.requires.there in
    can_start_at raw.ops c.args.op d (can_start_by raw p c.raw.ensures.raw c.requires.valid) (omega (arith, m, t)) (c.at.ensures d)

pub returns-clause-states : goal.returns-clause-states
returns-clause-states c = λ op g.
    let d = c.at.result.now in
    subst (λ k. AreFirstStates k c.in_ok-first.first.0)
    (kernel_at c.raw.result.now c.args.plan.now c.args.op d op c.raw.ensures.raw g (c.at.ensures d)) c.in_ok-first.ensures.states

pub returns-clause-emit : goal.returns-clause-emit
returns-clause-emit c = λ op g.
    let d = c.at.result.now in
    subst (λ k. IsBlank k c.in_ok-first.first.1) (kernel_at c.raw.result.now c.args.plan.now c.args.op d op c.raw.ensures.raw g (c.at.ensures d))
    c.in_ok-first.ensures.emit
