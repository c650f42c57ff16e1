use Rattle.std.proofs.Common.{[], sym, ap, ◌∙◌}
use Rattle.std.specs.Prelude.{codes}
use Rattle.river_kernels.specs.Kern.{duplicate, deal}
use Rattle.streamit_model.specs.Plan.{numbered, queues, with_own, weights, splitter}
use Rattle.streamit_build.specs.Units.{splitter_form}
use Rattle.streamit_build.proofs.Owning.{if_ok_then}
use Rattle.streamit_build.proofs.operators.split_op.Goals as goal

pub returns-in-None : goal.returns-in-None
returns-in-None c =
    let a = c.args in
    c.copying.ensures
    ∙ (λ i. record { label = c.in_ok-label.ensures i; kernel = duplicate a.n; reads = c.in_ok-reads.ensures i; writes = c.in_ok-writes.ensures i; vars = [] })
    ∙ ap (λ o. splitter (splitter_form o) a.n (numbered (codes "split") a.number) a.from (queues a.k a.n)) (sym c.in-None.is)

pub returns-in-Some : goal.returns-in-Some
returns-in-Some c =
    let a = c.args in
    let whole = ap (λ o. splitter (splitter_form o) a.n (numbered (codes "split") a.number) a.from (queues a.k a.n)) (sym c.in-Some.is) in
    if_ok_then c.dealing.result (λ op e. e ∙
    (λ i. with_own (c.in_ok-label.ensures i) (deal (weights (c.as_slice.ensures.value i))) (c.in_ok-reads.ensures i) (c.in_ok-writes.ensures i))
    ∙ whole) c.dealing.ensures
