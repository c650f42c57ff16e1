use Rattle.std.proofs.Common.{arith, ap}
use Rattle.work_code.specs.Steps.{step}
use Rattle.river_kernels.specs.Limits.{size_once}
use Rattle.kern_check.proofs.LimitLemmas.{size-more}
use Rattle.kern_check.proofs.above.+size.Goals as goal

pub size-loop-statement-preserved : goal.size-loop-statement-preserved
size-loop-statement-preserved t c =
    let i = c.loop-statement.statement-index in
    let xs = c.as_slice-statement-items.result.now in
    let m = size-more xs i c.statement-item.result c.loop-statement-test.true in
    let s = ap (λ x. size_once (step x)) c.statement-item.is in
    let e = c.saturating_add-number.ensures in
    let a = c.size_once.ensures in
    let n = c.loop-statement.invariant in
    omega (arith, m, s, e, a, n)
