use Rattle.std.proofs.Common.{◌≡◌, ◌<◌, length, get_or, rules, arith}
use Rattle.std.specs.Prelude.{slice_index_or}
use Rattle.streamit_build.proofs.Weights.{cycle-more, cycle_above}
use Rattle.streamit_build.proofs.rounds.is_low.Goals as goal

pub returns-then-weight-left : goal.returns-then-weight-left
returns-then-weight-left c =
    let ws = c.args.written.now in
    let i = c.loop-weight.weight-index in
    let lt : i < length ws = search rules in
    let is : slice_index_or ws i 0 ≡ get_or ws i 0 = search rules in
    let a = cycle_above ws i c.loop-weight.left (slice_index_or ws i 0) lt is c.loop-weight.invariant c.if-weight-left.true in
    (λ f. absurd (cc f), λ le. absurd (omega (arith, a, le)))

pub loop-weight-preserved : goal.loop-weight-preserved
loop-weight-preserved c =
    let ws = c.args.written.now in
    let i = c.loop-weight.weight-index in
    let lt : i < length ws = search rules in
    let is : slice_index_or ws i 0 ≡ get_or ws i 0 = search rules in
    let m = cycle-more ws i lt in
    let s = c.loop-weight.invariant in
    let h = c.if-weight-left.false in
    omega (arith, m, is, s, h)
