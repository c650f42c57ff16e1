use Rattle.std.proofs.Common.{◌≡◌, ◌-◌, ◌+◌, ◌<◌, length, arith}
use Rattle.river_plan.proofs.CapLemmas.{known_more}
use Rattle.river_plan.proofs.caps.by_name.Goals as goal

pub loop-back-preserved : goal.loop-back-preserved
loop-back-preserved c =
    let caps = c.args.caps.now in
    let n = length caps in
    let back = c.loop-back.back in
    let count : c.len-count.result ≡ n = c.len-count.ensures in
    let more : back < c.len-count.result = c.loop-back-test.true in
    let lt : n - (back + 1) < n = omega (arith, count, more) in
    let next : n - back ≡ n - (back + 1) + 1 = omega (arith, count, more) in
    let same : c.len-count.result - 1 - back ≡ n - (back + 1) = omega (arith, count, more) in
    known_more c.loop-back.known c.insert.new.self caps (n - (back + 1)) (n - back) (c.len-count.result - 1 - back) c.at-cap.result.now lt next same
    (c.at-cap.ensures c.at-cap.result.now) c.loop-back.invariant c.in_ok-insert.ensures.updates
