use Rattle.std.proofs.Common.{◌≤◌, ◌<◌, sym, ap, ◌∙◌, arith}
use Rattle.std.proofs.Math.Nat.{mul_comm}
use Rattle.streamit_build.proofs.Weights.{equal_high, equal_fits, product_above}
use Rattle.streamit_build.proofs.Added.{fine}
use Rattle.streamit_build.proofs.rounds.equal.Goals as goal

pub returns-then-weight : goal.returns-then-weight
returns-then-weight c =
    let w = c.args.weight in
    let n = c.args.branches in
    let pos : 1 ≤ w = omega arith in
    let some = c.requires in
    let high : 65536 < w = omega arith in
    equal_high w n pos (product_above 65536 n w some high)

pub returns-then-branches : goal.returns-then-branches
returns-then-branches c =
    let w = c.args.weight in
    let n = c.args.branches in
    let pos : 1 ≤ w = omega arith in
    let high : 65536 < n = omega arith in
    let p = product_above 65536 w n pos high in
    let e = mul_comm w n in
    equal_high w n pos (omega (arith, p, e))

pub returns-then-weight-branches : goal.returns-then-weight-branches
returns-then-weight-branches c =
    let w = c.args.weight in
    let n = c.args.branches in
    let pos : 1 ≤ w = omega arith in
    let h = c.if-weight-branches.true in
    let e = mul_comm w n in
    equal_high w n pos (omega (arith, e, h))

pub returns : goal.returns
returns c =
    let w = c.args.weight in
    let n = c.args.branches in
    let pos : 1 ≤ w = omega arith in
    let h = c.if-weight-branches.false in
    let e = mul_comm w n in
    equal_fits w n pos (omega (arith, e, h)) ∙ ap fine (sym (c.in_ok-copies.ensures {u = tt}))
