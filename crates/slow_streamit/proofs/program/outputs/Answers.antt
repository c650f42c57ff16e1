use Rattle.std.proofs.Common.{◌≡◌, ◌+◌, ◌<◌, ℤ, List, length, get_or, IfOk, ap, sym, subst, arith}
use Rattle.slow_streamit.proofs.Streams.{outputs-last, readable-front, readable-at}
use Rattle.slow_streamit.proofs.program.outputs.Goals as goal

pub works-requires-clause-above : goal.works-requires-clause-above
works-requires-clause-above c = readable-front c.args.units.now c.in-Some.last c.requires

pub works-requires-clause-body : goal.works-requires-clause-body
works-requires-clause-body c =
    let us = c.args.units.now in
    let i = c.in-Some.last in
    let lt : i < length us = omega (arith, c.in-Some.ensures) in
    readable-at us i (get_or us i c.index-units-last.result) lt (ap (λ x. get_or us i x) c.index-units-last.is) c.requires

pub returns-in-Some : goal.returns-in-Some
returns-in-Some c =
    let us = c.args.units.now in
    let i = c.in-Some.last in
    let el : i + 1 ≡ length us = omega (arith, c.in-Some.ensures) in
    let means = outputs-last us i (get_or us i c.index-units-last.result) c.args.items.now el (ap (λ x. get_or us i x) c.index-units-last.is) in
    subst (λ (l : List ℤ). IfOk c.works.result (λ out. out ≡ l)) (sym means) c.works.ensures
