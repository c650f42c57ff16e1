use Rattle.std.proofs.Common.{◌≡◌, ◌+◌, ◌-◌, ◌<◌, ap, sym, ◌∙◌, arith}
use Rattle.std.proofs.lemmas.Option.{get_or_from_slice_get}
use Rattle.river_base.specs.Name.{name_eq}
use Rattle.slow_streamit.proofs.Streams.{place_next, place_here}
use Rattle.slow_streamit.proofs.program.place.Goals as goal

pub returns-then-eq : goal.returns-then-eq
returns-then-eq c =
    let us = c.args.above.now in
    let n = c.args.name in
    let k = c.loop-i.i in
    let pos : 0 < k = c.loop-i-test.true in
    let ek : k ≡ (k - 1) + 1 = omega (arith, pos) in
    let w = c.loop-i.invariant.within in
    let t = ap (λ x. name_eq x.name n) c.index-above-i.is ∙ sym (c.if-eq.ensures {u = tt}) in (
      omega (arith, w, pos),
      λ d e.
          let ed = get_or_from_slice_get us (k - 1) d c.index-above-i.result e in
          let same = c.index-above-i.is ∙ ed in
          place_here us n k (k - 1) d ek (sym (get_or_from_slice_get us (k - 1) d d e)) (ap (λ x. name_eq x.name n) (sym same) ∙ t) c.loop-i.invariant,
    )

pub loop-i-preserved : goal.loop-i-preserved
loop-i-preserved c =
    let us = c.args.above.now in
    let n = c.args.name in
    let k = c.loop-i.i in
    let pos : 0 < k = c.loop-i-test.true in
    let ek : k ≡ (k - 1) + 1 = omega (arith, pos) in
    let t = ap (λ x. name_eq x.name n) c.index-above-i.is ∙ sym (c.if-eq.ensures {u = tt}) in
    place_next us n k (k - 1) c.index-above-i.result ek c.index-above-i.is t c.loop-i.invariant
